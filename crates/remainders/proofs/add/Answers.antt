-- `add` meets its contract: the remainder and its next value fit the machine's.
use mir.Facts.{to_z-of_z}
use Rattle.remainders.specs.MovingLaws.{remainder-fits, remainder-changes, next_fits, add_done}
use Rattle.remainders.proofs.add.Goals as goal

pub nonzero_after-requires : goal.nonzero_after-requires
nonzero_after-requires c = let a = c.requires in rw (to_z-of_z (remainder-fits a)) (remainder-changes a)

pub returns : goal.returns
returns c =
    let a = c.requires in
    let w = rw (to_z-of_z (remainder-fits a), to_z-of_z c.ranges.factor) at c.with_term-new.ensures in
    let n = rw (to_z-of_z (remainder-fits a), to_z-of_z (next_fits a w)) at c.nonzero_after.ensures in
    rw (to_z-of_z (next_fits a w)) (add_done a w n)
