-- `leave` meets its contract: the fields are the transition's.
use mir.Facts.{to_z-of_z}
use native.Mathlib.Omega.{arith}
use Rattle.remainders.specs.MovingLaws.{leave-asks, leave-done}
use Rattle.remainders.proofs.leave.Goals as goal

pub add-requires : goal.add-requires
add-requires c =
    rw (to_z-of_z c.ranges.factor) (leave-asks c.requires c.fields_of-t.ensures (omega arith) (omega arith))

pub returns : goal.returns
returns c =
    let b = rw (to_z-of_z c.ranges.factor) at c.add.ensures in
    leave-done c.requires c.fields_of-t.ensures b (omega arith) (omega arith)
