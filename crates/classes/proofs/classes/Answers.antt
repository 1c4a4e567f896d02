-- `classes` meets its contract. The invariant: the classes of the first u states.
use Rattle.std.proofs.Common.{sym}
use Rattle.classes.specs.ClassesLaws.{classes-none, classes-more}
use Rattle.classes.proofs.classes.Goals as goal

pub loop-u-init : goal.loop-u-init
loop-u-init c = classes-none _ _ c.requires.3

pub loop-u-preserved : goal.loop-u-preserved
loop-u-preserved c =
    let b = c.byte_of-byte.ensures in
    rw c.relate.ensures (classes-more _ _ _ _ c.loop-u.invariant (sym b.0) b.1)
