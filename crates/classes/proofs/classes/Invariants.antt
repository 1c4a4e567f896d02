-- `classes` meets its contract. The invariant: the classes of the first u states.
use Rattle.classes.specs.Classes.{AreClasses}
use Rattle.classes.proofs.classes.Given as goal

abbrev pub invariant-loop-u : goal.invariant-loop-u
invariant-loop-u l = AreClasses l.bytes l.u l.rows
