-- `start` meets its contract. The invariant: the first v rows hold the pairs.
use Rattle.pairs.specs.Rows.{HoldsRows}
use Rattle.classes.specs.Classes.{same_labels}
use Rattle.classes.proofs.start.Given as goal

abbrev pub invariant-loop-v : goal.invariant-loop-v
invariant-loop-v l = HoldsRows l.v l.n (same_labels l.labels) l.rows
