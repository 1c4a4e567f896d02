-- `write_decimal` meets its contract. The invariant is `Filling`.
use Rattle.decimals.specs.Digits.{Filling}
use Rattle.decimals.proofs.write_decimal.Given as goal

abbrev pub invariant-loop-left : goal.invariant-loop-left
invariant-loop-left l = Filling l.x l.digits l.from l.left

abbrev pub decreases-loop-left : goal.decreases-loop-left
decreases-loop-left l = l.left
