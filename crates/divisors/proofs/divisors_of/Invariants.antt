-- `divisors_of` meets its contract: the table holds the divisors of the transitions that were passed.
use Rattle.divisors.specs.Table.{HoldsDivisors}
use Rattle.divisors.proofs.divisors_of.Given as goal

abbrev pub invariant-loop-r : goal.invariant-loop-r
invariant-loop-r l = HoldsDivisors l.model.file.now l.r l.divisors
