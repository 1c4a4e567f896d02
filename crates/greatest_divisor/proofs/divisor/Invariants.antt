-- `divisor` meets its contract. The invariant: the two numbers at hand have the divisor of the first two.
use mathlib.Core.Path.{◌≡◌}
use Rattle.numbers.specs.definitions.Divisor as numbers
use Rattle.greatest_divisor.proofs.divisor.Given as goal

abbrev pub invariant-loop-low : goal.invariant-loop-low
invariant-loop-low l = numbers.divisor l.high l.low ≡ numbers.divisor l.a l.b

abbrev pub decreases-loop-low : goal.decreases-loop-low
decreases-loop-low l = l.low
