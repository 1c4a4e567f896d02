-- `divisor` meets its contract. The invariant: the two numbers at hand have the divisor of the first two.
use native.Mathlib.Omega.{arith}
use native.Mathlib.Nat.{mod-lt}
use mathlib.Core.Path.{◌≡◌, refl, sym, ◌∙◌, ap}
use Rattle.numbers.specs.definitions.Divisor as numbers
use Rattle.numbers.proofs.argument.DivisorLaws.{divisor-step, divisor-last}
use Rattle.greatest_divisor.proofs.divisor.Goals as goal

pub loop-low-init : goal.loop-low-init
loop-low-init c = refl

pub nonzero_rem-rest : goal.nonzero_rem-rest
nonzero_rem-rest c = omega arith

pub loop-low-smaller : goal.loop-low-smaller
loop-low-smaller c = mod-lt _ (omega arith)

pub loop-low-preserved : goal.loop-low-preserved
loop-low-preserved c = sym (divisor-step _ _) ∙ c.loop-low.invariant

pub returns : goal.returns
returns c =
    let last : c.loop-low.low ≡ 0 = omega arith in
    sym (divisor-last _) ∙ ap (numbers.divisor _) (sym last) ∙ c.loop-low.invariant
