-- `with_weight` meets its contract.
-- a weight of 1, and the first weight
use native.Mathlib.Omega.{arith}
use Prim.Native.Nat.{ℕ}
use mathlib.Core.Path.{◌≡◌, sym, ◌∙◌, ap}
use Rattle.numbers.specs.definitions.Divisor.{divisor}
use Rattle.numbers.proofs.argument.DivisorLaws.{divisor-first, divisor-one-last}
use Rattle.transition_terms.proofs.with_weight.Goals as goal

with-one : (shared weight : ℕ) → weight ≡ 1 → 1 ≡ divisor shared weight
with-one shared weight e = sym (ap (divisor shared) e ∙ divisor-one-last shared)

first-weight : (shared weight : ℕ) → shared ≡ 0 → weight ≡ divisor shared weight
first-weight shared weight e = sym (ap (λ (g : ℕ). divisor g weight) e ∙ divisor-first weight)

pub returns-then-weight-eq1 : goal.returns-then-weight-eq1
returns-then-weight-eq1 c = with-one _ _ (omega arith)

pub returns-then-shared-eq0 : goal.returns-then-shared-eq0
returns-then-shared-eq0 c = first-weight _ _ (omega arith)
