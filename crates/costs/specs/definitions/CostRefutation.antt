-- Document 02, K6: the price conditions of a refutation with costs, as plain propositions.
use Rattle.std.specs.Prelude.{ℕ, ◌+◌, ◌*◌, ◌≡◌, ◌≢◌, ℤ}
use Rattle.bisimulation.specs.definitions.Automaton.{Automaton}
use Rattle.bisimulation.specs.definitions.Pairs.{Pairs}
use Rattle.bisimulation.specs.definitions.Refutation.{RefutesInternal, RefutesExternal}
use Rattle.costs.specs.definitions.CostPrices.{price_with_cost}

-- 'A refutation ends with one more price L': it stands behind the prices of 2n or 3n states
unfoldable pub price_after : Automaton → ℕ → (ℕ → ℤ) → ℤ
price_after A times p = p (times * A.states)

-- 'For every transition in the conditions, L times cost times d is added to the side of the targets; in the last condition L times the
-- challenger's cost times d0 is added to the side of G': the conditions of a record as without costs, with that for the side of the targets
pub record CostRefutes (cost : ℕ → ℕ) (A : Automaton) (R : Pairs) (q t : ℕ) (p : ℕ → ℤ) : Type 0 where
  pub internal : A.action q ≡ 0 → RefutesInternal A (price_with_cost cost A (price_after A 2 p)) R q t p (λ v. p (A.states + v))
  pub external : A.action q ≢ 0 → RefutesExternal A (price_with_cost cost A (price_after A 3 p)) R q t p (λ v. p (A.states + v)) (λ v. p (2 * A.states + v))
