-- Document 02, K14: the price conditions of a strong refutation, as plain propositions.
use Rattle.std.specs.Prelude.{ℕ, ◌+◌, ◌<◌, ℤ, ◌≤ℤ◌}
use Rattle.bisimulation.specs.definitions.Automaton.{Automaton}
use Rattle.bisimulation.specs.definitions.Prices.{price_at, price_of_targets}
use Rattle.bisimulation.specs.definitions.Pairs.{Pairs}
use Rattle.bisimulation.specs.definitions.Refutation.{RelatedCondition, LastCondition}
use Rattle.strong.specs.definitions.StrongStepRule.{StrongAllows}

-- 'one price A for t, then B and G', as they follow each other: A is the price of every state, since no other than t is asked for it
unfoldable pub price_a : (ℕ → ℤ) → ℕ → ℤ
price_a p v = p 0

unfoldable pub prices_b : (ℕ → ℤ) → ℕ → ℤ
prices_b p v = p (1 + v)

unfoldable pub prices_g : Automaton → (ℕ → ℤ) → ℕ → ℤ
prices_g A p v = p (1 + A.states + v)

-- 'for each such transition d times A is at least the sum of p(v)B(v), with the condition between B and G and the last one as for an external
-- challenger, and no other price condition'
pub record StrongRefutes (A : Automaton) (R : Pairs) (q t : ℕ) (p : ℕ → ℤ) : Type 0 where
  pub move : (r : ℕ) → r < A.transitions → StrongAllows A q t r → price_of_targets A (prices_b p) r ≤ℤ price_at A (price_a p) r t
  pub related : RelatedCondition A R (prices_b p) (prices_g A p)
  pub last : LastCondition A (price_of_targets A) q t (price_a p) (prices_g A p)
