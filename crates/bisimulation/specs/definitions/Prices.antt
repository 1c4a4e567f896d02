-- Document 01, 'The certificate': the sides of a refutation's conditions. Prices are whole numbers with a sign; X stands for the prices
-- A, B or G.
use Rattle.std.specs.Prelude.{ℕ, ℤ, pos, ◌*ℤ◌}
use Rattle.bisimulation.specs.definitions.Sum.{sumℤ}
use Rattle.bisimulation.specs.definitions.Automaton.{Automaton}

-- 'd times A(source)', 'd0 times A(t)': the price of a state, times the denominator of the transition q
unfoldable pub price_at : Automaton → (ℕ → ℤ) → ℕ → ℕ → ℤ
price_at A X q x = pos (A.denominator q) *ℤ X x

-- the side of the targets: of prices, and a transition
abbrev pub Side : Type 0
Side = (ℕ → ℤ) → ℕ → ℤ

-- 'the sum of p(v)A(v)' for the weights of the transition q
unfoldable pub price_of_targets : Automaton → Side
price_of_targets A X q = sumℤ A.states (λ v. pos (A.weight q v) *ℤ X v)
