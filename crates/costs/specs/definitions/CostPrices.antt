-- Document 02, K6: the side of a refutation's conditions that costs are added to. X stands for the prices A, B or G.
use Rattle.std.specs.Prelude.{ℕ, ◌*◌, ℤ, pos, ◌+ℤ◌, ◌*ℤ◌}
use Rattle.bisimulation.specs.definitions.Automaton.{Automaton}
use Rattle.bisimulation.specs.definitions.Prices.{Side, price_of_targets}

-- 'L times cost times d is added to the side of the targets', for the transition r, to 'the sum of p(v)A(v)'; with the prices G and the
-- challenger, 'to the side of G'
unfoldable pub price_with_cost : (cost : ℕ → ℕ) → Automaton → (L : ℤ) → Side
price_with_cost cost A L X r = price_of_targets A X r +ℤ pos (cost r * A.denominator r) *ℤ L
