-- The value of amounts at the states, at given prices, over the natural numbers.
use Rattle.std.specs.Prelude.{ℕ, ◌*◌}
use Rattle.bisimulation.specs.definitions.Sum.{sum}

-- the value of the amounts f at the n states, at the prices X
unfoldable pub value : ℕ → (ℕ → ℕ) → (ℕ → ℕ) → ℕ
value n f X = sum n (λ v. f v * X v)
