-- What is said of pairs of numbers (s,e), e below n, each with the number that `state_at` gives it.
use Rattle.std.specs.Prelude.{ℕ, ◌*◌, ◌/◌, ◌%◌}
use Rattle.bisimulation.specs.definitions.Choice.{if_same}

-- the two of a pair
unfoldable pub left_of : (n v : ℕ) → ℕ
left_of n v = v / n

unfoldable pub right_of : (n v : ℕ) → ℕ
right_of n v = v % n

-- the amount x of the one times the amount z of the other
unfoldable pub spread : ℕ → (x z : ℕ → ℕ) → ℕ → ℕ
spread n x z v = x (left_of n v) * z (right_of n v)

-- w of (s,e) and (t,e) is w of s and t, times z of e; of pairs with different rights it is 0
unfoldable pub alongside : ℕ → (w : ℕ → ℕ → ℕ) (z : ℕ → ℕ) → ℕ → ℕ → ℕ
alongside n w z v u = if_same (right_of n v) (right_of n u) (w (left_of n v) (left_of n u) * z (right_of n v)) 0
