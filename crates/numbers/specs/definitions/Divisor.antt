-- The greatest common divisor, by Euclid's way: that it is the greatest is a theorem (`divisor-greatest`).
use Rattle.std.specs.Prelude.{ℕ, zero, suc, ◌*◌, ◌%◌, ◌≡◌, List, [], ◌∷◌}
use Rattle.bisimulation.specs.definitions.Choice.{if_same}

-- of a and b, where `most` is at least b
unfoldable pub divisor_within : (most a b : ℕ) → ℕ
divisor_within zero a b = a
divisor_within (suc most) a b = if_same b 0 a (divisor_within most b (a % b))

-- of two numbers; of 0 and b it is b
unfoldable pub divisor : (a b : ℕ) → ℕ
divisor a b = divisor_within b a b

-- of all numbers of a list and one more
unfoldable pub divisor_of : ℕ → List ℕ → ℕ
divisor_of g [] = g
divisor_of g (x ∷ xs) = divisor_of (divisor g x) xs

-- g divides x
pub record Divides (g x : ℕ) : Type 0 where
  pub times : ℕ
  pub product : times * g ≡ x
