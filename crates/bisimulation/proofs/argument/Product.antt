-- Finite products.
use Rattle.std.specs.Prelude.{ℕ, zero, suc, ◌*◌}

-- the product of f over the numbers below n
unfoldable pub product : ℕ → (ℕ → ℕ) → ℕ
product zero f = 1
product (suc n) f = product n f * f n
