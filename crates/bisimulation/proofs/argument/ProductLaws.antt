-- The laws of finite products.
use Rattle.std.specs.Prelude.{ℕ, zero, suc, ◌*◌, ◌<◌, ◌≡◌}
use Rattle.std.specs.Int.{◌∣◌}
use Rattle.std.proofs.Common.{subst, mul-pos, arith}
use Rattle.std.proofs.Math.Decide.{ℕ_discrete}
use Rattle.std.proofs.Math.Nat.{dvd-mul_left, dvd-mul_right_of_dvd}
use Rattle.bisimulation.proofs.argument.Product.{product}

pub product_positive : (n : ℕ) (f : ℕ → ℕ) → ((i : ℕ) → i < n → 0 < f i) → 0 < product n f
unfolding product
product_positive zero f h = omega arith
product_positive (suc n) f h = mul-pos (product_positive n f (λ i l. h i (omega arith))) (h n (omega arith))

-- each factor divides the product
pub factor_divides : (n : ℕ) (f : ℕ → ℕ) (i : ℕ) → i < n → f i ∣ product n f
unfolding product
factor_divides zero f i l = absurd (omega arith)
factor_divides (suc n) f i l = go (factor_divides n f i) (ℕ_discrete n i)
  where
    go : (i < n → f i ∣ product n f) → Dec (n ≡ i) → f i ∣ product n f * f n
    go h (yes e) = subst (λ (x : ℕ). f x ∣ product n f * f n) e (dvd-mul_left (f n) (product n f))
    go h (no d) = dvd-mul_right_of_dvd (f i) (h (omega arith)) (f n)
