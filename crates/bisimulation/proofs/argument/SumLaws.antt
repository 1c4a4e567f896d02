-- The laws of finite sums.
use Rattle.std.specs.Prelude.{ℕ, zero, suc, ◌+◌, ◌*◌, ◌≤◌, ◌<◌, ◌≡◌, refl, ℤ, ◌+ℤ◌}
use Rattle.std.proofs.Common.{sym, ap, ap₂, le_refl, arith}
use Rattle.std.proofs.Math.Decide.{ℕ_discrete}
use Rattle.bisimulation.specs.definitions.Choice.{if_same}
use Rattle.bisimulation.proofs.argument.ChoiceLaws.{same, not_same, either_same}
use Rattle.bisimulation.specs.definitions.Sum.{sum, sumℤ}

-- terms that are equal, at most as large, or 0
pub sum_cong : (n : ℕ) (f g : ℕ → ℕ) → ((i : ℕ) → i < n → f i ≡ g i) → sum n f ≡ sum n g
unfolding sum
sum_cong zero f g h = refl
sum_cong (suc n) f g h = omega (arith, sum_cong n f g (λ i l. h i (omega arith)), h n (omega arith))

pub sum_mono : (n : ℕ) (f g : ℕ → ℕ) → ((i : ℕ) → i < n → f i ≤ g i) → sum n f ≤ sum n g
unfolding sum
sum_mono zero f g h = omega arith
sum_mono (suc n) f g h = omega (arith, sum_mono n f g (λ i l. h i (omega arith)), h n (omega arith))

pub sum_zero : (n : ℕ) (f : ℕ → ℕ) → ((i : ℕ) → i < n → f i ≡ 0) → sum n f ≡ 0
unfolding sum
sum_zero zero f h = refl
sum_zero (suc n) f h = omega (arith, sum_zero n f (λ i l. h i (omega arith)), h n (omega arith))

-- a sum of sums, and a common factor
pub sum_add : (n : ℕ) (f g : ℕ → ℕ) → sum n (λ i. f i + g i) ≡ sum n f + sum n g
unfolding sum
sum_add zero f g = refl
sum_add (suc n) f g = omega (arith, sum_add n f g)

pub sum_times : (n c : ℕ) (f : ℕ → ℕ) → sum n (λ i. c * f i) ≡ c * sum n f
unfolding sum
sum_times zero c f = omega arith
sum_times (suc n) c f = omega (arith, sum_times n c f)

pub sum_times_right : (n c : ℕ) (f : ℕ → ℕ) → sum n (λ i. f i * c) ≡ sum n f * c
unfolding sum
sum_times_right zero c f = omega arith
sum_times_right (suc n) c f = omega (arith, sum_times_right n c f)

-- two sums exchanged
pub sum_exchange : (n m : ℕ) (f : ℕ → ℕ → ℕ) → sum n (λ i. sum m (λ j. f i j)) ≡ sum m (λ j. sum n (λ i. f i j))
unfolding sum
sum_exchange zero m f = sym (sum_zero m (λ j. 0) (λ i l. refl))
sum_exchange (suc n) m f = omega (arith, sum_exchange n m f, sum_add m (λ j. sum n (λ i. f i j)) (λ j. f n j))

-- the one term whose index is t
pub sum_same : (n t : ℕ) (f : ℕ → ℕ) → t < n → sum n (λ i. if_same i t (f i) 0) ≡ f t
unfolding sum
sum_same zero t f l = absurd (omega arith)
sum_same (suc n) t f l = go (sum_same n t f) (ℕ_discrete n t)
  where
    go : (t < n → sum n (λ i. if_same i t (f i) 0) ≡ f t) → Dec (n ≡ t) → sum n (λ i. if_same i t (f i) 0) + if_same n t (f n) 0 ≡ f t
    go h (yes e) = omega (arith, same 0 e (ap f (sym e)), sum_zero n (λ i. if_same i t (f i) 0) (λ i k. sym (not_same (f i) (λ (o : i ≡ t). omega arith) refl)))
    go h (no e) = omega (arith, not_same {z = 0} (f n) e refl, h (omega arith))

-- no term is above the sum
pub term_le : (n : ℕ) (f : ℕ → ℕ) (i : ℕ) → i < n → f i ≤ sum n f
term_le n f i l = omega (arith, sum_same n i f l, sum_mono n (λ j. if_same j i (f j) 0) f (λ j k. either_same (λ x. x ≤ f j) j i (le_refl (f j)) (omega arith)))

-- equal terms, equal sums of numbers with a sign
pub sumℤCong : (n : ℕ) (f g : ℕ → ℤ) → ((i : ℕ) → i < n → f i ≡ g i) → sumℤ n f ≡ sumℤ n g
unfolding sumℤ
sumℤCong zero f g h = refl
sumℤCong (suc n) f g h = ap₂ ◌+ℤ◌ (sumℤCong n f g (λ i l. h i (omega arith))) (h n (omega arith))
