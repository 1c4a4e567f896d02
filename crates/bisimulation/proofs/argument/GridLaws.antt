-- The laws of pairs of numbers.
use Prim.Native.Nat.{ℕ, zero, suc, ◌+◌, ◌*◌, ◌<◌}
use Rattle.std.specs.Prelude.{◌≡◌, ◌⊎◌}
use Rattle.std.proofs.Math.Path.{refl, sym, ap, ap₂}
use Rattle.std.proofs.Common.{◌∙◌, subst, inl, inr, eq-zero-or-pos, div-lt_iff_lt-mul, div-add-mod'}
use Rattle.std.proofs.Math.Decide.{ℕ_discrete}
use Rattle.std.proofs.Math.Nat.{mul-le-mul_right, mul-add-div_right, div-eq_of_lt, mul-add-mod_self_right, mod-eq_of_lt, mod-lt}
use native.Mathlib.Omega.{arith}
use Rattle.bisimulation.specs.definitions.Choice.{if_same}
use Rattle.bisimulation.proofs.argument.ChoiceLaws.{same, not_same, turned, kept_same}
use Rattle.bisimulation.specs.definitions.Sum.{sum}
use Rattle.bisimulation.proofs.argument.SumLaws.{sum_cong, sum_times, sum_times_right, sum_same}
use Rattle.bisimulation.proofs.argument.PartsLaws.{sum_split}
use Rattle.bisimulation.proofs.argument.Value.{value}
use Rattle.bisimulation.specs.definitions.Composed.{state_at}
use Rattle.bisimulation.proofs.argument.MovesLaws.{used_times}
use Rattle.bisimulation.proofs.argument.Grid.{left_of, right_of, spread, alongside}

module _ (n : ℕ) where
  -- the two of a pair
  pub left_at : (s e : ℕ) → e < n → left_of n (state_at n s e) ≡ s
  unfolding left_of state_at
  left_at s e l = omega (arith, mul-add-div_right {m = n} (omega arith) s e, div-eq_of_lt l)

  pub right_at : (s e : ℕ) → e < n → right_of n (state_at n s e) ≡ e
  unfolding right_of state_at
  right_at s e l = mul-add-mod_self_right s n e ∙ mod-eq_of_lt l

  -- each number is one pair
  pub state_same : (s t e f : ℕ) → e < n → f < n → state_at n s e ≡ state_at n t f → (s ≡ t) × (e ≡ f)
  state_same s t e f l k p = (sym (left_at s e l) ∙ ap (left_of n) p ∙ left_at t f k, sym (right_at s e l) ∙ ap (right_of n) p ∙ right_at t f k)

  pub state_below : (a s e : ℕ) → s < a → e < n → state_at n s e < a * n
  unfolding state_at
  state_below a s e l k = omega (arith, mul-le-mul_right n l)

  pub pair_of : (v : ℕ) → v ≡ state_at n (left_of n v) (right_of n v)
  unfolding left_of right_of state_at
  pair_of v = sym (div-add-mod' v n)

  module _ (a v : ℕ) (l : v < a * n) where
    some_right : 0 < n
    some_right = go (eq-zero-or-pos n)
      where
        go : (n ≡ 0) ⊎ (0 < n) → 0 < n
        go (inl e) = absurd (omega (arith, ap (λ (z : ℕ). a * z) e))
        go (inr p) = p

    pub left_below : left_of n v < a
    unfolding left_of
    left_below = (div-lt_iff_lt-mul some_right).1 l

    pub right_below : right_of n v < n
    unfolding right_of
    right_below = mod-lt v some_right

  pub by_grid {ℓ} : (a : ℕ) (P : ℕ → Type ℓ) → ((s e : ℕ) → s < a → e < n → P (state_at n s e)) → (v : ℕ) → v < a * n → P v
  by_grid a P h v l = subst P (sym (pair_of v)) (h (left_of n v) (right_of n v) (left_below a v l) (right_below a v l))

  -- two pairs are the same where both of them are
  pub grid_same : (s t e f x y : ℕ) → e < n → f < n → if_same (state_at n s e) (state_at n t f) (x * y) 0 ≡ if_same s t x 0 * if_same e f y 0
  grid_same s t e f x y l k = go (ℕ_discrete s t) (ℕ_discrete e f)
    where
      go : Dec (s ≡ t) → Dec (e ≡ f) → if_same (state_at n s e) (state_at n t f) (x * y) 0 ≡ if_same s t x 0 * if_same e f y 0
      go (yes p) (yes q) = sym (same 0 (ap₂ (state_at n) p q) (sym (ap₂ ◌*◌ (same 0 p refl) (same 0 q refl))))
      go (yes p) (no q) = sym (not_same (x * y) (λ z. q (state_same s t e f l k z).1) (ap (λ (z : ℕ). if_same s t x 0 * z) (sym (not_same y q refl)) ∙ omega arith))
      go (no p) d = sym (not_same (x * y) (λ z. p (state_same s t e f l k z).0) (ap (λ (z : ℕ). z * if_same e f y 0) (sym (not_same x p refl)) ∙ omega arith))

  -- a sum over all pairs
  pub sum_grid : (a : ℕ) (f : ℕ → ℕ) → sum (a * n) f ≡ sum a (λ s. sum n (λ e. f (state_at n s e)))
  unfolding sum state_at
  sum_grid zero f = let e : 0 * n ≡ 0 = omega arith in ap (λ (m : ℕ). sum m f) e
  sum_grid (suc a) f = let e : suc a * n ≡ a * n + n = omega arith in ap (λ (m : ℕ). sum m f) e ∙ sum_split (a * n) n f ∙ omega (arith, sum_grid a f)

  -- products of amounts
  pub spread_at : (x z : ℕ → ℕ) (s e : ℕ) → e < n → spread n x z (state_at n s e) ≡ x s * z e
  unfolding spread
  spread_at x z s e l = ap₂ (λ (i j : ℕ). x i * z j) (left_at s e l) (right_at s e l)

  pub spread_cong : (a : ℕ) {x y : ℕ → ℕ} (z : ℕ → ℕ) → ((s : ℕ) → s < a → x s ≡ y s) → (v : ℕ) → v < a * n → spread n x z v ≡ spread n y z v
  unfolding spread
  spread_cong a z h v l = ap (λ (i : ℕ). i * z (right_of n v)) (h (left_of n v) (left_below a v l))

  pub value_spread : (a : ℕ) (x z f g : ℕ → ℕ) → value (a * n) (spread n x z) (spread n f g) ≡ value a x f * value n z g
  unfolding value
  value_spread a x z f g =
      sum_grid a (λ v. spread n x z v * spread n f g v)
      ∙ sum_cong a _ (λ s. x s * f s * sum n (λ e. z e * g e)) (λ s l. sum_cong n _ _ (λ e k. both s e k) ∙ sum_times n (x s * f s) (λ e. z e * g e))
      ∙ sum_times_right a (sum n (λ e. z e * g e)) (λ s. x s * f s)
    where
      both : (s e : ℕ) → e < n → spread n x z (state_at n s e) * spread n f g (state_at n s e) ≡ x s * f s * (z e * g e)
      both s e k = ap₂ ◌*◌ (spread_at x z s e k) (spread_at f g s e k) ∙ omega arith

  -- what w brings and takes
  module _ (w : ℕ → ℕ → ℕ) (z : ℕ → ℕ) where
    pub alongside_at : (v u x y : ℕ) → x < n → y < n → alongside n w z (state_at n v x) (state_at n u y) ≡ if_same x y (w v u * z x) 0
    unfolding alongside
    alongside_at v u x y l k =
        ap₂ (λ (i j : ℕ). if_same i j (w (left_of n (state_at n v x)) (left_of n (state_at n u y)) * z i) 0) (right_at v x l) (right_at u y k)
        ∙ ap₂ (λ (i j : ℕ). if_same x y (w i j * z x) 0) (left_at v x l) (left_at u y k)

    pub alongside_used : (v u : ℕ) → 0 < alongside n w z v u → (right_of n v ≡ right_of n u) × (0 < w (left_of n v) (left_of n u))
    unfolding alongside
    alongside_used v u l =
        let o = kept_same {z = alongside n w z v u} (w (left_of n v) (left_of n u) * z (right_of n v)) 0 (right_of n v) (right_of n u) (λ e. omega arith) refl in
        (o.0, used_times (w (left_of n v) (left_of n u)) (z (right_of n v)) (omega (arith, o.1)))

    pub alongside_targets : (a v x : ℕ) → x < n → sum (a * n) (λ u. alongside n w z (state_at n v x) u) ≡ sum a (λ u. w v u) * z x
    alongside_targets a v x l =
        sum_grid a (λ u. alongside n w z (state_at n v x) u)
        ∙ sum_cong a _ (λ u. w v u * z x) (λ u i. sum_cong n _ _ (λ y k. alongside_at v u x y l k ∙ turned x y (w v u * z x) 0) ∙ sum_same n x (λ y. w v u * z x) l)
        ∙ sum_times_right a (z x) (λ u. w v u)

    pub alongside_sources : (a u y : ℕ) → y < n → sum (a * n) (λ v. alongside n w z v (state_at n u y)) ≡ sum a (λ v. w v u) * z y
    alongside_sources a u y k =
        sum_grid a (λ v. alongside n w z v (state_at n u y))
        ∙ sum_cong a _ (λ v. w v u * z y) (λ v i. sum_cong n _ _ (λ x l. alongside_at v u x y l k) ∙ sum_same n y (λ x. w v u * z x) k)
        ∙ sum_times_right a (z y) (λ v. w v u)
