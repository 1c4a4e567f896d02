-- Numbers with a sign, multiplied by one number: sums and orders keep the factor.
use Prim.Native.Nat.{ℕ, zero, suc, ◌+◌, ◌*◌, ◌-◌, ◌≤◌, ◌<◌}
use Rattle.std.specs.Prelude.{◌≡◌, refl, Bool, true, false, cond, ℤ, pos, negsuc, neg_ℤ, ◌+ℤ◌, ◌*ℤ◌, ◌≤ℤ◌, ◌<ℤ◌, ltb}
use Rattle.std.proofs.Common.{ap, leb→le, ltb→lt, le→leb, lt→ltb, ltb-true, ltb-false, arith, le_of_mul-le-mul_right, lt_of_mul-lt-mul_right, mul-le-mul_right, mul-lt-mul_of_pos_right}
use Rattle.std.proofs.Math.IntN.{sub_ℕ}
use Rattle.bisimulation.specs.definitions.Sum.{sumℤ}

-- the second number is the first times g
pub data Times (g : ℕ) : ℤ → ℤ → Type 0 where
  above : (a b : ℕ) → b ≡ a * g → Times g (pos a) (pos b)
  below : (a b : ℕ) → suc b ≡ suc a * g → Times g (negsuc a) (negsuc b)

module _ (g : ℕ) (some : 1 ≤ g) where
  pub times-le : {y z Y Z : ℤ} → Times g y Y → Times g z Z → Y ≤ℤ Z → y ≤ℤ z
  times-le (above a b p) (above c d q) h = record { le = le→leb a c (le_of_mul-le-mul_right {k = g} (omega (arith, leb→le b d h.le)) some) }
  times-le (above a b p) (below c d q) h = absurd h.le
  times-le (below a b p) (above c d q) h = record { le = tt }
  times-le (below a b p) (below c d q) h = let l : suc c ≤ suc a = le_of_mul-le-mul_right {k = g} (omega (arith, leb→le d b h.le)) some in record { le = le→leb c a (omega arith) }

  pub times-lt : {y z Y Z : ℤ} → Times g y Y → Times g z Z → Y <ℤ Z → y <ℤ z
  times-lt (above a b p) (above c d q) h = record { lt = lt→ltb a c (lt_of_mul-lt-mul_right g (omega (arith, ltb→lt b d h.lt))) }
  times-lt (above a b p) (below c d q) h = absurd h.lt
  times-lt (below a b p) (above c d q) h = record { lt = tt }
  times-lt (below a b p) (below c d q) h = let l : suc c < suc a = lt_of_mul-lt-mul_right g (omega (arith, ltb→lt d b h.lt)) in record { lt = lt→ltb c a (omega arith) }

  times-sub : (a b c d : ℕ) → c ≡ a * g → d ≡ b * g → Times g (sub_ℕ a b) (sub_ℕ c d)
  times-sub a b c d p q = go (ltb a b) refl (ltb c d) refl
    where
      go : (t : Bool) → ltb a b ≡ t → (u : Bool) → ltb c d ≡ u → Times g (cond t (negsuc (b - suc a)) (pos (a - b))) (cond u (negsuc (d - suc c)) (pos (c - d)))
      go true h true k =
          let l = ltb-true a b h in
          let m = ltb-true c d k in
          let n : b ≡ suc (b - suc a) + a = omega arith in
          below (b - suc a) (d - suc c) (omega (arith, ap (λ (z : ℕ). z * g) n))
      go true h false k =
          let l : a * g < b * g = mul-lt-mul_of_pos_right (ltb-true a b h) some in
          absurd (omega (arith, ltb-false c d k))
      go false h true k =
          let l : b * g ≤ a * g = mul-le-mul_right g (ltb-false a b h) in
          absurd (omega (arith, ltb-true c d k))
      go false h false k =
          let l = ltb-false a b h in
          let m = ltb-false c d k in
          let n : a ≡ (a - b) + b = omega arith in
          above (a - b) (c - d) (omega (arith, ap (λ (z : ℕ). z * g) n))

  pub times-sum : {y z Y Z : ℤ} → Times g y Y → Times g z Z → Times g (y +ℤ z) (Y +ℤ Z)
  times-sum (above a b p) (above c d q) = above (a + c) (b + d) (omega arith)
  times-sum (above a b p) (below c d q) = times-sub a (suc c) b (suc d) p q
  times-sum (below a b p) (above c d q) = times-sub c (suc a) d (suc b) q p
  times-sum (below a b p) (below c d q) = below (suc (a + c)) (suc (b + d)) (omega arith)

  times-negative : (a b : ℕ) → b ≡ a * g → Times g (neg_ℤ (pos a)) (neg_ℤ (pos b))
  times-negative zero zero e = above 0 0 (omega arith)
  times-negative zero (suc b) e = absurd (omega arith)
  times-negative (suc a) zero e = absurd (omega arith)
  times-negative (suc a) (suc b) e = below a b e

  -- a number times a factor, which has g
  pub times-factor : (c d : ℕ) → d ≡ c * g → (z : ℤ) → Times g (pos c *ℤ z) (pos d *ℤ z)
  times-factor c d e (pos n) = above (c * n) (d * n) (omega (arith, ap (λ (x : ℕ). x * n) e))
  times-factor c d e (negsuc n) = times-negative (c * suc n) (d * suc n) (omega (arith, ap (λ (x : ℕ). x * suc n) e))

  pub times-total : (n : ℕ) (f F : ℕ → ℤ) → ((i : ℕ) → i < n → Times g (f i) (F i)) → Times g (sumℤ n f) (sumℤ n F)
  unfolding sumℤ
  times-total zero f F h = above 0 0 (omega arith)
  times-total (suc n) f F h = times-sum (times-total n f F (λ i l. h i (omega arith))) (h n (omega arith))
