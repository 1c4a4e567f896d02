-- Laws of the count of remainders that are not zero.
use Rattle.std.specs.Prelude.{ℕ, zero, suc, ◌+◌, ◌≤◌, ◌<◌, ◌≡◌, refl, List, [], ◌∷◌, length, set, ℤ, pos, negsuc}
use Rattle.std.proofs.Common.{sym, ◌∙◌, ap, length-set, SFits, to_z, of_z, to_z-of_z, arith}
use Rattle.std.specs.Int.{w64}
use mir.Val.{bool_byte}
use mathlib.Core.Bool.{Bool, true, false, not}
use Rattle.std.proofs.Math.Dec.{eqb}
use Rattle.std.proofs.lemmas.Bool.{eqb-true, eqb-false}
use Rattle.limits.specs.Sizes as sizes
use Rattle.remainders.specs.Remainders.{remainder_at, AllZero}
use Rattle.remainders.specs.Nonzero.{is_nonzero, nonzero_in, CanChange, Counted, Became}

zero-nonzero : {z : ℤ} → z ≡ pos 0 → is_nonzero z ≡ 0
unfolding is_nonzero
zero-nonzero e = rw e refl

not-zero : (z : ℤ) → (z ≡ pos 0 → ⊥) → is_nonzero z ≡ 1
unfolding is_nonzero
not-zero (pos zero) o = absurd (o refl)
not-zero (pos (suc a)) o = refl
not-zero (negsuc a) o = refl

-- as the machine tests it, by its bits
pub zero_bits : {z : ℤ} → SFits w64 z → of_z w64 z ≡ 0 → is_nonzero z ≡ 0
zero_bits fits e = zero-nonzero (sym (to_z-of_z fits) ∙ ap (to_z w64) e)

pub not-zero-bits : (z : ℤ) → (of_z w64 z ≡ 0 → ⊥) → is_nonzero z ≡ 1
not-zero-bits z o = not-zero z (λ e. o (ap (of_z w64) e))

pub nonzero-byte : {z : ℤ} → SFits w64 z → bool_byte (not (eqb (of_z w64 z) 0)) ≡ is_nonzero z
nonzero-byte {z} fits = go (eqb (of_z w64 z) 0) refl
  where
    go : (b : Bool) → eqb (of_z w64 z) 0 ≡ b → bool_byte (not b) ≡ is_nonzero z
    go true e = sym (zero_bits fits (eqb-true _ _ e))
    go false e = sym (not-zero-bits z (eqb-false _ _ e))

is_zero : (z : ℤ) → is_nonzero z ≡ 0 → z ≡ pos 0
unfolding is_nonzero
is_zero (pos zero) e = refl
is_zero (pos (suc a)) e = absurd (omega arith)
is_zero (negsuc a) e = absurd (omega arith)

-- one remainder changes
nonzero-set : (remainders : List ℤ) (i : ℕ) (new : ℤ) → i < length remainders → nonzero_in (set remainders i new) + is_nonzero (remainder_at remainders i) ≡ nonzero_in remainders + is_nonzero new
unfolding nonzero_in
nonzero-set [] i new h = absurd (omega arith)
nonzero-set (z ∷ zs) zero new h = omega arith
nonzero-set (z ∷ zs) (suc i) new h = omega (arith, nonzero-set zs i new (omega arith))

pub at_most_one : (z : ℤ) → is_nonzero z ≤ 1
unfolding is_nonzero
at_most_one (pos zero) = omega arith
at_most_one (pos (suc a)) = omega arith
at_most_one (negsuc a) = omega arith

nonzero-most : (remainders : List ℤ) → nonzero_in remainders ≤ length remainders
unfolding nonzero_in
nonzero-most [] = omega arith
nonzero-most (z ∷ zs) = omega (arith, at_most_one z, nonzero-most zs)

nonzero-one : (remainders : List ℤ) (i : ℕ) → i < length remainders → is_nonzero (remainder_at remainders i) ≤ nonzero_in remainders
unfolding nonzero_in
nonzero-one [] i h = absurd (omega arith)
nonzero-one (z ∷ zs) zero h = omega arith
nonzero-one (z ∷ zs) (suc i) h = omega (arith, nonzero-one zs i (omega arith))

-- no remainder is left
none_left : (remainders : List ℤ) → nonzero_in remainders ≡ 0 → (i : ℕ) → i < length remainders → remainder_at remainders i ≡ pos 0
none_left remainders e i h = is_zero (remainder_at remainders i) (omega (arith, nonzero-one remainders i h))

all-zero : (remainders : List ℤ) → ((i : ℕ) → i < length remainders → remainder_at remainders i ≡ pos 0) → nonzero_in remainders ≡ 0
unfolding nonzero_in
all-zero [] h = refl
all-zero (z ∷ zs) h =
    let here = zero-nonzero (h 0 (omega arith)) in
    let rest = all-zero zs (λ i less. h (suc i) (omega arith)) in
    omega arith

module _ {remainders : List ℤ} {nonzero : ℕ} (t : Counted remainders nonzero) where
  -- a remainder may change, and the table and its count follow
  pub can-change : {i : ℕ} → i < sizes.remainders → CanChange nonzero (remainder_at remainders i)
  can-change {i} h =
      record {
        some = omega (arith, t.size, t.count, nonzero-one remainders i (omega (arith, t.size)));
        few = omega (arith, t.size, t.count, nonzero-most remainders);
      }

  pub changed : (i : ℕ) (new : ℤ) {now : ℕ} → i < sizes.remainders → now + is_nonzero (remainder_at remainders i) ≡ nonzero + is_nonzero new → Became (set remainders i new) (set remainders i new) now
  changed i new h e =
      record {
        same = refl;
        counted =
            record {
              size = length-set remainders i new ∙ t.size;
              count = omega (arith, t.count, nonzero-set remainders i new (omega (arith, t.size)));
            };
      }

  pub zero-remainders : nonzero ≡ 0 → AllZero remainders
  zero-remainders e =
      record { size = t.size; zero = λ i h. none_left remainders (omega (arith, t.count)) i (omega (arith, t.size)) }

  pub nonzero-remainders : (nonzero ≡ 0 → ⊥) → ((i : ℕ) → i < sizes.remainders → remainder_at remainders i ≡ pos 0) → ⊥
  nonzero-remainders o h = o (t.count ∙ all-zero remainders (λ i less. h i (omega (arith, t.size))))

pub counted-zero : {remainders : List ℤ} → AllZero remainders → Counted remainders 0
counted-zero {remainders} z =
    record { size = z.size; count = sym (all-zero remainders (λ i h. z.zero i (omega (arith, z.size)))) }
