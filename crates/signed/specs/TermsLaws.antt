-- Laws of the size of sums and terms.
use Rattle.std.specs.Prelude.{ℕ, zero, suc, ◌+◌, ◌*◌, ◌-◌, ◌^◌, ◌≤◌, ◌<◌, ◌≡◌, refl, Bool, true, false, cond, ltb, ℤ, pos, negsuc, neg_ℤ, ◌+ℤ◌, ◌-ℤ◌, ◌*ℤ◌, nat_abs}
use Rattle.std.proofs.Common.{◌∙◌, ap, SFits, to_z, of_z, to_z-of_z, ltb-true, mul-le-mul_left, arith}
use Rattle.std.proofs.Math.IntN.{sub_ℕ, +ℤ_idl}
use Rattle.std.specs.Int.Signed.{mag}
use Rattle.std.specs.Int.{w64}
use Rattle.std.proofs.Math.Facts.{to_z_pos}
use Rattle.signed.specs.Terms.{Addable, WithTerm}

-- how large a difference, a sum and a product are at most
abs-sub : (a b : ℕ) → nat_abs (sub_ℕ a b) ≤ a + b
abs-sub a b = go (ltb a b) refl
  where
    go : (t : Bool) → ltb a b ≡ t → nat_abs (cond t (negsuc (b - suc a)) (pos (a - b))) ≤ a + b
    go true h = omega (arith, ltb-true a b h)
    go false h = omega arith

pub abs-add : (y z : ℤ) → nat_abs (y +ℤ z) ≤ nat_abs y + nat_abs z
abs-add (pos a) (pos b) = omega arith
abs-add (pos a) (negsuc b) = abs-sub a (suc b)
abs-add (negsuc a) (pos b) = omega (arith, abs-sub b (suc a))
abs-add (negsuc a) (negsuc b) = omega arith

abs-minus : (z : ℤ) → nat_abs (neg_ℤ z) ≤ nat_abs z
abs-minus (pos zero) = omega arith
abs-minus (pos (suc a)) = omega arith
abs-minus (negsuc a) = omega arith

pub abs-less : (y z : ℤ) → nat_abs (y -ℤ z) ≤ nat_abs y + nat_abs z
abs-less y z = omega (arith, abs-add y (neg_ℤ z), abs-minus z)

pub abs-term : (weight : ℕ) (factor : ℤ) (most : ℕ) → mag factor < most → nat_abs (pos weight *ℤ factor) ≤ weight * most
abs-term weight (pos a) most h = mul-le-mul_left weight (omega arith)
abs-term weight (negsuc a) most h =
    let bound : weight * suc a ≤ weight * most = mul-le-mul_left weight (omega arith) in
    omega (arith, abs-minus (pos (weight * suc a)), bound)

pub mag-abs : (z : ℤ) → mag z ≤ nat_abs z
mag-abs (pos a) = omega arith
mag-abs (negsuc a) = omega arith

-- a weight as the machine reads it; the term and the sum with it fit 8 bytes
module _ {sum : ℤ} {weight : ℕ} {factor : ℤ} (a : Addable sum weight factor) where
  pub term_is : to_z w64 weight *ℤ factor ≡ pos weight *ℤ factor
  term_is = ap (λ (z : ℤ). z *ℤ factor) (to_z_pos w64 (omega (arith, a.room)))

  pub term_fits : SFits w64 (pos weight *ℤ factor)
  term_fits = record { sfits = omega (arith, a.room, mag-abs (pos weight *ℤ factor), abs-term weight factor (2 ^ 32) a.small) }

  pub with-term : WithTerm sum weight factor (sum +ℤ pos weight *ℤ factor)
  with-term =
      record {
        value = refl;
        small = λ most h. omega (arith, abs-add sum (pos weight *ℤ factor), abs-term weight factor most h);
      }

  pub with-term-fits : SFits w64 (sum +ℤ pos weight *ℤ factor)
  with-term-fits =
      record { sfits = omega (arith, a.room, mag-abs (sum +ℤ pos weight *ℤ factor), with-term.small (2 ^ 32) a.small) }

-- a natural number and its negation as the machine's numbers
pub plus-back : {amount : ℕ} → amount < 2 ^ 32 → to_z w64 amount ≡ pos amount
plus-back h = to_z_pos w64 (omega arith)

pub difference-fits : (x y : ℕ) → x < 2 ^ 32 → y < 2 ^ 32 → SFits w64 (to_z w64 x -ℤ to_z w64 y)
difference-fits x y h l =
    rw (plus-back h, plus-back l)
    (record { sfits = omega (arith, mag-abs (pos x -ℤ pos y), abs-less (pos x) (pos y)) })

pub minus-small : (amount most : ℕ) → amount < most → mag (neg_ℤ (pos amount)) < most
minus-small zero most h = omega arith
minus-small (suc a) most h = omega arith

pub minus_is : {amount : ℕ} → amount < 2 ^ 32 → pos 0 -ℤ to_z w64 amount ≡ neg_ℤ (pos amount)
minus_is {amount} h = ap (λ (z : ℤ). pos 0 -ℤ z) (plus-back h) ∙ +ℤ_idl (neg_ℤ (pos amount))

minus-fits : {amount : ℕ} → amount < 2 ^ 32 → SFits w64 (neg_ℤ (pos amount))
minus-fits {amount} h = record { sfits = minus-small amount _ (omega arith) }

pub minus-back : {amount : ℕ} {z : ℤ} → z ≡ neg_ℤ (pos amount) → amount < 2 ^ 32 → to_z w64 (of_z w64 z) ≡ neg_ℤ (pos amount)
minus-back {amount} e h = ap (λ (z : ℤ). to_z w64 (of_z w64 z)) e ∙ to_z-of_z (minus-fits h)
