-- Laws of a number with a sign: its digits.
use Rattle.std.specs.Prelude.{ℕ, ◌≡◌, refl, true, false, ◌∷◌, ℤ, pos, negsuc, nat_abs}
use Rattle.std.proofs.Common.{sym, ◌∙◌, ap, ltb-true, arith}
use Rattle.std.specs.Int.Signed.{lt_z}
use Rattle.bisimulation.proofs.argument.ChoiceLaws.{false-not}
use Rattle.numbers.specs.definitions.Decimal.{decimal}
use Rattle.sentences.specs.definitions.Sentence.{signed_decimal}

-- the digits of a number z that the machine reads as y, behind the sign or alone
digits-below : (z : ℤ) → lt_z z (pos 0) ≡ true → signed_decimal z ≡ 0x2D ∷ decimal (nat_abs z)
unfolding signed_decimal
digits-below (pos n) t = absurd (omega (arith, ltb-true n 0 t))
digits-below (negsuc n) t = refl

digits_above : (z : ℤ) → lt_z z (pos 0) ≡ false → signed_decimal z ≡ decimal (nat_abs z)
unfolding signed_decimal
digits_above (pos n) t = refl
digits_above (negsuc n) t = absurd (false-not (sym t))

module _ {z y : ℤ} (same : y ≡ z) {amount : ℕ} (e : amount ≡ nat_abs y) where
  pub signed_below : lt_z y (pos 0) ≡ true → signed_decimal z ≡ 0x2D ∷ decimal amount
  signed_below t = ap signed_decimal (sym same) ∙ digits-below y t ∙ ap (λ (k : ℕ). 0x2D ∷ decimal k) (sym e)

  pub signed_above : lt_z y (pos 0) ≡ false → signed_decimal z ≡ decimal amount
  signed_above t = ap signed_decimal (sym same) ∙ digits_above y t ∙ ap decimal (sym e)
