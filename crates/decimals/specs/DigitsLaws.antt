-- Laws of the digits in the end of a table.
use Rattle.std.specs.Prelude.{ℕ, zero, suc, ◌+◌, ◌-◌, ◌*◌, ◌/◌, ◌%◌, ◌^◌, ◌≤◌, ◌<◌, ◌≡◌, refl, List, ◌∷◌, length, take, drop, set, replicate}
use Rattle.std.proofs.Common.{sym, ◌∙◌, ap, ap₂, subst, length-set, length-drop, take_all, drop-cons, drop-set-lt, get_or-set_same, pow-suc, arith}
use Rattle.numbers.specs.definitions.Decimal.{decimal}
use Rattle.numbers.proofs.argument.DecimalLaws.{before, one-digit, more-digits}
use Rattle.decimals.specs.Digits.{Filling}

pub filling-start : (x : ℕ) → x < 2 ^ 64 → Filling x (replicate 20 0) 19 x
unfolding decimal
filling-start x h = record { size = refl; inside = omega arith; small = omega arith; number = refl }

module _ {x from left : ℕ} {digits : List ℕ} (f : Filling x digits from left) where
  pub filling-size : (d : ℕ) → length (set digits from d) ≡ 20
  filling-size d = length-set digits from d ∙ f.size

  -- a digit stands before those that are there
  stored : (d : ℕ) → drop from (set digits from d) ≡ d ∷ drop (suc from) digits
  stored d =
      let inside : from < length digits = omega (arith, f.size, f.inside) in
      drop-cons (set digits from d) from 0 (omega (arith, filling-size d, f.inside))
      ∙ ap₂ (λ (k : ℕ) (l : List ℕ). k ∷ l) (get_or-set_same digits from d 0 inside) (drop-set-lt (suc from) digits from d (omega arith))

  -- where more digits are left there is a place before this one
  pub filling-room : 10 ≤ left → 0 < from
  filling-room h = go from f.small
    where
      go : (k : ℕ) → left < 10 ^ suc k → 0 < k
      go zero l = absurd (omega (arith, l, h))
      go (suc k) l = omega arith

  pub filling-turn : 10 ≤ left → Filling x (set digits from (0x30 + left % 10)) (from - 1) (left / 10)
  filling-turn h =
      let some = filling-room h in
      let same : suc (from - 1) ≡ from = omega (arith, some) in
      let power : 10 ^ suc from ≡ 10 ^ from * 10 = pow-suc 10 from in
      let small : left / 10 < 10 ^ from = omega (arith, f.small, power) in
      record {
        size = filling-size _;
        inside = omega (arith, f.inside);
        small = subst (λ (k : ℕ). left / 10 < 10 ^ k) (sym same) small;
        number =
            ap (λ (k : ℕ). before (left / 10) (drop k (set digits from (0x30 + left % 10)))) same
            ∙ ap (before (left / 10)) (stored (0x30 + left % 10))
            ∙ sym (more-digits left (drop (suc from) digits) h)
            ∙ f.number;
      }

  -- the last one, and then the whole number stands in the end of the table
  pub filling-end : left < 10 → take (20 - from) (drop from (set digits from (0x30 + left))) ≡ decimal x
  filling-end h =
      take_all (20 - from) _ (omega (arith, length-drop from (set digits from (0x30 + left)), filling-size (0x30 + left)))
      ∙ stored (0x30 + left)
      ∙ sym (one-digit left (drop (suc from) digits) h)
      ∙ f.number
