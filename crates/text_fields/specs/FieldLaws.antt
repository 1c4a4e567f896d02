-- Laws of the fields of a text: what one more byte comes to, and what the whole is.
use Rattle.std.specs.Prelude.{ℕ, zero, suc, ◌+◌, ◌*◌, ◌-◌, ◌^◌, ◌≤◌, ◌<◌, ◌≡◌, Bool, cond, ◌&&◌, ◌↔◌, ◌⊎◌, eqb, get_or, take, drop, Option}
use Rattle.std.proofs.Math.Path.{refl, sym, ap}
use Rattle.std.proofs.Common.{◌∙◌, ap₂, subst, ⊎_elim, drop_of_length-le, drop-cons, take_all, add-one, pow-suc, mul-le-mul_left, mul-le-mul_right}
use Rattle.std.proofs.Math.Bool.{true, false}
use mathlib.Core.List.{List, [], ◌∷◌}
use Rattle.std.proofs.Math.ListN.{length, length-drop}
use native.Mathlib.Omega.{arith}
use borrow.Author.Rules.{rules}
use lib.Pointwise.{pointwise}
use Rattle.std.specs.Int.{is_in_range}
use Rattle.std.specs.Bool.{then_some}
use Rattle.std.proofs.Math.Nat.{one-le-pow}
use Rattle.std.proofs.Math.Decide.{ℕ_discrete, dec_lt}
use Rattle.bisimulation.specs.definitions.Choice.{if_less, if_same, if_true, both}
use Rattle.bisimulation.proofs.argument.ChoiceLaws.{less, not_less, same, not_same, is_true, is_false, not_true, via, either_same, kept_less, kept_true, past_less, one-test, false-not, both_true, true-both}
use Rattle.rules.specs.definitions.Bytes.{byte_at}
use Rattle.numbers.specs.definitions.Decimal.{is_digit, all_digits, value_from, value_of, is_number}
use Rattle.numbers.proofs.argument.DecimalLaws.{digit-bounds, bounds-digit}
use Rattle.prism.specs.definitions.Lines.{pieces, fraction, ten_thousandths, all_shown, is_name}
use Rattle.prism.specs.definitions.Reading.{same_bytes}
use Rattle.prism.proofs.argument.PieceLaws.{pieces-at, pieces_end}
use Rattle.text_fields.specs.Fields.{PieceEnds, number_below, digits_from, IsBelow, IsPositive}

true-not : true ≡ false → ⊥
true-not e = false-not (sym e)

-- the byte at a place, and those behind it
byte_next : (s : List ℕ) (at : ℕ) → at < length s → drop at s ≡ get_or s at 0 ∷ drop (at + 1) s
byte_next s at h = drop-cons s at 0 h ∙ ap (λ (k : ℕ). get_or s at 0 ∷ drop k s) (sym (add-one at))

-- no byte that parts from a place on up to here
pub record NoneParts (s : List ℕ) (from parting at : ℕ) : Type 0 where
  pub after : from ≤ at
  pub within : at ≤ length s
  pub clear : (i : ℕ) → from ≤ i → i < at → get_or s i 0 ≡ parting → ⊥

pub none_yet : (s : List ℕ) (from parting : ℕ) → from ≤ length s → NoneParts s from parting from
none_yet s from parting h = record { after = omega arith; within = h; clear = λ i low high e. omega arith }

module _ {s : List ℕ} {from parting at : ℕ} (w : NoneParts s from parting at) where
  pub parts-not : at < length s → (get_or s at 0 ≡ parting → ⊥) → NoneParts s from parting (at + 1)
  parts-not h n = record { after = omega arith; within = omega arith; clear = λ i low high e. go i low high e (ℕ_discrete i at) }
    where
      go : (i : ℕ) → from ≤ i → i < at + 1 → get_or s i 0 ≡ parting → Dec (i ≡ at) → ⊥
      go i low high e (yes p) = n (sym (ap (λ (k : ℕ). get_or s k 0) p) ∙ e)
      go i low high e (no m) = w.clear i low (omega arith) e

  pub parts-here : (at < length s → get_or s at 0 ≡ parting) → PieceEnds s from parting at
  unfolding byte_at
  parts-here e = record { after = w.after; within = w.within; clear = w.clear; stops = e }

-- where the piece ends, as the pieces of the bytes
module _ {s : List ℕ} {from parting end : ℕ} (w : PieceEnds s from parting end) where
  pub ends-parted : (end ≡ length s → ⊥) → pieces parting (drop from s) ≡ take (end - from) (drop from s) ∷ pieces parting (drop (end + 1) s)
  unfolding byte_at
  ends-parted n = pieces-at parting s from end w.after w.clear (omega arith) (w.stops (omega arith))

  pub ends_last : end ≡ length s → pieces parting (drop from s) ≡ take (end - from) (drop from s) ∷ []
  unfolding byte_at
  ends_last e =
      pieces_end parting s from end w.after w.clear e
      ∙ ap (λ (l : List ℕ). l ∷ []) (sym (take_all (end - from) (drop from s) (omega (arith, length-drop from s))))

in_range-is : {low high b : ℕ} → is_in_range low high b ≡ true → (low ≤ b) × (b ≤ high)
in_range-is e = search rules

is-in_range : {low high b : ℕ} → low ≤ b → b ≤ high → is_in_range low high b ≡ true
is-in_range p q = search rules

-- whether all bytes are shown
shown-each : (s : List ℕ) → ((k : ℕ) → k < length s → is_in_range 0x21 0x7E (get_or s k 0) ≡ true) → all_shown s ≡ true
unfolding all_shown
shown-each [] h = refl
shown-each (b ∷ s) h =
    let r = in_range-is (h 0 (omega arith)) in
    sym (not_less false r.0 (not_less false r.1 (sym (shown-each s (λ k less. h (suc k) (omega arith))))))

each-shown : (s : List ℕ) → all_shown s ≡ true → (k : ℕ) → k < length s → is_in_range 0x21 0x7E (get_or s k 0) ≡ true
unfolding all_shown
each-shown [] e k less = absurd (omega arith)
each-shown (b ∷ s) e zero less =
    let p = past_less false _ b 0x21 true-not (sym e) in
    let q = past_less false _ 0x7E b true-not p.1 in
    is-in_range p.0 q.0
each-shown (b ∷ s) e (suc k) less =
    let p = past_less false _ b 0x21 true-not (sym e) in
    let q = past_less false _ 0x7E b true-not p.1 in
    each-shown s (sym q.1) k (omega arith)

pub shown-tells : (s : List ℕ) {t : Bool} → (length s ≡ 0 → ⊥) → (t ≡ true) ↔ ((k : ℕ) → k < length s → is_in_range 0x21 0x7E (get_or s k 0) ≡ true) → t ≡ is_name s
unfolding is_name
shown-tells [] some e = absurd (some refl)
shown-tells (b ∷ s) some e =
    one-test _ _ (λ p. shown-each (b ∷ s) (e.0 p)) (λ q. e.1 (each-shown (b ∷ s) q))

-- whether the bytes up to a place are all shown
abbrev pub ShownTo : (s : List ℕ) (at : ℕ) → Bool → Type 0
ShownTo s at t = (t ≡ true) ↔ ((k : ℕ) → k < at → is_in_range 0x21 0x7E (get_or s k 0) ≡ true)

pub all-shown-start : (s : List ℕ) → ShownTo s 0 true
all-shown-start s = (λ e k less. absurd (omega arith), λ h. refl)

pub all-shown-next : (s : List ℕ) (at : ℕ) {t u : Bool} → ShownTo s at t → u ≡ t && is_in_range 0x21 0x7E (get_or s at 0) → ShownTo s (at + 1) u
all-shown-next s at {t} {u} h e = (λ p. all (and_parts t (sym e ∙ p)), λ each. e ∙ both-and (h.1 (λ k less. each k (omega arith))) (each at (omega arith)))
  where
    and_parts : (t : Bool) {v : Bool} → t && v ≡ true → (t ≡ true) × (v ≡ true)
    and_parts true p = (refl, p)
    and_parts false p = absurd (false-not p)

    both-and : {t v : Bool} → t ≡ true → v ≡ true → t && v ≡ true
    both-and p q = search rules

    all : (t ≡ true) × (is_in_range 0x21 0x7E (get_or s at 0) ≡ true) → (k : ℕ) → k < at + 1 → is_in_range 0x21 0x7E (get_or s k 0) ≡ true
    all p k less = go (ℕ_discrete k at)
      where
        go : Dec (k ≡ at) → is_in_range 0x21 0x7E (get_or s k 0) ≡ true
        go (yes q) = ap (λ (j : ℕ). is_in_range 0x21 0x7E (get_or s j 0)) q ∙ p.1
        go (no n) = h.0 p.0 k (omega arith)

pub no-name : (s : List ℕ) → length s ≡ 0 → false ≡ is_name s
unfolding is_name
no-name [] e = refl
no-name (b ∷ s) e = absurd (omega arith)

-- two runs are compared byte by byte
pub same-pointwise : (a b : List ℕ) → pointwise eqb a b ≡ same_bytes a b
unfolding same_bytes if_same
same-pointwise [] [] = refl
same-pointwise [] (y ∷ b) = refl
same-pointwise (x ∷ a) [] = refl
same-pointwise (x ∷ a) (y ∷ b) = go (eqb x y) (same-pointwise a b)
  where
    go : (t : Bool) → pointwise eqb a b ≡ same_bytes a b → (t && pointwise eqb a b) ≡ cond t (same_bytes a b) false
    go true e = e
    go false e = refl

-- a value only grows
value_grows : (v : ℕ) (bs : List ℕ) → v ≤ value_from v bs
unfolding value_from
value_grows v [] = omega arith
value_grows v (b ∷ bs) = omega (arith, value_grows (v * 10 + (b - 0x30)) bs)

-- a value below the most, or the most
abbrev under : ℕ → ℕ → ℕ
under most v = if_less v most v most

under-not : (most v : ℕ) → under most v ≡ most → most ≤ v
under-not most v e = go (dec_lt v most)
  where
    go : Dec (v < most) → most ≤ v
    go (yes h) = let z : v ≡ most = less most h refl ∙ e in omega arith
    go (no h) = omega arith

under-most : (most v : ℕ) → under most v ≤ most
under-most most v = go (dec_lt v most)
  where
    go : Dec (v < most) → under most v ≤ most
    go (yes h) = let z : v ≡ under most v = less most h refl in omega arith
    go (no h) = let z : most ≡ under most v = not_less v (omega arith) refl in omega arith

both-last : (t : Bool) → both t true ≡ t
unfolding both
both-last true = refl
both-last false = refl

module _ (most v b : ℕ) where
  -- one byte: no digit, read, or too high
  pub digit-other : (b < 0x30) ⊎ (0x39 < b) → digits_from most v (b ∷ []) ≡ most
  unfolding digits_from all_digits
  digit-other h =
      sym (not_true _ (λ e. let r = digit-bounds b (both_true (is_digit b) true e).0 in ⊎_elim (λ low. omega arith) (λ high. omega arith) h) refl)

  module _ (low : 0x30 ≤ b) (high : b ≤ 0x39) where
    pub digit-read : v * 10 + (b - 0x30) < most → v * 10 + (b - 0x30) ≡ digits_from most v (b ∷ [])
    unfolding digits_from all_digits value_from
    digit-read h = is_true most (true-both (bounds-digit b low high) refl) (less most h refl)

    pub digit-many : most ≤ v * 10 + (b - 0x30) → digits_from most v (b ∷ []) ≡ most
    unfolding digits_from all_digits value_from
    digit-many h = sym (is_true most (true-both (bounds-digit b low high) refl) (not_less _ h refl))

  -- it refuses those behind it too, or they are read behind its value
  digits-refused : (bs : List ℕ) → digits_from most v (b ∷ []) ≡ most → most ≡ digits_from most v (b ∷ bs)
  unfolding digits_from all_digits value_from
  digits-refused bs e = go (both (is_digit b) (all_digits bs)) refl
    where
      go : (t : Bool) → both (is_digit b) (all_digits bs) ≡ t → most ≡ if_true t (under most (value_from (v * 10 + (b - 0x30)) bs)) most
      go false q = is_false _ refl refl
      go true q =
          let d = true-both (both_true (is_digit b) (all_digits bs) q).0 refl in
          let high = under-not most (v * 10 + (b - 0x30)) (is_true most d refl ∙ e) in
          is_true most refl (not_less _ (omega (arith, value_grows (v * 10 + (b - 0x30)) bs)) refl)

  module _ (n : digits_from most v (b ∷ []) ≡ most → ⊥) where
    digit-kept : (is_digit b ≡ true) × (v * 10 + (b - 0x30) < most) × (digits_from most v (b ∷ []) ≡ v * 10 + (b - 0x30))
    unfolding digits_from all_digits value_from
    digit-kept =
        let k = kept_true _ most (both (is_digit b) true) n refl in
        let l = kept_less (v * 10 + (b - 0x30)) most _ _ n k.1 in
        ((both_true (is_digit b) true k.0).0, l.0, l.1)

    digits-behind : (bs : List ℕ) → digits_from most (v * 10 + (b - 0x30)) bs ≡ digits_from most v (b ∷ bs)
    unfolding digits_from all_digits value_from both
    digits-behind bs =
        ap (λ (t : Bool). if_true (both t (all_digits bs)) (under most (value_from (v * 10 + (b - 0x30)) bs)) most) (sym digit-kept.0)

-- the value v of the digits up to here: those behind it are read with it
pub record DigitsTo (most : ℕ) (s : List ℕ) (at v : ℕ) : Type 0 where
  pub within : at ≤ length s
  pub small : v < most
  pub rest : digits_from most v (drop at s) ≡ digits_from most 0 s

pub digits-start : (most : ℕ) (s : List ℕ) → 0 < most → DigitsTo most s 0 0
digits-start most s some = record { within = omega arith; small = some; rest = refl }

module _ {most : ℕ} {s : List ℕ} {at v : ℕ} (w : DigitsTo most s at v) where
  module _ (h : at < length s) where
    with_rest : digits_from most v (get_or s at 0 ∷ drop (at + 1) s) ≡ digits_from most 0 s
    with_rest = ap (digits_from most v) (sym (byte_next s at h)) ∙ w.rest

    pub digits-next : {x : ℕ} → x ≡ digits_from most v (get_or s at 0 ∷ []) → x < most → DigitsTo most s (at + 1) x
    digits-next r small =
        let m : digits_from most v (get_or s at 0 ∷ []) ≡ most → ⊥ = λ q. omega arith in
        let q = r ∙ (digit-kept most v (get_or s at 0) m).2 in
        record { within = omega arith; small = small; rest = ap (λ (z : ℕ). digits_from most z (drop (at + 1) s)) q ∙ digits-behind most v (get_or s at 0) m (drop (at + 1) s) ∙ with_rest }

    pub digits-stop : digits_from most v (get_or s at 0 ∷ []) ≡ most → digits_from most 0 s ≡ most
    digits-stop q = sym (digits-refused most v (get_or s at 0) (drop (at + 1) s) q ∙ with_rest)

  pub digits-end : length s ≤ at → (v ≡ digits_from most 0 s) × (v < most)
  unfolding digits_from all_digits value_from
  digits-end h =
      (via (ap (digits_from most v) (drop_of_length-le s {i = at} h)) (is_true most refl (less most w.small refl)) ∙ w.rest, w.small)

-- a number is digits, of which the first is not 0 where there are more
module _ (most : ℕ) where
  pub number-none : (s : List ℕ) → length s ≡ 0 → number_below most s ≡ most
  unfolding number_below is_number
  number-none [] e = sym (is_false _ refl refl)
  number-none (b ∷ s) e = absurd (omega arith)

  pub number-zero : (s : List ℕ) → 1 < length s → get_or s 0 0 ≡ 0x30 → number_below most s ≡ most
  unfolding number_below is_number
  number-zero [] h e = absurd (omega arith)
  number-zero (b ∷ []) h e = absurd (omega arith)
  number-zero (b ∷ c ∷ s) h e = sym (is_false _ (sym (same _ e refl)) refl)

  number-digits : (s : List ℕ) → (length s ≡ 0 → ⊥) → (1 < length s → get_or s 0 0 ≡ 0x30 → ⊥) → digits_from most 0 s ≡ number_below most s
  unfolding number_below digits_from is_number all_digits value_of
  number-digits [] some n = absurd (some refl)
  number-digits (b ∷ []) some n =
      ap (λ (t : Bool). if_true t (under most (value_from 0 (b ∷ []))) most) (both-last (is_digit b))
  number-digits (b ∷ c ∷ s) some n =
      ap (λ (t : Bool). if_true t (under most (value_from 0 (b ∷ c ∷ s))) most) (not_same false (n (omega arith)) refl)

  pub number-read : (s : List ℕ) (r : Option ℕ) → (length s ≡ 0 → ⊥) → (1 < length s → get_or s 0 0 ≡ 0x30 → ⊥) → IsBelow most (digits_from most 0 s) r → IsBelow most (number_below most s) r
  number-read s r some n = subst (λ (k : ℕ). IsBelow most k r) (number-digits s some n)

-- what the number tells of the field
module _ (most : ℕ) (bs : List ℕ) where
  pub number-value : is_number bs ≡ true → if_less (value_of bs) most (value_of bs) most ≡ number_below most bs
  unfolding number_below
  number-value e = is_true most e refl

  pub number_small : is_number bs ≡ true → value_of bs < most → value_of bs ≡ number_below most bs
  number_small e h = less most h refl ∙ number-value e

  pub small-number : {x : ℕ} → x ≡ number_below most bs → x < most → (is_number bs ≡ true) × (value_of bs ≡ x)
  unfolding number_below
  small-number e h =
      let k = kept_true _ most (is_number bs) (λ q. omega arith) e in
      (k.0, sym (kept_less _ most (value_of bs) most (λ q. omega arith) k.1).1)

-- so many digits, and as many zeros as are left, have a value below the next power
value-below : (most v : ℕ) (ds : List ℕ) → length ds ≤ most → all_digits ds ≡ true → value_from v ds * 10 ^ (most - length ds) < (v + 1) * 10 ^ most
unfolding value_from all_digits
value-below most v [] h e =
    let size : most ≡ most - 0 = omega arith in
    subst (λ (k : ℕ). v * 10 ^ k < (v + 1) * 10 ^ most) size (more v (10 ^ most) (one-le-pow most 10 (omega arith)))
  where
    more : (v p : ℕ) → 1 ≤ p → v * p < (v + 1) * p
    more v p some = omega arith
value-below zero v (d ∷ ds) h e = absurd (omega arith)
value-below (suc most) v (d ∷ ds) h e =
    let k = both_true (is_digit d) (all_digits ds) e in
    let r = digit-bounds d k.0 in
    let w = v * 10 + (d - 0x30) in
    let size : most - length ds ≡ suc most - length (d ∷ ds) = omega arith in
    subst (λ (z : ℕ). value_from w ds * 10 ^ (suc most - length (d ∷ ds)) < (v + 1) * z) (sym (pow-suc 10 most))
    (subst (λ (z : ℕ). value_from w ds * 10 ^ z < (v + 1) * (10 ^ most * 10)) size
    (next w (10 ^ most) _ (omega arith) (value-below most w ds (omega arith) k.1)))
  where
    next : (w p x : ℕ) → w + 1 ≤ (v + 1) * 10 → x < (w + 1) * p → x < (v + 1) * (p * 10)
    next w p x h e = omega (arith, mul-le-mul_right p h)

-- ten-thousandths
module _ (ds : List ℕ) (few : length ds ≤ 4) (all : all_digits ds ≡ true) where
  scaled-below : value_of ds * 10 ^ (4 - length ds) < 10000
  unfolding value_of
  scaled-below = value-below 4 0 ds few all

  value-small : value_of ds < 10000
  value-small = omega (arith, scaled-below, mul-le-mul_left (value_of ds) (one-le-pow (4 - length ds) 10 (omega arith)))

pub parts-most : (s : List ℕ) → ten_thousandths s ≤ 10000
unfolding ten_thousandths fraction
parts-most [] = omega arith
parts-most (b ∷ []) = either_same (λ (x : ℕ). x ≤ 10000) b 0x31 (omega arith) (omega arith)
parts-most (b ∷ c ∷ ds) = either_same (λ (x : ℕ). x ≤ 10000) b 0x30 (either_same (λ (x : ℕ). x ≤ 10000) c 0x2E (go (dec_lt 4 (length ds)) (all_digits ds) refl) (omega arith)) (omega arith)
  where
    go : Dec (4 < length ds) → (t : Bool) → all_digits ds ≡ t → fraction ds ≤ 10000
    go (yes h) t e = let z : 0 ≡ fraction ds = less _ h refl in omega arith
    go (no h) false e = let z : 0 ≡ fraction ds = not_less _ (omega arith) (is_false _ e refl) in omega arith
    go (no h) true e =
        let z : value_of ds * 10 ^ (4 - length ds) ≡ fraction ds = not_less _ (omega arith) (is_true _ e refl) in
        omega (arith, scaled-below ds (omega arith) e)

pub parts-one : (s : List ℕ) → length s ≡ 1 → get_or s 0 0 ≡ 0x31 → 10000 ≡ ten_thousandths s
unfolding ten_thousandths
parts-one [] h e = absurd (omega arith)
parts-one (b ∷ []) h e = same _ e refl
parts-one (b ∷ c ∷ s) h e = absurd (omega arith)

pub parts-other : (s : List ℕ) → length s ≡ 1 → (get_or s 0 0 ≡ 0x31 → ⊥) → 0 ≡ ten_thousandths s
unfolding ten_thousandths
parts-other [] h n = absurd (omega arith)
parts-other (b ∷ []) h n = not_same _ n refl
parts-other (b ∷ c ∷ s) h n = absurd (omega arith)

pub parts-short : (s : List ℕ) → (length s ≡ 1 → ⊥) → length s < 3 → 0 ≡ ten_thousandths s
unfolding ten_thousandths fraction value_of value_from all_digits
parts-short [] n h = refl
parts-short (b ∷ []) n h = absurd (n refl)
parts-short (b ∷ c ∷ []) n h =
    either_same (λ (x : ℕ). 0 ≡ x) b 0x30 (either_same (λ (x : ℕ). 0 ≡ x) c 0x2E (not_less 0 (omega arith) (is_true 0 refl refl)) refl) refl
parts-short (b ∷ c ∷ d ∷ s) n h = absurd (omega arith)

pub parts-long : (s : List ℕ) → 6 < length s → 0 ≡ ten_thousandths s
unfolding ten_thousandths fraction
parts-long [] h = absurd (omega arith)
parts-long (b ∷ []) h = absurd (omega arith)
parts-long (b ∷ c ∷ s) h =
    either_same (λ (x : ℕ). 0 ≡ x) b 0x30 (either_same (λ (x : ℕ). 0 ≡ x) c 0x2E (less _ (omega arith) refl) refl) refl

pub parts_first : (s : List ℕ) → 1 < length s → (get_or s 0 0 ≡ 0x30 → ⊥) → 0 ≡ ten_thousandths s
unfolding ten_thousandths
parts_first [] h n = absurd (omega arith)
parts_first (b ∷ []) h n = absurd (omega arith)
parts_first (b ∷ c ∷ s) h n = not_same _ n refl

pub parts-second : (s : List ℕ) → 1 < length s → (get_or s 1 0 ≡ 0x2E → ⊥) → 0 ≡ ten_thousandths s
unfolding ten_thousandths
parts-second [] h n = absurd (omega arith)
parts-second (b ∷ []) h n = absurd (omega arith)
parts-second (b ∷ c ∷ s) h n = either_same (λ (x : ℕ). 0 ≡ x) b 0x30 (not_same _ n refl) refl

-- digits behind the point as the code reads them, below 65,536
scaled-parts : (s : List ℕ) → 1 < length s → length s ≤ 6 → get_or s 0 0 ≡ 0x30 → get_or s 1 0 ≡ 0x2E → {r v : ℕ} → v ≡ digits_from 65536 0 (drop 2 s) → r ≡ if_same v 65536 0 (v * 10 ^ (6 - length s)) → r ≡ ten_thousandths s
unfolding ten_thousandths fraction digits_from value_of
scaled-parts [] h few p q k e = absurd (omega arith)
scaled-parts (b ∷ []) h few p q k e = absurd (omega arith)
scaled-parts (b ∷ c ∷ ds) h few p q {r} {v} k e = same _ p (same _ q (go (all_digits ds) refl))
  where
    go : (t : Bool) → all_digits ds ≡ t → r ≡ fraction ds
    go false f =
        let z : 65536 ≡ digits_from 65536 0 ds = is_false _ f refl in
        not_less _ (omega arith) (is_false _ f (e ∙ sym (same _ (k ∙ sym z) refl)))
    go true f =
        let small = value-small ds (omega arith) f in
        let z : value_of ds ≡ digits_from 65536 0 ds = is_true _ f (less _ (omega arith) refl) in
        let size : 6 - length (b ∷ c ∷ ds) ≡ 4 - length ds = omega arith in
        not_less _ (omega arith) (is_true _ f (e ∙ sym (not_same 0 (λ y. omega arith) refl) ∙ ap₂ (λ (x y : ℕ). x * 10 ^ y) (k ∙ sym z) size))

-- they are none, or read
module _ (s : List ℕ) (some : 1 < length s) (few : length s ≤ 6) (p : get_or s 0 0 ≡ 0x30) (q : get_or s 1 0 ≡ 0x2E) where
  tail : take (length s - 2) (drop 2 s) ≡ drop 2 s
  tail = take_all (length s - 2) (drop 2 s) (omega (arith, length-drop 2 s))

  pub parts-none : digits_from 65536 0 (take (length s - 2) (drop 2 s)) ≡ 65536 → ten_thousandths s ≡ 0
  parts-none e = sym (scaled-parts s some few p q (sym e ∙ ap (digits_from 65536 0) tail) (same _ refl refl))

  pub parts-scaled : {r v : ℕ} → (v ≡ digits_from 65536 0 (take (length s - 2) (drop 2 s))) × (v < 65536) → r ≡ v * 10 ^ (6 - length s) → r ≡ ten_thousandths s
  parts-scaled e k =
      scaled-parts s some few p q (e.0 ∙ ap (digits_from 65536 0) tail) (not_same 0 (λ z. omega (arith, e.1)) k)

-- none where the test fails, or the number is 0
pub positive-by : (t : Bool) {n v : ℕ} {r : Option ℕ} → (t ≡ true → (v ≡ n) × (1 ≤ v)) → (t ≡ false → n ≡ 0) → r ≡ then_some t v → IsPositive n r
positive-by true {n} good none e = subst (IsPositive n) (sym e) (good refl)
positive-by false {n} good none e = subst (IsPositive n) (sym e) (none refl)
