-- Laws of numbers in decimal: the digits of a number are one number, of that value, and no other digits without leading zeros are; where they
-- end, and how many there are.
use Rattle.std.specs.Prelude.{ℕ, zero, suc, ◌+◌, ◌*◌, ◌-◌, ◌/◌, ◌%◌, ◌^◌, ◌≤◌, ◌<◌, ◌≡◌, refl, true, false, length}
use Rattle.std.proofs.Common.{sym, ◌∙◌, ap, ap₂, arith}
use mathlib.Core.List.{List, [], ◌∷◌, ◌++◌, append-nil, head-eq_of_cons-eq, tail-eq_of_cons-eq}
use Rattle.std.proofs.Math.Decide.{dec_lt}
use Rattle.bisimulation.specs.definitions.Choice.{if_less}
use Rattle.bisimulation.proofs.argument.ChoiceLaws.{less, not_less, not_same, past_less, past_same, false-not, both_true, true-both}
use Rattle.numbers.specs.definitions.Decimal.{is_digit, all_digits, value_from, value_of, is_number, digits_before, decimal}

-- the digits are the bytes 30 to 39
pub digit-bounds : (b : ℕ) → is_digit b ≡ true → (0x30 ≤ b) × (b ≤ 0x39)
unfolding is_digit
digit-bounds b e =
    let low = past_less false _ b 0x30 (λ z. false-not (sym z)) (sym e) in
    let high = past_less false _ 0x39 b (λ z. false-not (sym z)) low.1 in
    (low.0, high.0)

-- and the other way round
pub bounds-digit : (b : ℕ) → 0x30 ≤ b → b ≤ 0x39 → is_digit b ≡ true
unfolding is_digit
bounds-digit b low high = sym (not_less false low (not_less false high refl))

-- a number is digits
pub number_digits : (bs : List ℕ) → is_number bs ≡ true → all_digits bs ≡ true
unfolding is_number all_digits
number_digits [] e = absurd (false-not e)
number_digits (b ∷ []) e = true-both e refl
number_digits (b ∷ c ∷ bs) e = sym (past_same false _ b 0x30 (λ z. false-not (sym z)) (sym e)).1

-- what is enough for the digits of a number is as good as more
enough : (most more n : ℕ) (rest : List ℕ) → n < most → n < more → digits_before most n rest ≡ digits_before more n rest
unfolding digits_before
enough zero more n rest h k = absurd (omega arith)
enough (suc most) zero n rest h k = absurd (omega arith)
enough (suc most) (suc more) n rest h k = go (dec_lt n 10) (enough most more (n / 10) ((0x30 + n % 10) ∷ rest))
  where
    go : Dec (n < 10) → (n / 10 < most → n / 10 < more → digits_before most (n / 10) ((0x30 + n % 10) ∷ rest) ≡ digits_before more (n / 10) ((0x30 + n % 10) ∷ rest)) → if_less n 10 ((0x30 + n) ∷ rest) (digits_before most (n / 10) ((0x30 + n % 10) ∷ rest)) ≡ if_less n 10 ((0x30 + n) ∷ rest) (digits_before more (n / 10) ((0x30 + n % 10) ∷ rest))
    go (yes small) later = less _ small (sym (less _ small refl))
    go (no large) later = not_less _ (omega arith) (sym (not_less _ (omega arith) (sym (later (omega arith) (omega arith)))))

-- the digits of n in front of others
abbrev pub before : ℕ → List ℕ → List ℕ
before n rest = digits_before (suc n) n rest

pub one-digit : (n : ℕ) (rest : List ℕ) → n < 10 → before n rest ≡ (0x30 + n) ∷ rest
unfolding digits_before
one-digit n rest small = sym (less _ small refl)

pub more-digits : (n : ℕ) (rest : List ℕ) → 10 ≤ n → before n rest ≡ before (n / 10) ((0x30 + n % 10) ∷ rest)
unfolding digits_before
more-digits n rest large = sym (not_less _ large refl) ∙ enough n (suc (n / 10)) (n / 10) _ (omega arith) (omega arith)

-- they are read with those behind them
value_before : (most n : ℕ) (rest : List ℕ) → n < most → value_from 0 (before n rest) ≡ value_from n rest
unfolding value_from
value_before zero n rest h = absurd (omega arith)
value_before (suc most) n rest h = go (dec_lt n 10) (value_before most (n / 10) ((0x30 + n % 10) ∷ rest))
  where
    go : Dec (n < 10) → (n / 10 < most → value_from 0 (before (n / 10) ((0x30 + n % 10) ∷ rest)) ≡ value_from (n / 10) ((0x30 + n % 10) ∷ rest)) → value_from 0 (before n rest) ≡ value_from n rest
    go (yes small) later =
        let e : 0 * 10 + (0x30 + n - 0x30) ≡ n = omega arith in
        ap (value_from 0) (one-digit n rest small) ∙ ap (λ (k : ℕ). value_from k rest) e
    go (no large) later =
        let e : n / 10 * 10 + (0x30 + n % 10 - 0x30) ≡ n = omega arith in
        ap (value_from 0) (more-digits n rest (omega arith)) ∙ later (omega arith) ∙ ap (λ (k : ℕ). value_from k rest) e

-- a number in decimal has its value
pub value-decimal : (n : ℕ) → value_of (decimal n) ≡ n
unfolding value_of decimal value_from
value-decimal n = value_before (suc n) n [] (omega arith)

digit-shown : (n : ℕ) → n < 10 → is_digit (0x30 + n) ≡ true
digit-shown n h = bounds-digit (0x30 + n) (omega arith) (omega arith)

-- in front of further digits it is a number, where it is not 0
number-before : (most n d : ℕ) (ds : List ℕ) → n < most → 0 < n → all_digits (d ∷ ds) ≡ true → is_number (before n (d ∷ ds)) ≡ true
unfolding is_number all_digits
number-before zero n d ds h some digits = absurd (omega arith)
number-before (suc most) n d ds h some digits = go (dec_lt n 10) (number-before most (n / 10) (0x30 + n % 10) (d ∷ ds))
  where
    go : Dec (n < 10) → (n / 10 < most → 0 < n / 10 → all_digits ((0x30 + n % 10) ∷ d ∷ ds) ≡ true → is_number (before (n / 10) ((0x30 + n % 10) ∷ d ∷ ds)) ≡ true) → is_number (before n (d ∷ ds)) ≡ true
    go (yes small) later =
        ap is_number (one-digit n (d ∷ ds) small) ∙ sym (not_same false (λ z. omega arith) (sym (true-both (digit-shown n small) digits)))
    go (no large) later =
        ap is_number (more-digits n (d ∷ ds) (omega arith)) ∙ later (omega arith) (omega arith) (true-both (digit-shown (n % 10) (omega arith)) digits)

-- a number in decimal is a number
pub number-decimal : (n : ℕ) → is_number (decimal n) ≡ true
unfolding decimal is_number all_digits
number-decimal n = go (dec_lt n 10)
  where
    go : Dec (n < 10) → is_number (before n []) ≡ true
    go (yes small) = ap is_number (one-digit n [] small) ∙ digit-shown n small
    go (no large) =
        ap is_number (more-digits n [] (omega arith)) ∙ number-before n (n / 10) (0x30 + n % 10) [] (omega arith) (omega arith) (true-both (digit-shown (n % 10) (omega arith)) refl)

-- so all its bytes are digits
pub decimal-digits : (n : ℕ) → all_digits (decimal n) ≡ true
decimal-digits n = number_digits (decimal n) (number-decimal n)

-- the digits of a value that goes on with further digits
before-value : (v : ℕ) (bs rest : List ℕ) → 0 < v → all_digits bs ≡ true → before (value_from v bs) rest ≡ before v (bs ++ rest)
unfolding value_from all_digits
before-value v [] rest some digits = refl
before-value v (b ∷ bs) rest some digits =
    let d = both_true (is_digit b) (all_digits bs) digits in
    let r = digit-bounds b d.0 in
    let w = v * 10 + (b - 0x30) in
    let front : w / 10 ≡ v = omega arith in
    let last : 0x30 + w % 10 ≡ b = omega arith in
    before-value w bs rest (omega arith) d.1
    ∙ more-digits w (bs ++ rest) (omega arith)
    ∙ ap₂ (λ (k c : ℕ). before k (c ∷ (bs ++ rest))) front last

-- a number is its value in decimal
pub decimal-value : (bs : List ℕ) → is_number bs ≡ true → decimal (value_of bs) ≡ bs
unfolding is_number all_digits decimal value_of value_from
decimal-value [] e = absurd (false-not e)
decimal-value (b ∷ []) e =
    let r = digit-bounds b e in
    let shown : 0x30 + (0 * 10 + (b - 0x30)) ≡ b = omega arith in
    one-digit _ [] (omega arith) ∙ ap (λ (c : ℕ). c ∷ []) shown
decimal-value (b ∷ c ∷ bs) e =
    let a = past_same false _ b 0x30 (λ z. false-not (sym z)) (sym e) in
    let d = both_true (is_digit b) (all_digits (c ∷ bs)) (sym a.1) in
    let r = digit-bounds b d.0 in
    let shown : 0x30 + (0 * 10 + (b - 0x30)) ≡ b = omega arith in
    before-value (0 * 10 + (b - 0x30)) (c ∷ bs) [] (omega (arith, a.0)) d.1
    ∙ one-digit _ _ (omega arith)
    ∙ ap₂ (λ (x : ℕ) (l : List ℕ). x ∷ l) shown (append-nil (c ∷ bs))

-- so its decimal is found from its digits, where it is too large to compute them
pub decimal-is : (bs : List ℕ) (n : ℕ) → is_number bs ≡ true → value_of bs ≡ n → decimal n ≡ bs
decimal-is bs n p e = ap decimal (sym e) ∙ decimal-value bs p

-- numbers of one value are the same bytes
pub number-one : (xs bs : List ℕ) → is_number xs ≡ true → is_number bs ≡ true → value_of xs ≡ value_of bs → xs ≡ bs
number-one xs bs p q e = sym (decimal-value xs p) ∙ ap decimal e ∙ decimal-value bs q

-- a number in decimal has a digit
pub decimal-some : (n : ℕ) → decimal n ≡ [] → ⊥
unfolding is_number
decimal-some n e = false-not (sym (ap is_number e) ∙ number-decimal n)

-- digits end where a byte that is none follows
pub digits-then : (xs ys : List ℕ) (c d : ℕ) (rest more : List ℕ) → all_digits xs ≡ true → all_digits ys ≡ true → is_digit c ≡ false → is_digit d ≡ false → xs ++ (c ∷ rest) ≡ ys ++ (d ∷ more) → (xs ≡ ys) × (c ∷ rest ≡ d ∷ more)
unfolding all_digits
digits-then [] [] c d rest more p q f g e = (refl, e)
digits-then [] (y ∷ ys) c d rest more p q f g e =
    absurd (false-not (sym f ∙ ap is_digit (head-eq_of_cons-eq e) ∙ (both_true (is_digit y) (all_digits ys) q).0))
digits-then (x ∷ xs) [] c d rest more p q f g e =
    absurd (false-not (sym g ∙ ap is_digit (sym (head-eq_of_cons-eq e)) ∙ (both_true (is_digit x) (all_digits xs) p).0))
digits-then (x ∷ xs) (y ∷ ys) c d rest more p q f g e =
    let r = digits-then xs ys c d rest more (both_true (is_digit x) (all_digits xs) p).1 (both_true (is_digit y) (all_digits ys) q).1 f g (tail-eq_of_cons-eq e) in
    (ap₂ (λ (z : ℕ) (l : List ℕ). z ∷ l) (head-eq_of_cons-eq e) r.0, r.1)

-- so a number in decimal is read back
pub decimal-then : (a b c d : ℕ) (rest more : List ℕ) → is_digit c ≡ false → is_digit d ≡ false → decimal a ++ (c ∷ rest) ≡ decimal b ++ (d ∷ more) → (a ≡ b) × (c ∷ rest ≡ d ∷ more)
decimal-then a b c d rest more f g e =
    let r = digits-then (decimal a) (decimal b) c d rest more (decimal-digits a) (decimal-digits b) f g e in
    (sym (value-decimal a) ∙ ap value_of r.0 ∙ value-decimal b, r.1)

-- below 10 to the power of 1 + k they are 1 + k digits at most
length_before : (k n : ℕ) (rest : List ℕ) → n < 10 ^ suc k → length (before n rest) ≤ suc k + length rest
length_before zero n rest h = omega (arith, ap length (one-digit n rest (omega arith)))
length_before (suc k) n rest h = go (dec_lt n 10) (length_before k (n / 10) ((0x30 + n % 10) ∷ rest))
  where
    go : Dec (n < 10) → (n / 10 < 10 ^ suc k → length (before (n / 10) ((0x30 + n % 10) ∷ rest)) ≤ suc k + suc (length rest)) → length (before n rest) ≤ suc (suc k) + length rest
    go (yes small) later = omega (arith, ap length (one-digit n rest small))
    go (no large) later = omega (arith, ap length (more-digits n rest (omega arith)), later (omega arith))

pub decimal-length : (k n : ℕ) → n < 10 ^ suc k → length (decimal n) ≤ suc k
unfolding decimal
decimal-length k n h = omega (arith, length_before k n [] h)
