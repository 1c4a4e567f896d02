-- The laws of the bits, and what the machine's shift and mask make of them.
use Rattle.std.specs.Prelude.{ℕ, zero, suc, ◌+◌, ◌-◌, ◌*◌, ◌/◌, ◌%◌, ◌^◌, ◌<◌, min, max, ◌≡◌, refl, Bool, true, false, eqb}
use Rattle.std.proofs.Common.{sym, ap, ap₂, ◌∙◌, arith, zero-add, suc-add, pow-suc, mod-eq_of_lt, pow_pos, shr-shr, shl_exact, eqb-true, eq-eqb, ne_eqb}
use Rattle.std.specs.Int.Bits.{bit_and, bit_or, and_step, or_step, or_zero_r}
use Rattle.std.proofs.lemmas.Nat.{and_mask, ones-le, trailing_le}
use Rattle.std.proofs.Math.Pow.{pow-lt}
use Rattle.std.specs.Int.Count.{ones, ones_step, count_trailing_zeros, under}
use Rattle.std.proofs.lemmas.Bool.{eqb-false}
use Rattle.bisimulation.specs.definitions.Choice.{if_true, count_below}
use Rattle.bisimulation.proofs.argument.ChoiceLaws.{count-first}
use Rattle.word.specs.Bits.{word_bits, bit_of, put_bit, set_bit, clear_bit, AreSame, IsNextBelow}

-- no bit of 0 is 1
pub bit_of-none : (t : ℕ) → bit_of 0 t ≡ false
unfolding bit_of
bit_of-none zero = refl
bit_of-none (suc t) = bit_of-none t

-- a number is its lowest bit and the others
half : (x d : ℕ) → d < 2 → (x * 2 + d) / 2 ≡ x
half x d h = omega arith

lowest : (x d : ℕ) → d < 2 → (x * 2 + d) % 2 ≡ d
lowest x d h = omega arith

-- the bit that was put, and every other
pub bit_of-put : (d x t : ℕ) → d < 2 → bit_of (put_bit d x t) t ≡ eqb d 1
unfolding bit_of put_bit
bit_of-put d x zero h = ap (λ (z : ℕ). eqb z 1) (lowest (x / 2) d h)
bit_of-put d x (suc t) h = ap (λ (z : ℕ). bit_of z t) (half (put_bit d (x / 2) t) (x % 2) (omega arith)) ∙ bit_of-put d (x / 2) t h

pub bit_of-other : (d x t u : ℕ) → d < 2 → (u ≡ t → ⊥) → bit_of (put_bit d x t) u ≡ bit_of x u
unfolding bit_of put_bit
bit_of-other d x zero zero h o = absurd (o refl)
bit_of-other d x zero (suc u) h o = ap (λ (z : ℕ). bit_of z u) (half (x / 2) d h)
bit_of-other d x (suc t) zero h o = ap (λ (z : ℕ). eqb z 1) (lowest (put_bit d (x / 2) t) (x % 2) (omega arith))
bit_of-other d x (suc t) (suc u) h o = ap (λ (z : ℕ). bit_of z u) (half (put_bit d (x / 2) t) (x % 2) (omega arith)) ∙ bit_of-other d (x / 2) t u h (λ e. o (ap suc e))

-- numbers of w bits that agree are equal
lowest-same : (x y : ℕ) → eqb (x % 2) 1 ≡ eqb (y % 2) 1 → x % 2 ≡ y % 2
lowest-same x y e = go (eqb (y % 2) 1) refl
  where
    go : (t : Bool) → eqb (y % 2) 1 ≡ t → x % 2 ≡ y % 2
    go true p = eqb-true (x % 2) 1 (e ∙ p) ∙ sym (eqb-true (y % 2) 1 p)
    go false p =
        let a : x % 2 ≡ 1 → ⊥ = eqb-false (x % 2) 1 (e ∙ p) in
        let b : y % 2 ≡ 1 → ⊥ = eqb-false (y % 2) 1 p in
        omega arith

pub bits-same : (w x y : ℕ) → x < 2 ^ w → y < 2 ^ w → ((t : ℕ) → t < w → bit_of x t ≡ bit_of y t) → x ≡ y
unfolding bit_of
bits-same zero x y h l e = omega arith
bits-same (suc w) x y h l e =
    let high : x / 2 ≡ y / 2 = bits-same w (x / 2) (y / 2) (omega (arith, pow-suc 2 w)) (omega (arith, pow-suc 2 w)) (λ t below. e (suc t) (omega arith)) in
    let low : x % 2 ≡ y % 2 = lowest-same x y (e zero (omega arith)) in
    omega arith

-- a shift is one halving and the rest
halved : (x t : ℕ) → x / 2 ^ suc t ≡ x / 2 / 2 ^ t
halved x t = let e : 1 + t ≡ suc t = omega arith in omega (arith, shr-shr x 1 t, ap (λ (z : ℕ). x / 2 ^ z) e)

-- the machine's `x >> t & m == k`, with m and k 1
bit_of-shift : (x t : ℕ) → eqb (bit_and (x / 2 ^ t) 1) 1 ≡ bit_of x t
unfolding bit_of
bit_of-shift x zero =
    let e : x / 1 ≡ x = omega arith in
    ap (λ (z : ℕ). eqb (bit_and z 1) 1) e ∙ ap (λ (z : ℕ). eqb z 1) (and_mask x 1)
bit_of-shift x (suc t) = ap (λ (z : ℕ). eqb (bit_and z 1) 1) (halved x t) ∙ bit_of-shift (x / 2) t

pub bit_of-tested : (x t m k : ℕ) → m ≡ 1 → k ≡ 1 → eqb (bit_and (x / 2 ^ t) m) k ≡ bit_of x t
bit_of-tested x t m k e f = ap₂ (λ (a b : ℕ). eqb (bit_and (x / 2 ^ t) a) b) e f ∙ bit_of-shift x t

-- the machine's `1 << t`, in words of w bits
one_shifted : (w t : ℕ) → t < w → (1 * 2 ^ t) % 2 ^ w ≡ 2 ^ t
one_shifted w t h = shl_exact 1 t w (omega arith) (omega arith) ∙ omega arith

or-power : (x t : ℕ) → bit_or x (2 ^ t) ≡ set_bit x t
unfolding put_bit
or-power x zero = or_step x 1 ∙ omega (arith, or_zero_r (x / 2))
or-power x (suc t) =
    let e : 2 ^ suc t / 2 ≡ 2 ^ t = omega (arith, pow-suc 2 t) in
    let f : 2 ^ suc t % 2 ≡ 0 = omega (arith, pow-suc 2 t) in
    or_step x (2 ^ suc t) ∙ ap₂ (λ (a b : ℕ). bit_or (x / 2) a * 2 + max (x % 2) b) e f ∙ omega (arith, or-power (x / 2) t)

-- the machine's `x | 1 << t`
pub set_bit-or : (w x t : ℕ) → t < w → bit_or x ((1 * 2 ^ t) % 2 ^ w) ≡ set_bit x t
set_bit-or w x t h = ap (bit_or x) (one_shifted w t h) ∙ or-power x t

and-powers : (w x t : ℕ) → x < 2 ^ w → t < w → bit_and x ((2 ^ w - 1) - 2 ^ t) ≡ clear_bit x t
unfolding put_bit
and-powers zero x t h l = absurd (omega arith)
and-powers (suc w) x zero h l =
    let p : 0 < 2 ^ w = pow_pos w in
    let e : (2 ^ suc w - 1 - 1) / 2 ≡ 2 ^ w - 1 = omega (arith, pow-suc 2 w) in
    let f : (2 ^ suc w - 1 - 1) % 2 ≡ 0 = omega (arith, pow-suc 2 w) in
    let i : x / 2 < 2 ^ w = omega (arith, pow-suc 2 w) in
    and_step x (2 ^ suc w - 1 - 1) ∙ ap₂ (λ (a b : ℕ). bit_and (x / 2) a * 2 + min (x % 2) b) e f ∙ omega (arith, and_mask (x / 2) w, mod-eq_of_lt i)
and-powers (suc w) x (suc t) h l =
    let p : 2 ^ t < 2 ^ w = pow-lt (omega arith) in
    let e : (2 ^ suc w - 1 - 2 ^ suc t) / 2 ≡ 2 ^ w - 1 - 2 ^ t = omega (arith, pow-suc 2 w, pow-suc 2 t) in
    let f : (2 ^ suc w - 1 - 2 ^ suc t) % 2 ≡ 1 = omega (arith, pow-suc 2 w, pow-suc 2 t) in
    let i : x / 2 < 2 ^ w = omega (arith, pow-suc 2 w) in
    and_step x (2 ^ suc w - 1 - 2 ^ suc t) ∙ ap₂ (λ (a b : ℕ). bit_and (x / 2) a * 2 + min (x % 2) b) e f ∙ omega (arith, and-powers w (x / 2) t i (omega arith))

-- the machine's `x & !(k << t)`, with k 1
pub clear_bit-and : (w x t k : ℕ) → k ≡ 1 → x < 2 ^ w → t < w → bit_and x ((2 ^ w - 1) - (k * 2 ^ t) % 2 ^ w) ≡ clear_bit x t
clear_bit-and w x t k e h l =
    ap (λ (z : ℕ). bit_and x ((2 ^ w - 1) - z)) (ap (λ (z : ℕ). (z * 2 ^ t) % 2 ^ w) e ∙ one_shifted w t l) ∙ and-powers w x t h l

-- the machine's `x >> u`, and the zeros below the lowest bit of a word of w bits
pub bit_of-above : (x u i : ℕ) → bit_of (x / 2 ^ u) i ≡ bit_of x (u + i)
unfolding bit_of
bit_of-above x zero i = let e : x / 1 ≡ x = omega arith in ap (λ (z : ℕ). bit_of z i) e ∙ ap (bit_of x) (sym (zero-add i))
bit_of-above x (suc u) i =
    ap (λ (z : ℕ). bit_of z i) (halved x u) ∙ bit_of-above (x / 2) u i ∙ ap (bit_of x) (sym (suc-add u i))

pub trailing-none : (w x i : ℕ) → i < count_trailing_zeros w x → bit_of x i ≡ false
unfolding bit_of count_trailing_zeros
trailing-none zero x i h = absurd (omega arith)
trailing-none (suc w) x i h = go i (x % 2) refl h (trailing-none w (x / 2))
  where
    go : (i d : ℕ) → x % 2 ≡ d → i < under d (count_trailing_zeros w (x / 2)) → ((k : ℕ) → k < count_trailing_zeros w (x / 2) → bit_of (x / 2) k ≡ false) → bit_of x i ≡ false
    go i (suc d) e h rest = absurd (omega arith)
    go zero zero e h rest = ne_eqb (x % 2) 1 (λ o. omega arith)
    go (suc i) zero e h rest = rest i (omega arith)

pub trailing-some : (w x : ℕ) → count_trailing_zeros w x < w → bit_of x (count_trailing_zeros w x) ≡ true
unfolding bit_of count_trailing_zeros
trailing-some zero x h = absurd (omega arith)
trailing-some (suc w) x h = go (x % 2) refl h (trailing-some w (x / 2))
  where
    go : (d : ℕ) → x % 2 ≡ d → under d (count_trailing_zeros w (x / 2)) < suc w → (count_trailing_zeros w (x / 2) < w → bit_of (x / 2) (count_trailing_zeros w (x / 2)) ≡ true) → bit_of x (under d (count_trailing_zeros w (x / 2))) ≡ true
    go (suc d) e h rest = eq-eqb (x % 2) 1 (omega arith)
    go zero e h rest = rest (omega arith)

pub zeros-fit : (x : ℕ) → count_trailing_zeros word_bits x < 2 ^ 64
zeros-fit x = omega (arith, trailing_le word_bits x)

pub bit-fits : (u x : ℕ) → u < word_bits → u + count_trailing_zeros word_bits x < 2 ^ 64
bit-fits u x h = omega (arith, trailing_le word_bits x)

pub bit-near : (u x : ℕ) → u < word_bits → u + count_trailing_zeros word_bits x < 2 * word_bits
bit-near u x h = omega (arith, trailing_le word_bits x)

-- the machine's `u + u64::trailing_zeros(x >> u)`
pub next_bit : (x u : ℕ) → IsNextBelow word_bits (bit_of x) u (u + count_trailing_zeros word_bits (x / 2 ^ u))
next_bit x u =
    let zeros = count_trailing_zeros word_bits (x / 2 ^ u) in
    record {
      from = omega arith;
      none = λ i above less.
          let e : u + (i - u) ≡ i = omega arith in
          ap (bit_of x) (sym e) ∙ sym (bit_of-above x u (i - u)) ∙ trailing-none word_bits (x / 2 ^ u) (i - u) (omega arith);
      some = λ less. sym (bit_of-above x u zeros) ∙ trailing-some word_bits (x / 2 ^ u) (omega arith);
    }

-- the machine's `a == b`, of words
pub are-same : (a b : ℕ) → a < 2 ^ word_bits → b < 2 ^ word_bits → AreSame word_bits (bit_of a) (bit_of b) (eqb a b)
are-same a b p q =
    record {
      alike = λ e i. ap (λ (x : ℕ). bit_of x i) (eqb-true a b e);
      differ = λ e all. eqb-false a b e (bits-same word_bits a b p q all);
    }

-- the machine's `u64::count_ones(x)`, of a word of w bits
lowest-one : (d : ℕ) → d < 2 → d ≡ if_true (eqb d 1) 1 0
unfolding if_true
lowest-one zero h = refl
lowest-one (suc zero) h = refl
lowest-one (suc (suc d)) h = absurd (omega arith)

pub ones-counted : (w x : ℕ) → x < 2 ^ w → ones x ≡ count_below w (bit_of x)
unfolding bit_of count_below
ones-counted zero x h = omega (arith, ones-le 0 x h)
ones-counted (suc w) x h =
    ones_step x
    ∙ ap₂ (λ (a b : ℕ). a + b) (lowest-one (x % 2) (omega arith)) (ones-counted w (x / 2) (omega (arith, pow-suc 2 w)))
    ∙ sym (count-first w (bit_of x))

pub ones-fit : (x : ℕ) → x < 2 ^ word_bits → ones x < 2 ^ 64
ones-fit x h = omega (arith, ones-le word_bits x h)
