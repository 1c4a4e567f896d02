-- Laws of the greatest common divisor: it divides, every common divisor divides it, and what is divided by it has none above 1.
use Rattle.std.specs.Prelude.{ℕ, zero, suc, ◌+◌, ◌*◌, ◌/◌, ◌%◌, ◌≤◌, ◌<◌, ◌≡◌, refl, ◌↔◌, List, [], ◌∷◌, map, get_or}
use Rattle.std.specs.Int.{◌∣◌}
use Rattle.std.proofs.Common.{sym, ◌∙◌, ap, ap₂, subst, arith, mod-lt, mul_assoc, mul_comm, mul-zero, one-mul}
use Rattle.std.proofs.Math.Decide.{ℕ_discrete}
use Rattle.std.proofs.Math.Nat.{dvd-mul_left, dvd_trans, dvd-add, dvd-mod_iff, dvd_antisymm, dvd_of_mul-dvd-mul_right, div-mul_cancel, le_of_dvd, pos_of_dvd_of_pos}
use Rattle.bisimulation.specs.definitions.Choice.{if_same}
use Rattle.bisimulation.proofs.argument.ChoiceLaws.{same, not_same}
use Rattle.numbers.specs.definitions.Divisor.{divisor_within, divisor, divisor_of, Divides}

-- the library's word for dividing, and its laws in ours
pub to-dvd : {g x : ℕ} → Divides g x → g ∣ x
to-dvd {g} {x} h = subst (λ (z : ℕ). g ∣ z) h.product (dvd-mul_left g h.times)

pub from-dvd : {g x : ℕ} → g ∣ x → Divides g x
from-dvd {g} {x} h = record { times = x / g; product = div-mul_cancel g h }

pub divides-self : (g : ℕ) → Divides g g
divides-self g = record { times = 1; product = omega arith }

pub divides-zero : (g : ℕ) → Divides g 0
divides-zero g = record { times = 0; product = omega arith }

pub one-divides : (x : ℕ) → Divides 1 x
one-divides x = record { times = x; product = omega arith }

pub divides-trans : {a b c : ℕ} → Divides a b → Divides b c → Divides a c
divides-trans {a} h k = from-dvd (dvd_trans a (to-dvd h) (to-dvd k))

pub divides-sum : {g x y : ℕ} → Divides g x → Divides g y → Divides g (x + y)
divides-sum {g} h k = from-dvd (dvd-add g (to-dvd h) (to-dvd k))

pub divides-each-other : {a b : ℕ} → Divides a b → Divides b a → a ≡ b
divides-each-other h k = dvd_antisymm (to-dvd h) (to-dvd k)

-- a divisor of a positive number is positive, and no greater
pub divides-positive : {g x : ℕ} → Divides g x → 1 ≤ x → 1 ≤ g
divides-positive h some = pos_of_dvd_of_pos (to-dvd h) some

pub divides-most : {g x : ℕ} → Divides g x → 1 ≤ x → g ≤ x
divides-most h some = le_of_dvd some (to-dvd h)

-- what is divided, times the divisor; it is positive where the whole is
pub divided-times : {g x : ℕ} → Divides g x → x / g * g ≡ x
divided-times {g} h = div-mul_cancel g (to-dvd h)

pub divided-some : {g x : ℕ} → Divides g x → 1 ≤ x → 1 ≤ x / g
divided-some {g} {x} h some = divides-positive (record { times = g; product = mul_comm g (x / g) ∙ divided-times h }) some

-- a factor that both have, put to them and left out
pub divides-times : (c : ℕ) {g x : ℕ} → Divides g x → Divides (g * c) (x * c)
divides-times c {g} {x} h = record { times = h.times; product = sym (mul_assoc h.times g c) ∙ ap (λ (z : ℕ). z * c) h.product }

pub divides-without : (c : ℕ) {g x : ℕ} → 1 ≤ c → Divides (g * c) (x * c) → Divides g x
divides-without c {g} some h = from-dvd (dvd_of_mul-dvd-mul_right g some (to-dvd h))

-- the common divisors of a and b are the divisors of g
pub record IsDivisor (a b g : ℕ) : Type 0 where
  pub first : Divides g a
  pub second : Divides g b
  pub greatest : (k : ℕ) → Divides k a → Divides k b → Divides k g

-- there is one such number
pub one-divisor : {a b g h : ℕ} → IsDivisor a b g → IsDivisor a b h → g ≡ h
one-divisor {g = g} {h = h} x y =
    divides-each-other (y.greatest g x.first x.second) (x.greatest h y.first y.second)

-- Euclid's step keeps the common divisors
pub divisor-of-rest : (a b g : ℕ) → IsDivisor b (a % b) g → IsDivisor a b g
divisor-of-rest a b g h =
    record {
      first = from-dvd ((dvd-mod_iff g (to-dvd h.first)).0 (to-dvd h.second));
      second = h.first;
      greatest = λ k u v. h.greatest k v (from-dvd ((dvd-mod_iff k (to-dvd v)).1 (to-dvd u)));
    }

divisor-of-zero : (a b : ℕ) → b ≡ 0 → IsDivisor a b a
divisor-of-zero a b e =
    record { first = divides-self a; second = subst (Divides a) (sym e) (divides-zero a); greatest = λ k u v. u }

within : (most a b : ℕ) → b ≤ most → IsDivisor a b (divisor_within most a b)
unfolding divisor_within
within zero a b h = divisor-of-zero a b (omega arith)
within (suc most) a b h = go (ℕ_discrete b 0) (within most b (a % b))
  where
    go : Dec (b ≡ 0) → (a % b ≤ most → IsDivisor b (a % b) (divisor_within most b (a % b))) → IsDivisor a b (if_same b 0 a (divisor_within most b (a % b)))
    go (yes e) ih = subst (IsDivisor a b) (same _ e refl) (divisor-of-zero a b e)
    go (no n) ih =
        let some : 0 < b = omega arith in
        subst (IsDivisor a b) (not_same a n refl) (divisor-of-rest a b _ (ih (omega (arith, mod-lt a some))))

-- the divisor divides both, and every common divisor divides it
pub divisor-greatest : (a b : ℕ) → IsDivisor a b (divisor a b)
unfolding divisor
divisor-greatest a b = within b a b (omega arith)

-- Euclid's way, step by step
pub divisor-last : (a : ℕ) → divisor a 0 ≡ a
unfolding divisor divisor_within
divisor-last a = refl

pub divisor-first : (b : ℕ) → divisor 0 b ≡ b
divisor-first b =
    one-divisor (divisor-greatest 0 b) (record { first = divides-zero b; second = divides-self b; greatest = λ k u v. v })

-- with 1 it is 1
pub divisor-one-first : (b : ℕ) → divisor 1 b ≡ 1
divisor-one-first b = divides-each-other (divisor-greatest 1 b).first (one-divides _)

pub divisor-one-last : (a : ℕ) → divisor a 1 ≡ 1
divisor-one-last a = divides-each-other (divisor-greatest a 1).second (one-divides _)

pub divisor-step : (a b : ℕ) → divisor a b ≡ divisor b (a % b)
divisor-step a b = one-divisor (divisor-greatest a b) (divisor-of-rest a b _ (divisor-greatest b (a % b)))

-- a common factor
pub divisor-times : (c a b : ℕ) → divisor (a * c) (b * c) ≡ divisor a b * c
divisor-times c a b = go (ℕ_discrete c 0)
  where
    go : Dec (c ≡ 0) → divisor (a * c) (b * c) ≡ divisor a b * c
    go (yes e) = rw e (ap₂ divisor (mul-zero a) (mul-zero b) ∙ divisor-last 0 ∙ sym (mul-zero (divisor a b)))
    go (no n) =
        let some : 1 ≤ c = omega arith in
        let g = divisor-greatest a b in
        let h = divisor-greatest (a * c) (b * c) in
        let whole = h.greatest c (record { times = a; product = refl }) (record { times = b; product = refl }) in
        let inside : (x : ℕ) → Divides (divisor (a * c) (b * c)) (x * c) → Divides whole.times x =
        λ x d. divides-without c some (subst (λ (z : ℕ). Divides z (x * c)) (sym whole.product) d) in
        divides-each-other
        (subst (λ (z : ℕ). Divides z (divisor a b * c)) whole.product
        (divides-times c (g.greatest whole.times (inside a h.first) (inside b h.second))))
        (h.greatest (divisor a b * c) (divides-times c g.first) (divides-times c g.second))

-- g divides each number of a list
unfoldable pub DividesEach : ℕ → List ℕ → Type 0
DividesEach g [] = Unit
DividesEach g (x ∷ xs) = Divides g x × DividesEach g xs

-- the common divisors of g0 and all of a list are the divisors of g
pub record IsDivisorOf (g0 : ℕ) (xs : List ℕ) (g : ℕ) : Type 0 where
  pub first : Divides g g0
  pub each : DividesEach g xs
  pub greatest : (k : ℕ) → Divides k g0 → DividesEach k xs → Divides k g

-- the divisor of a list divides each, and every common divisor divides it
pub divisor_of-greatest : (g0 : ℕ) (xs : List ℕ) → IsDivisorOf g0 xs (divisor_of g0 xs)
unfolding divisor_of DividesEach
divisor_of-greatest g0 [] = record { first = divides-self g0; each = tt; greatest = λ k u d. u }
divisor_of-greatest g0 (x ∷ xs) =
    let one = divisor-greatest g0 x in
    let rest = divisor_of-greatest (divisor g0 x) xs in
    record {
      first = divides-trans rest.first one.first;
      each = (divides-trans rest.first one.second, rest.each);
      greatest = λ k u d. rest.greatest k (one.greatest k u d.0) d.1;
    }

-- once it is 1 it stays 1
pub divisor_of-one : (xs : List ℕ) → divisor_of 1 xs ≡ 1
divisor_of-one xs = divides-each-other (divisor_of-greatest 1 xs).first (one-divides _)

-- a common factor of all
pub divisor_of-times : (c g0 : ℕ) (xs : List ℕ) → divisor_of (g0 * c) (map (λ (x : ℕ). x * c) xs) ≡ divisor_of g0 xs * c
unfolding divisor_of
divisor_of-times c g0 [] = refl
divisor_of-times c g0 (x ∷ xs) =
    ap (λ (g : ℕ). divisor_of g (map (λ (y : ℕ). y * c) xs)) (divisor-times c g0 x) ∙ divisor_of-times c (divisor g0 x) xs

-- what divides each number divides the one at any position
pub divides-at : (g : ℕ) (xs : List ℕ) (i : ℕ) → DividesEach g xs → Divides g (get_or xs i 0)
unfolding DividesEach
divides-at g [] i d = divides-zero g
divides-at g (x ∷ xs) zero d = d.0
divides-at g (x ∷ xs) (suc i) d = divides-at g xs i d.1

-- the divisor is positive where some number is
pub divisor_of-positive : (g0 : ℕ) (xs : List ℕ) (i : ℕ) → 1 ≤ get_or xs i 0 → 1 ≤ divisor_of g0 xs
divisor_of-positive g0 xs i some = divides-positive (divides-at _ xs i (divisor_of-greatest g0 xs).each) some

-- the divisor is 1 exactly where every common divisor is 1: lowest terms
pub lowest-exactly : (xs : List ℕ) → (divisor_of 0 xs ≡ 1) ↔ ((k : ℕ) → DividesEach k xs → k ≡ 1)
lowest-exactly xs =
    let is = divisor_of-greatest 0 xs in
    (λ e k d. divides-each-other (subst (Divides k) e (is.greatest k (divides-zero k) d)) (one-divides k), λ low. low _ is.each)

divided-each : (k g : ℕ) (xs : List ℕ) → DividesEach g xs → DividesEach k (map (λ (x : ℕ). x / g) xs) → DividesEach (k * g) xs
unfolding DividesEach
divided-each k g [] d e = tt
divided-each k g (x ∷ xs) d e =
    (subst (Divides (k * g)) (divided-times d.0) (divides-times g e.0), divided-each k g xs d.1 e.1)

-- numbers divided by their divisor are in lowest terms
pub divided-lowest : (xs : List ℕ) → 1 ≤ divisor_of 0 xs → (k : ℕ) → DividesEach k (map (λ (x : ℕ). x / divisor_of 0 xs) xs) → k ≡ 1
divided-lowest xs some k d =
    let g = divisor_of 0 xs in
    let is = divisor_of-greatest 0 xs in
    let above : Divides (k * g) (1 * g) = subst (Divides (k * g)) (sym (one-mul g)) (is.greatest (k * g) (divides-zero _) (divided-each k g xs is.each d)) in
    divides-each-other (divides-without g some above) (one-divides k)

-- so their divisor is 1
pub divided-divisor : (xs : List ℕ) → 1 ≤ divisor_of 0 xs → divisor_of 0 (map (λ (x : ℕ). x / divisor_of 0 xs) xs) ≡ 1
divided-divisor xs some = (lowest-exactly _).1 (divided-lowest xs some)
