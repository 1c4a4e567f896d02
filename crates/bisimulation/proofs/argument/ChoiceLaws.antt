-- The laws of the tests: what a choice comes to, and what it tells.
use Rattle.std.specs.Prelude.{ℕ, zero, suc, ◌+◌, ◌*◌, ◌≤◌, ◌<◌, ◌≡◌, refl, Bool, true, false, cond, ltb, eqb}
use Rattle.std.proofs.Common.{sym, ◌∙◌, ap, ap₂, subst, lt-ltb, le-ltb, eq-eqb, ne_eqb, ltb-true, ltb-false, eqb-true, arith, zero-mul, zero-add, suc-add}
use Rattle.std.proofs.lemmas.Bool.{eqb-false}
use Rattle.std.proofs.Math.Decide.{ℕ_discrete}
use Rattle.bisimulation.specs.definitions.Choice.{if_less, if_same, if_true, both, all_below, count_below}

-- z is what the choice comes to: x where the test holds, y where it does not
pub less {ℓ} : {X : Type ℓ} {z x : X} (y : X) {a b : ℕ} → a < b → z ≡ x → z ≡ if_less a b x y
unfolding if_less
less {x = x} y {a} {b} h e = e ∙ ap (λ (t : Bool). cond t x y) (sym (lt-ltb a b h))

pub not_less {ℓ} : {X : Type ℓ} {z y : X} (x : X) {a b : ℕ} → b ≤ a → z ≡ y → z ≡ if_less a b x y
unfolding if_less
not_less {y = y} x {a} {b} h e = e ∙ ap (λ (t : Bool). cond t x y) (sym (le-ltb a b h))

pub same {ℓ} : {X : Type ℓ} {z x : X} (y : X) {a b : ℕ} → a ≡ b → z ≡ x → z ≡ if_same a b x y
unfolding if_same
same {x = x} y {a} {b} h e = e ∙ ap (λ (t : Bool). cond t x y) (sym (eq-eqb a b h))

pub not_same {ℓ} : {X : Type ℓ} {z y : X} (x : X) {a b : ℕ} → (a ≡ b → ⊥) → z ≡ y → z ≡ if_same a b x y
unfolding if_same
not_same {y = y} x {a} {b} h e = e ∙ ap (λ (t : Bool). cond t x y) (sym (ne_eqb a b h))

-- z is y, which is x
pub via {ℓ} : {X : Type ℓ} {x y z : X} → y ≡ x → z ≡ x → z ≡ y
via p q = q ∙ sym p

-- a property of both sides is one of the choice
pub either_less {ℓ κ} : {X : Type ℓ} (P : X → Type κ) (a b : ℕ) {x y : X} → P x → P y → P (if_less a b x y)
unfolding if_less
either_less P a b {x} {y} p q = go (ltb a b)
  where
    go : (t : Bool) → P (cond t x y)
    go true = p
    go false = q

pub either_same {ℓ κ} : {X : Type ℓ} (P : X → Type κ) (a b : ℕ) {x y : X} → P x → P y → P (if_same a b x y)
unfolding if_same
either_same P a b {x} {y} p q = go (eqb a b)
  where
    go : (t : Bool) → P (cond t x y)
    go true = p
    go false = q

pub either_true {ℓ κ} : {X : Type ℓ} (P : X → Type κ) (b : Bool) {x y : X} → P x → P y → P (if_true b x y)
unfolding if_true
either_true P true p q = p
either_true P false p q = q

-- the numbers that are compared change places
pub turned {ℓ} : {X : Type ℓ} (a b : ℕ) (x y : X) → if_same a b x y ≡ if_same b a x y
turned a b x y = go (ℕ_discrete b a)
  where
    go : Dec (b ≡ a) → if_same a b x y ≡ if_same b a x y
    go (yes e) = same y e (sym (same y (sym e) refl))
    go (no n) = not_same x n (sym (not_same x (λ e. n (sym e)) refl))

-- a function, and a factor, goes into the choice
pub of_same {ℓ κ} : {X : Type ℓ} {Y : Type κ} (f : X → Y) (a b : ℕ) (x y : X) → f (if_same a b x y) ≡ if_same a b (f x) (f y)
unfolding if_same
of_same f a b x y = go (eqb a b)
  where
    go : (t : Bool) → f (cond t x y) ≡ cond t (f x) (f y)
    go true = refl
    go false = refl

pub times_same : (a b x c : ℕ) → if_same a b x 0 * c ≡ if_same a b (x * c) 0
unfolding if_same
times_same a b x c = go (eqb a b)
  where
    go : (t : Bool) → cond t x 0 * c ≡ cond t (x * c) 0
    go true = refl
    go false = zero-mul c

-- z is not the refusal r, so the choice went the other way. The refusal stands first, or second
pub past_less {ℓ} : {X : Type ℓ} {z : X} (r y : X) (a b : ℕ) → (z ≡ r → ⊥) → z ≡ if_less a b r y → (b ≤ a) × (z ≡ y)
unfolding if_less
past_less {z = z} r y a b n = go (ltb a b) refl
  where
    go : (t : Bool) → ltb a b ≡ t → z ≡ cond t r y → (b ≤ a) × (z ≡ y)
    go true q e = absurd (n e)
    go false q e = (ltb-false a b q, e)

pub kept_less {ℓ} : {X : Type ℓ} {z : X} (x r : X) (a b : ℕ) → (z ≡ r → ⊥) → z ≡ if_less a b x r → (a < b) × (z ≡ x)
unfolding if_less
kept_less {z = z} x r a b n = go (ltb a b) refl
  where
    go : (t : Bool) → ltb a b ≡ t → z ≡ cond t x r → (a < b) × (z ≡ x)
    go true q e = (ltb-true a b q, e)
    go false q e = absurd (n e)

pub kept_same {ℓ} : {X : Type ℓ} {z : X} (x r : X) (a b : ℕ) → (z ≡ r → ⊥) → z ≡ if_same a b x r → (a ≡ b) × (z ≡ x)
unfolding if_same
kept_same {z = z} x r a b n = go (eqb a b) refl
  where
    go : (t : Bool) → eqb a b ≡ t → z ≡ cond t x r → (a ≡ b) × (z ≡ x)
    go true q e = (eqb-true a b q, e)
    go false q e = absurd (n e)

pub is_true {ℓ} : {X : Type ℓ} {z x : X} (y : X) {b : Bool} → b ≡ true → z ≡ x → z ≡ if_true b x y
unfolding if_true
is_true {x = x} y h e = e ∙ ap (λ (t : Bool). cond t x y) (sym h)

pub is_false {ℓ} : {X : Type ℓ} {z y : X} (x : X) {b : Bool} → b ≡ false → z ≡ y → z ≡ if_true b x y
unfolding if_true
is_false {y = y} x h e = e ∙ ap (λ (t : Bool). cond t x y) (sym h)

pub not_true {ℓ} : {X : Type ℓ} {z y : X} (x : X) {b : Bool} → (b ≡ true → ⊥) → z ≡ y → z ≡ if_true b x y
unfolding if_true
not_true x {b = true} n e = absurd (n refl)
not_true x {b = false} n e = e

pub kept_true {ℓ} : {X : Type ℓ} {z : X} (x r : X) (b : Bool) → (z ≡ r → ⊥) → z ≡ if_true b x r → (b ≡ true) × (z ≡ x)
unfolding if_true
kept_true x r true n e = (refl, e)
kept_true x r false n e = absurd (n e)

pub past_same {ℓ} : {X : Type ℓ} {z : X} (r y : X) (a b : ℕ) → (z ≡ r → ⊥) → z ≡ if_same a b r y → (a ≡ b → ⊥) × (z ≡ y)
unfolding if_same
past_same {z = z} r y a b n = go (eqb a b) refl
  where
    go : (t : Bool) → eqb a b ≡ t → z ≡ cond t r y → (a ≡ b → ⊥) × (z ≡ y)
    go true q e = absurd (n e)
    go false q e = (eqb-false a b q, e)

pub false-not : false ≡ true → ⊥
false-not e = subst (λ (t : Bool). cond t ⊥ (Unit {0})) e tt

-- two tests that hold together
pub one-test : (a b : Bool) → (a ≡ true → b ≡ true) → (b ≡ true → a ≡ true) → a ≡ b
one-test true b f g = sym (f refl)
one-test false true f g = g refl
one-test false false f g = refl

-- both tests hold exactly where each does
pub both_true : (a b : Bool) → both a b ≡ true → (a ≡ true) × (b ≡ true)
unfolding both
both_true true b e = (refl, e)
both_true false b e = absurd (false-not e)

pub true-both : {a b : Bool} → a ≡ true → b ≡ true → both a b ≡ true
unfolding both
true-both p q = ap₂ (λ (x y : Bool). cond x y false) p q

-- what holds of every number below n holds of each, and the other way round
pub all-below : (n : ℕ) (f : ℕ → Bool) → all_below n f ≡ true → (i : ℕ) → i < n → f i ≡ true
unfolding all_below
all-below zero f e i h = absurd (omega arith)
all-below (suc n) f e i h = go (λ q. all-below n f q i) (all_below n f) refl e (ℕ_discrete i n)
  where
    go : (all_below n f ≡ true → i < n → f i ≡ true) → (t : Bool) → all_below n f ≡ t → cond t (f n) false ≡ true → Dec (i ≡ n) → f i ≡ true
    go below true q e (yes p) = ap f p ∙ e
    go below true q e (no p) = below q (omega arith)
    go below false q e d = absurd (false-not e)

pub below_all : (n : ℕ) (f : ℕ → Bool) → ((i : ℕ) → i < n → f i ≡ true) → all_below n f ≡ true
unfolding all_below
below_all zero f h = refl
below_all (suc n) f h =
    ap (λ (t : Bool). cond t (f n) false) (below_all n f (λ i less. h i (omega arith))) ∙ h n (omega arith)

-- where it does not hold of one, it does not hold of all
pub not-all : (n : ℕ) (f : ℕ → Bool) (i : ℕ) → i < n → f i ≡ false → false ≡ all_below n f
not-all n f i less e = go (all_below n f) refl
  where
    go : (t : Bool) → all_below n f ≡ t → false ≡ t
    go true q = absurd (false-not (sym e ∙ all-below n f q i less))
    go false q = refl

-- tests that are equal below n
pub all_below_cong : (n : ℕ) (f g : ℕ → Bool) → ((i : ℕ) → i < n → f i ≡ g i) → all_below n f ≡ all_below n g
unfolding all_below
all_below_cong zero f g h = refl
all_below_cong (suc n) f g h =
    ap₂ (λ (a b : Bool). cond a b false) (all_below_cong n f g (λ i l. h i (omega arith))) (h n (omega arith))

-- both tests hold of every number where each holds of every number
pub all_both : (n : ℕ) (f g : ℕ → Bool) → all_below n (λ i. both (f i) (g i)) ≡ both (all_below n f) (all_below n g)
unfolding all_below both
all_both zero f g = refl
all_both (suc n) f g = ap (λ (a : Bool). cond a (cond (f n) (g n) false) false) (all_both n f g) ∙ go (all_below n f) (all_below n g) (f n) (g n)
  where
    go : (a b c d : Bool) → cond (cond a b false) (cond c d false) false ≡ cond (cond a c false) (cond b d false) false
    go true true true d = refl
    go true true false d = refl
    go true false true d = refl
    go true false false d = refl
    go false b c d = refl

-- tests that are equal below n are counted alike
pub count_below_cong : (n : ℕ) (f g : ℕ → Bool) → ((i : ℕ) → i < n → f i ≡ g i) → count_below n f ≡ count_below n g
unfolding count_below
count_below_cong zero f g h = refl
count_below_cong (suc n) f g h =
    ap₂ (λ (k : ℕ) (b : Bool). k + if_true b 1 0) (count_below_cong n f g (λ i l. h i (omega arith))) (h n (omega arith))

-- numbers of which a test does not hold count nothing
pub count-above : (more n : ℕ) (f : ℕ → Bool) → ((i : ℕ) → n ≤ i → f i ≡ false) → count_below (more + n) f ≡ count_below n f
unfolding count_below if_true
count-above zero n f h = ap (λ (k : ℕ). count_below k f) (zero-add n)
count-above (suc more) n f h =
    ap (λ (k : ℕ). count_below k f) (suc-add more n)
    ∙ ap (λ (b : Bool). count_below (more + n) f + if_true b 1 0) (h (more + n) (omega arith))
    ∙ omega (arith, count-above more n f h)

-- the first number, and the others
pub count-first : (n : ℕ) (f : ℕ → Bool) → count_below (suc n) f ≡ if_true (f 0) 1 0 + count_below n (λ i. f (suc i))
unfolding count_below
count-first zero f = omega arith
count-first (suc n) f = omega (arith, count-first n f)
