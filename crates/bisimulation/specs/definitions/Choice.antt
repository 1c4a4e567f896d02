-- The tests by which every definition chooses. Proofs use their laws (`ChoiceLaws`), not their text.
use Rattle.std.specs.Prelude.{ℕ, zero, suc, ◌+◌, Bool, true, false, cond, ltb, eqb}

-- x where a is below b, else y
unfoldable pub if_less {ℓ} : {X : Type ℓ} → ℕ → ℕ → X → X → X
if_less a b x y = cond (ltb a b) x y

-- x where a equals b, else y
unfoldable pub if_same {ℓ} : {X : Type ℓ} → ℕ → ℕ → X → X → X
if_same a b x y = cond (eqb a b) x y

-- x where the test holds, else y
unfoldable pub if_true {ℓ} : {X : Type ℓ} → Bool → X → X → X
if_true b x y = cond b x y

-- the same test with the refusal first: r unless a is below b
abbrev pub unless_less {ℓ} : {X : Type ℓ} → ℕ → ℕ → X → X → X
unless_less a b r x = if_less a b x r

-- r unless a equals b
abbrev pub unless_same {ℓ} : {X : Type ℓ} → ℕ → ℕ → X → X → X
unless_same a b r x = if_same a b x r

-- r unless the test holds
abbrev pub unless_true {ℓ} : {X : Type ℓ} → Bool → X → X → X
unless_true b r x = if_true b x r

-- both tests hold
unfoldable pub both : Bool → Bool → Bool
both a b = cond a b false

-- f holds of every number below n
unfoldable pub all_below : ℕ → (ℕ → Bool) → Bool
all_below zero f = true
all_below (suc n) f = cond (all_below n f) (f n) false

-- of how many numbers below n f holds
unfoldable pub count_below : ℕ → (ℕ → Bool) → ℕ
count_below zero f = 0
count_below (suc n) f = count_below n f + if_true (f n) 1 0
