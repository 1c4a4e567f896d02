-- Laws of lists that the merged model uses: choices, and numbers added up over all elements and over those of one key.
use Rattle.std.specs.Prelude.{ℕ, ◌+◌, ◌≤◌, ◌<◌, ◌≡◌, length}
use Rattle.std.proofs.Math.Path.{refl}
use Rattle.std.proofs.Common.{sym, ap, subst, add-one}
use mathlib.Core.List.{List, [], ◌∷◌, ◌++◌}
use Rattle.std.proofs.Math.Decide.{ℕ_discrete}
use native.Mathlib.Omega.{arith}
use Rattle.bisimulation.specs.definitions.Choice.{if_same}
use Rattle.bisimulation.proofs.argument.ChoiceLaws.{same, not_same}
use Rattle.bisimulation.specs.definitions.Sum.{sum}
use Rattle.bisimulation.proofs.argument.SumLaws.{sum_zero, sum_add}
use Rattle.rules.specs.definitions.SoundModel.{Each, sum_over}
use Rattle.rules.proofs.argument.SoundModelLaws.{sum-with}

-- a property of each side where the test goes that way is one of the choice
pub which_same : {X : Type 0} (P : X → Type 0) (a b : ℕ) {x y : X} → (a ≡ b → P x) → ((a ≡ b → ⊥) → P y) → P (if_same a b x y)
which_same P a b {x} {y} p q = go (ℕ_discrete a b)
  where
    go : Dec (a ≡ b) → P (if_same a b x y)
    go (yes e) = subst P (same y e refl) (p e)
    go (no n) = subst P (not_same x n refl) (q n)

-- a function goes into the choice
pub in_same : {X Y : Type 0} (f : X → Y) (a b : ℕ) (x y : X) → f (if_same a b x y) ≡ if_same a b (f x) (f y)
in_same f a b x y = go (ℕ_discrete a b)
  where
    go : Dec (a ≡ b) → f (if_same a b x y) ≡ if_same a b (f x) (f y)
    go (yes e) = same (f y) e (ap f (sym (same y e refl)))
    go (no n) = not_same (f x) n (ap f (sym (not_same x n refl)))

-- a sum with one number more
pub sum-next : (n : ℕ) (f : ℕ → ℕ) → sum (n + 1) f ≡ sum n f + f n
unfolding sum
sum-next n f = ap (λ (k : ℕ). sum k f) (add-one n)

-- what holds of all holds of each
pub each_all : {A : Type 0} (P : A → Type 0) → ((x : A) → P x) → (xs : List A) → Each P xs
unfolding Each
each_all P f [] = tt
each_all P f (x ∷ xs) = (f x, each_all P f xs)

-- numbers added up over lists
module _ {A : Type 0} where
  pub sum_over-append : (f : A → ℕ) (xs ys : List A) → sum_over f (xs ++ ys) ≡ sum_over f xs + sum_over f ys
  unfolding sum_over
  sum_over-append f [] ys = omega arith
  sum_over-append f (x ∷ xs) ys = omega (arith, sum_over-append f xs ys)

  pub sum_over-most : (f g : A → ℕ) (xs : List A) → Each (λ x. f x ≤ g x) xs → sum_over f xs ≤ sum_over g xs
  unfolding Each sum_over
  sum_over-most f g [] h = omega arith
  sum_over-most f g (x ∷ xs) h = omega (arith, sum_over-most f g xs h.1)

  pub sum_over-length : (xs : List A) → sum_over (λ (x : A). 1) xs ≡ length xs
  unfolding sum_over
  sum_over-length [] = refl
  sum_over-length (x ∷ xs) = omega (arith, sum_over-length xs)

  pub sum_over-some : (f : A → ℕ) (xs : List A) → 1 ≤ sum_over f xs → 1 ≤ length xs
  unfolding sum_over
  sum_over-some f [] h = omega arith
  sum_over-some f (x ∷ xs) h = omega arith

  -- what the elements of one key add up to; over all keys it is what all elements do
  module _ (key : A → ℕ) where
    abbrev pub sum_at : (A → ℕ) → List A → ℕ → ℕ
    sum_at f xs b = sum_over (λ x. if_same (key x) b (f x) 0) xs

    pub sum_at-all : (f : A → ℕ) (n : ℕ) (xs : List A) → Each (λ x. key x < n) xs → sum n (sum_at f xs) ≡ sum_over f xs
    unfolding Each sum_over
    sum_at-all f n [] h = sum_zero n (λ b. 0) (λ i l. refl)
    sum_at-all f n (x ∷ xs) h =
        omega (arith, sum_add n (λ b. if_same (key x) b (f x) 0) (sum_at f xs), sum-with (key x) (f x) (λ v. 0) refl n h.0, sum_zero n (λ v. 0) (λ i l. refl), sum_at-all f n xs h.1)

    -- where something is added up there is an element
    pub sum_at-some : (f : A → ℕ) (xs : List A) (b : ℕ) → 1 ≤ sum_at f xs b → 1 ≤ sum_at (λ x. 1) xs b
    unfolding sum_over
    sum_at-some f [] b h = omega arith
    sum_at-some f (x ∷ xs) b h = go (ℕ_discrete (key x) b) (sum_at-some f xs b)
      where
        go : Dec (key x ≡ b) → (1 ≤ sum_at f xs b → 1 ≤ sum_at (λ y. 1) xs b) → 1 ≤ if_same (key x) b 1 0 + sum_at (λ y. 1) xs b
        go (yes e) ih = omega (arith, same {X = ℕ} {z = 1} 0 e refl)
        go (no n) ih = omega (arith, ih (omega (arith, not_same {z = 0} (f x) n refl)))
