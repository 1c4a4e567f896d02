-- What holds of the elements of a list, of a list made from it element by element.
use Rattle.std.specs.Prelude.{ℕ, zero, suc, ◌+◌, ◌≤◌, ◌≡◌, get_or}
use Rattle.std.proofs.Math.Path.{refl}
use Rattle.std.proofs.Common.{ap₂, arith}
use mathlib.Core.List.{List, [], ◌∷◌, ◌++◌, map}
use Rattle.rules.specs.definitions.SoundModel.{Each, Along, sum_over}

-- both of each
pub each_both : {A : Type 0} (P Q : A → Type 0) (xs : List A) → Each P xs → Each Q xs → Each (λ (x : A). P x × Q x) xs
unfolding Each
each_both P Q [] h k = tt
each_both P Q (x ∷ xs) h k = ((h.0, k.0), each_both P Q xs h.1 k.1)

-- a number of each is no more than the sum
pub each-most : {A : Type 0} (f : A → ℕ) (most : ℕ) (xs : List A) → sum_over f xs ≤ most → Each (λ (x : A). f x ≤ most) xs
unfolding Each sum_over
each-most f most [] h = tt
each-most f most (x ∷ xs) h = (omega (arith, h), each-most f most xs (omega (arith, h)))

-- the sum of two lists in a row
pub sum-append : {A : Type 0} (f : A → ℕ) (xs ys : List A) → sum_over f (xs ++ ys) ≡ sum_over f xs + sum_over f ys
unfolding sum_over
sum-append f [] ys = omega arith
sum-append f (x ∷ xs) ys = omega (arith, sum-append f xs ys)

-- what holds of all
pub each_all : {A : Type 0} (P : A → Type 0) → ((x : A) → P x) → (xs : List A) → Each P xs
unfolding Each
each_all P h [] = tt
each_all P h (x ∷ xs) = (h x, each_all P h xs)

module _ {A B : Type 0} (f : A → B) where
  -- what holds of each that is made
  pub each-mapped : (P : A → Type 0) (Q : B → Type 0) → ((x : A) → P x → Q (f x)) → (xs : List A) → Each P xs → Each Q (map f xs)
  unfolding Each
  each-mapped P Q make [] h = tt
  each-mapped P Q make (x ∷ xs) h = (make x h.0, each-mapped P Q make xs h.1)

  pub each-unmapped : (Q : B → Type 0) (xs : List A) → Each Q (map f xs) → Each (λ (x : A). Q (f x)) xs
  unfolding Each
  each-unmapped Q [] h = tt
  each-unmapped Q (x ∷ xs) h = (h.0, each-unmapped Q xs h.1)

  -- what holds of each two that follow each other
  pub along-mapped : (R : A → A → Type 0) (S : B → B → Type 0) → ((x y : A) → R x y → S (f x) (f y)) → (xs : List A) → Along R xs → Along S (map f xs)
  unfolding Along
  along-mapped R S make [] h = tt
  along-mapped R S make (x ∷ []) h = tt
  along-mapped R S make (x ∷ y ∷ xs) h = (make x y h.0, along-mapped R S make (y ∷ xs) h.1)

  -- their sum is the same
  pub sum-mapped : (g : A → ℕ) (k : B → ℕ) → ((x : A) → k (f x) ≡ g x) → (xs : List A) → sum_over k (map f xs) ≡ sum_over g xs
  unfolding sum_over
  sum-mapped g k eq [] = refl
  sum-mapped g k eq (x ∷ xs) = omega (arith, eq x, sum-mapped g k eq xs)

  -- the one at a position
  pub get_d-mapped : (xs : List A) (i : ℕ) (d : A) → get_or (map f xs) i (f d) ≡ f (get_or xs i d)
  get_d-mapped [] i d = refl
  get_d-mapped (x ∷ xs) zero d = refl
  get_d-mapped (x ∷ xs) (suc i) d = get_d-mapped xs i d

-- each made from an element that it is
pub map_same : {A : Type 0} (f : A → A) (xs : List A) → Each (λ (x : A). f x ≡ x) xs → map f xs ≡ xs
unfolding Each
map_same f [] h = refl
map_same f (x ∷ xs) h = ap₂ ◌∷◌ h.0 (map_same f xs h.1)
