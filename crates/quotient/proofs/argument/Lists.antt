-- Laws of lists: an element that is there, any two elements, and two lists side by side.
use Prim.Native.Nat.{ℕ, zero, suc, ◌<◌}
use Rattle.std.specs.Prelude.{◌≡◌, ◌⊎◌, length, get_or}
use Rattle.std.proofs.Math.Logic.{inl, inr}
use mathlib.Core.List.{List, [], ◌∷◌, ◌++◌}
use native.Mathlib.Omega.{arith}
use Rattle.rules.specs.definitions.SoundModel.{Each}
use Rattle.rules.proofs.argument.SoundModelLaws.{each_at, each_map, each_append}

-- P holds of some element
unfoldable pub Some : {A : Type 0} → (A → Type 0) → List A → Type 0
Some P [] = ⊥
Some P (x ∷ xs) = P x ⊎ Some P xs

module _ {A : Type 0} where
  pub some-map : (P Q : A → Type 0) → ((x : A) → P x → Q x) → (xs : List A) → Some P xs → Some Q xs
  unfolding Some
  some-map P Q f [] s = s
  some-map P Q f (x ∷ xs) (inl p) = inl (f x p)
  some-map P Q f (x ∷ xs) (inr s) = inr (some-map P Q f xs s)

  -- of one that is there, both what some and what each has
  pub some-each : (P Q : A → Type 0) (xs : List A) → Some P xs → Each Q xs → Some (λ x. P x × Q x) xs
  unfolding Some Each
  some-each P Q [] s h = s
  some-each P Q (x ∷ xs) (inl p) h = inl (p, h.0)
  some-each P Q (x ∷ xs) (inr s) h = inr (some-each P Q xs s h.1)

  pub some_first : (P : A → Type 0) (xs ys : List A) → Some P xs → Some P (xs ++ ys)
  unfolding Some
  some_first P [] ys s = absurd s
  some_first P (x ∷ xs) ys (inl p) = inl p
  some_first P (x ∷ xs) ys (inr s) = inr (some_first P xs ys s)

  pub some-second : (P : A → Type 0) (xs ys : List A) → Some P ys → Some P (xs ++ ys)
  unfolding Some
  some-second P [] ys s = s
  some-second P (x ∷ xs) ys s = inr (some-second P xs ys s)

  pub some_at : (P : A → Type 0) (xs : List A) (d : A) → Some P xs → (i : ℕ) × (i < length xs) × P (get_or xs i d)
  unfolding Some
  some_at P [] d s = absurd s
  some_at P (x ∷ xs) d (inl p) = (0, omega arith, p)
  some_at P (x ∷ xs) d (inr s) = let h = some_at P xs d s in (suc h.0, omega (arith, h.1), h.2)

-- R of each element and every later one
unfoldable pub Pairwise : {A : Type 0} → (A → A → Type 0) → List A → Type 0
Pairwise R [] = Unit
Pairwise R (x ∷ xs) = Each (R x) xs × Pairwise R xs

module _ {A : Type 0} (R : A → A → Type 0) where
  pub pairwise_append : (xs ys : List A) → Pairwise R xs → Pairwise R ys → Each (λ (x : A). Each (R x) ys) xs → Pairwise R (xs ++ ys)
  unfolding Pairwise Each
  pairwise_append [] ys a b c = b
  pairwise_append (x ∷ xs) ys a b c = (each_append (R x) xs ys a.0 c.0, pairwise_append xs ys a.1 b c.1)

  pub pairwise_map : (S : A → A → Type 0) → ((x y : A) → R x y → S x y) → (xs : List A) → Pairwise R xs → Pairwise S xs
  unfolding Pairwise
  pairwise_map S f [] h = tt
  pairwise_map S f (x ∷ xs) h = (each_map (R x) (S x) (f x) xs h.0, pairwise_map S f xs h.1)

  pub pairwise-at : (xs : List A) (d : A) → Pairwise R xs → (i j : ℕ) → i < j → j < length xs → R (get_or xs i d) (get_or xs j d)
  unfolding Pairwise
  pairwise-at [] d h i j before less = absurd (omega arith)
  pairwise-at (x ∷ xs) d h i zero before less = absurd (omega arith)
  pairwise-at (x ∷ xs) d h zero (suc j) before less = each_at (R x) xs j d h.0 (omega arith)
  pairwise-at (x ∷ xs) d h (suc i) (suc j) before less = pairwise-at xs d h.1 i j (omega arith) (omega arith)

-- lists of one length, R of each two at one position
unfoldable pub Paired : {A : Type 0} → (A → A → Type 0) → List A → List A → Type 0
Paired R [] [] = Unit
Paired R [] (y ∷ ys) = ⊥
Paired R (x ∷ xs) [] = ⊥
Paired R (x ∷ xs) (y ∷ ys) = R x y × Paired R xs ys

module _ {A : Type 0} (R : A → A → Type 0) where
  pub at-paired : (xs ys : List A) (d : A) → length xs ≡ length ys → ((i : ℕ) → i < length xs → R (get_or xs i d) (get_or ys i d)) → Paired R xs ys
  unfolding Paired
  at-paired [] [] d e h = tt
  at-paired [] (y ∷ ys) d e h = absurd (omega arith)
  at-paired (x ∷ xs) [] d e h = absurd (omega arith)
  at-paired (x ∷ xs) (y ∷ ys) d e h = (h 0 (omega arith), at-paired xs ys d (omega arith) (λ i less. h (suc i) (omega arith)))
