-- Lists beside lists made from them element by element, and lists of numbers that ascend.
use Rattle.std.specs.Prelude.{ℕ, suc, ◌+◌, ◌≤◌, ◌<◌, length}
use mathlib.Core.List.{List, [], ◌∷◌, map}
use Rattle.std.proofs.Common.{arith}
use Rattle.rules.specs.definitions.SoundModel.{Each}
use Rattle.rules.proofs.argument.SoundModelLaws.{From}
use Rattle.prism.specs.definitions.HeldText.{Beside}

module _ {A B : Type 0} (f : A → B) where
  -- each beside what is made of it
  pub beside-mapped : (P : A → Type 0) (R : A → B → Type 0) → ((x : A) → P x → R x (f x)) → (xs : List A) → Each P xs → Beside R xs (map f xs)
  unfolding Each Beside
  beside-mapped P R make [] h = tt
  beside-mapped P R make (x ∷ xs) h = (make x h.0, beside-mapped P R make xs h.1)

  -- what is made of them beside a list, and they themselves
  pub beside-unmapped : {C : Type 0} (R : B → C → Type 0) (xs : List A) (ys : List C) → Beside R (map f xs) ys → Beside (λ (x : A) (y : C). R (f x) y) xs ys
  unfolding Beside
  beside-unmapped R [] [] h = tt
  beside-unmapped R [] (y ∷ ys) h = h
  beside-unmapped R (x ∷ xs) [] h = h
  beside-unmapped R (x ∷ xs) (y ∷ ys) h = (h.0, beside-unmapped R xs ys h.1)

-- numbers below n that ascend from a lowest on are not more than there are
pub ascending-few : {A : Type 0} (f : A → ℕ) (n : ℕ) (xs : List A) (lowest : ℕ) → lowest ≤ n → From f (λ (x : A). suc (f x)) lowest xs → Each (λ (x : A). f x < n) xs → lowest + length xs ≤ n
unfolding From Each
ascending-few f n [] lowest le from below = omega arith
ascending-few f n (x ∷ xs) lowest le from below =
    omega (arith, ascending-few f n xs (suc (f x)) below.0 from.1 below.1)
