-- Lists whose numbers ascend between two bounds: in a row, gathered, or of one number.
use Prim.Native.Nat.{ℕ, zero, suc, ◌+◌, ◌≤◌, ◌<◌}
use Rattle.std.specs.Prelude.{◌≡◌}
use mathlib.Core.List.{List, [], ◌∷◌, ◌++◌}
use native.Mathlib.Omega.{arith}
use Rattle.rules.specs.definitions.SoundModel.{Each, Along}
use Rattle.rules.specs.definitions.Accepted.{Ascends, end, next}
use Rattle.rules.proofs.argument.SoundModelLaws.{From, along-from}
use Rattle.composition.specs.definitions.Composition.{gathered}

-- `From`, and what the last element leaves is not above `high`
unfoldable pub Span : {X : Type 0} → (f after : X → ℕ) → (low high : ℕ) → List X → Type 0
Span f after low high [] = low ≤ high
Span f after low high (x ∷ xs) = (low ≤ f x) × Span f after (after x) high xs

module _ {X : Type 0} (f after : X → ℕ) where
  pub span-wider : (xs : List X) (low low' high high' : ℕ) → low' ≤ low → high ≤ high' → Span f after low high xs → Span f after low' high' xs
  unfolding Span
  span-wider [] low low' high high' l h s = omega arith
  span-wider (x ∷ xs) low low' high high' l h s = (omega (arith, s.0), span-wider xs (after x) (after x) high high' (omega arith) h s.1)

  pub span-append : (xs ys : List X) (low middle high : ℕ) → Span f after low middle xs → Span f after middle high ys → Span f after low high (xs ++ ys)
  unfolding Span
  span-append [] ys low middle high s t = span-wider ys middle low high high s (omega arith) t
  span-append (x ∷ xs) ys low middle high s t = (s.0, span-append xs ys (after x) middle high s.1 t)

  -- each list of those gathered between a bound and the next
  pub gathered-span : (bound : ℕ → ℕ) (n : ℕ) (g : ℕ → List X) → ((k : ℕ) → k < n → Span f after (bound k) (bound (suc k)) (g k)) → Span f after (bound 0) (bound n) (gathered n g)
  unfolding gathered Span
  gathered-span bound zero g h = omega arith
  gathered-span bound (suc n) g h =
      span-append (gathered n g) (g n) (bound 0) (bound n) (bound (suc n)) (gathered-span bound n g (λ k l. h k (omega arith))) (h n (omega arith))

  span-from : (xs : List X) (low high : ℕ) → Span f after low high xs → From f after low xs
  unfolding Span From
  span-from [] low high s = tt
  span-from (x ∷ xs) low high s = (s.0, span-from xs (after x) high s.1)

  pub span-along : (xs : List X) (low high : ℕ) → Span f after low high xs → Along (λ (x y : X). after x ≤ f y) xs
  span-along xs low high s = along-from f after xs low (span-from xs low high s)

-- all of one number
pub span-constant : {X : Type 0} (f : X → ℕ) (c : ℕ) (xs : List X) → Each (λ (x : X). f x ≡ c) xs → Span f f c c xs
unfolding Span Each
span-constant f c [] h = omega arith
span-constant f c (x ∷ xs) h = (omega (arith, h.0), span-wider f f xs c (f x) c c (omega (arith, h.0)) (omega arith) (span-constant f c xs h.1))

-- strictly
pub span-ascends : {X : Type 0} (f : X → ℕ) (xs : List X) (low high : ℕ) → Span f (λ x. f x + 1) low high xs → Ascends f low xs
unfolding Span
span-ascends f [] low high s = end
span-ascends f (x ∷ xs) low high s = next s.0 (span-ascends f xs (f x + 1) high s.1)
