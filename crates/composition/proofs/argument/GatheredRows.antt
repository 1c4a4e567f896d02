-- Lists of one length, gathered: how long they are, and what stands at a place.
use Prim.Native.Nat.{ℕ, zero, suc, ◌+◌, ◌*◌, ◌≤◌, ◌<◌}
use Rattle.std.specs.Prelude.{◌≡◌, refl, List, [], ◌∷◌, ◌++◌, get_or}
use Rattle.std.proofs.Common.{sym, ◌∙◌, ap, get_or-append-add, mul-le-mul_right}
use Rattle.std.proofs.Math.ListN.{length, length-append, get_or-append}
use Rattle.std.proofs.Math.Decide.{ℕ_discrete}
use native.Mathlib.Omega.{arith}
use Rattle.composition.specs.definitions.Composition.{gathered}

module _ {X : Type 0} (width : ℕ) where
  pub rows-length : (n : ℕ) (f : ℕ → List X) → ((k : ℕ) → k < n → length (f k) ≡ width) → length (gathered n f) ≡ n * width
  unfolding gathered
  rows-length zero f h = omega arith
  rows-length (suc n) f h = omega (arith, length-append (gathered n f) (f n), rows-length n f (λ k l. h k (omega arith)), h n (omega arith))

  pub rows_get : (d : X) (n : ℕ) (f : ℕ → List X) → ((k : ℕ) → k < n → length (f k) ≡ width) → (s e : ℕ) → s < n → e < width → get_or (gathered n f) (s * width + e) d ≡ get_or (f s) e d
  unfolding gathered
  rows_get d zero f h s e l k = absurd (omega arith)
  rows_get d (suc n) f h s e l k = go (rows_get d n f (λ i j. h i (omega arith)) s e) (ℕ_discrete s n)
    where
      size : length (gathered n f) ≡ n * width
      size = rows-length n f (λ i j. h i (omega arith))

      go : (s < n → e < width → get_or (gathered n f) (s * width + e) d ≡ get_or (f s) e d) → Dec (s ≡ n) → get_or (gathered n f ++ f n) (s * width + e) d ≡ get_or (f s) e d
      go before (yes q) =
          let place : s * width + e ≡ length (gathered n f) + e = omega (arith, size, ap (λ (i : ℕ). i * width) q) in
          ap (λ (i : ℕ). get_or (gathered n f ++ f n) i d) place ∙ get_or-append-add (gathered n f) (f n) e d ∙ ap (λ (i : ℕ). get_or (f i) e d) (sym q)
      go before (no q) =
          let less : s < n = omega arith in
          let le : suc s * width ≤ n * width = mul-le-mul_right width less in
          get_or-append (gathered n f) (f n) d (s * width + e) (omega (arith, size)) ∙ before less k

-- one each
pub one_each : {X : Type 0} (f : ℕ → X) (n : ℕ) → length (gathered n (λ k. f k ∷ [])) ≡ n
one_each f n = rows-length 1 n (λ k. f k ∷ []) (λ k l. refl) ∙ omega arith

pub one_at : {X : Type 0} (d : X) (f : ℕ → X) (n k : ℕ) → k < n → get_or (gathered n (λ k. f k ∷ [])) k d ≡ f k
one_at d f n k l =
    let place : k ≡ k * 1 + 0 = omega arith in
    ap (λ (i : ℕ). get_or (gathered n (λ k. f k ∷ [])) i d) place ∙ rows_get 1 d n (λ k. f k ∷ []) (λ i j. refl) k 0 l (omega arith)
