-- Laws of lists that are gathered one after the other.
use Prim.Native.Nat.{ℕ, zero, suc, ◌+◌, ◌≤◌, ◌<◌}
use Rattle.std.specs.Prelude.{◌≡◌, length}
use Rattle.std.proofs.Math.Path.{refl, ap, ap₂}
use Rattle.std.proofs.Common.{sym, ◌∙◌, subst}
use mathlib.Core.List.{List, [], ◌∷◌, ◌++◌, map, map-append, append-nil}
use Rattle.std.proofs.Math.ListN.{length-append}
use Rattle.std.proofs.Math.Decide.{ℕ_discrete}
use native.Mathlib.Omega.{arith}
use Rattle.bisimulation.specs.definitions.Sum.{sum}
use Rattle.rules.specs.definitions.SoundModel.{Each, sum_over}
use Rattle.rules.specs.definitions.Accepted.{Among, here, there}
use Rattle.rules.proofs.argument.SoundModelLaws.{each_append}
use Rattle.rules.proofs.argument.MappedLists.{sum-append}
use Rattle.composition.specs.definitions.Composition.{gathered}

-- what stands in one of two lists in a row
pub among_first : {X : Type 0} {x : X} {xs : List X} (ys : List X) → Among x xs → Among x (xs ++ ys)
among_first ys here = here
among_first ys (there a) = there (among_first ys a)

pub among_second : {X : Type 0} {x : X} (xs : List X) {ys : List X} → Among x ys → Among x (xs ++ ys)
among_second [] a = a
among_second (y ∷ xs) a = there (among_second xs a)

module _ {X : Type 0} where
  -- below n, in part or as a whole
  pub gathered-cong : (n : ℕ) (f g : ℕ → List X) → ((k : ℕ) → k < n → f k ≡ g k) → gathered n f ≡ gathered n g
  unfolding gathered
  gathered-cong zero f g h = refl
  gathered-cong (suc n) f g h = ap₂ (λ (xs ys : List X). xs ++ ys) (gathered-cong n f g (λ k l. h k (omega arith))) (h n (omega arith))

  pub gathered_next : (k m : ℕ) (f : ℕ → List X) → m ≡ k + 1 → gathered m f ≡ gathered k f ++ f k
  unfolding gathered
  gathered_next k m f e = let s : m ≡ suc k = omega (arith, e) in ap (λ (i : ℕ). gathered i f) s

  pub gathered_none : (n : ℕ) (f : ℕ → List X) → ((k : ℕ) → k < n → f k ≡ []) → gathered n f ≡ []
  unfolding gathered
  gathered_none zero f h = refl
  gathered_none (suc n) f h = ap₂ (λ (xs ys : List X). xs ++ ys) (gathered_none n f (λ k l. h k (omega arith))) (h n (omega arith))

  -- what follows gives nothing
  pub gathered-past : (past n : ℕ) (f : ℕ → List X) → past ≤ n → ((k : ℕ) → past ≤ k → k < n → f k ≡ []) → gathered n f ≡ gathered past f
  unfolding gathered
  gathered-past past zero f l h = let e : 0 ≡ past = omega arith in ap (λ (k : ℕ). gathered k f) e
  gathered-past past (suc n) f l h = go (λ m. gathered-past past n f m (λ k p i. h k p (omega arith))) (ℕ_discrete past (suc n))
    where
      go : (past ≤ n → gathered n f ≡ gathered past f) → Dec (past ≡ suc n) → gathered (suc n) f ≡ gathered past f
      go before (yes e) = ap (λ (k : ℕ). gathered k f) (sym e)
      go before (no e) = ap₂ (λ (xs ys : List X). xs ++ ys) (before (omega arith)) (h n (omega arith) (omega arith)) ∙ append-nil (gathered past f)

  pub gathered-each : (P : X → Type 0) (n : ℕ) (f : ℕ → List X) → ((k : ℕ) → k < n → Each P (f k)) → Each P (gathered n f)
  unfolding gathered Each
  gathered-each P zero f h = tt
  gathered-each P (suc n) f h = each_append P (gathered n f) (f n) (gathered-each P n f (λ k l. h k (omega arith))) (h n (omega arith))

  pub gathered-length : (n : ℕ) (f : ℕ → List X) → length (gathered n f) ≡ sum n (λ k. length (f k))
  unfolding gathered sum
  gathered-length zero f = refl
  gathered-length (suc n) f = omega (arith, length-append (gathered n f) (f n), gathered-length n f)

  pub gathered-sum : (g : X → ℕ) (n : ℕ) (f : ℕ → List X) → sum_over g (gathered n f) ≡ sum n (λ k. sum_over g (f k))
  unfolding gathered sum sum_over
  gathered-sum g zero f = refl
  gathered-sum g (suc n) f = omega (arith, sum-append g (gathered n f) (f n), gathered-sum g n f)

  -- what is gathered stands in the list of some number
  pub gathered-among : {x : X} (n k : ℕ) (f : ℕ → List X) → k < n → Among x (f k) → Among x (gathered n f)
  unfolding gathered
  gathered-among zero k f l a = absurd (omega arith)
  gathered-among {x} (suc n) k f l a = go (λ m. gathered-among n k f m a) (ℕ_discrete k n)
    where
      go : (k < n → Among x (gathered n f)) → Dec (k ≡ n) → Among x (gathered n f ++ f n)
      go before (yes e) = among_second (gathered n f) (subst (λ (i : ℕ). Among x (f i)) e a)
      go before (no e) = among_first (f n) (before (omega arith))

pub gathered-map : {X Y : Type 0} (g : X → Y) (n : ℕ) (f : ℕ → List X) → map g (gathered n f) ≡ gathered n (λ k. map g (f k))
unfolding gathered
gathered-map g zero f = refl
gathered-map g (suc n) f = map-append g (gathered n f) (f n) ∙ ap (λ (l : List _). l ++ map g (f n)) (gathered-map g n f)
