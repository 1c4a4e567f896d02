-- A loop that appends the bytes of one number after the other: what stands there after k of them, and how the next ones come behind it.
use Rattle.std.specs.Prelude.{ℕ, zero, suc, ◌+◌, ◌≤◌, ◌<◌, ◌≡◌, refl, List, [], ◌++◌, length}
use Rattle.std.proofs.Common.{◌∙◌, ap, length-append, arith}
use Rattle.std.proofs.Math.Decide.{ℕ_discrete}
use Rattle.writer.specs.Appends.{Appends}
use Rattle.writer.specs.AppendsLaws.{appended-as, append-none, append-more}
use Rattle.composition.specs.definitions.Composition.{gathered}
use Rattle.composition.proofs.argument.GatheredLaws.{gathered_next, gathered_none, gathered-past}

-- those of the numbers below k are appended, and there is room for all below n
pub record Gathering (f : ℕ → List ℕ) (n at : ℕ) (before : List ℕ) (k : ℕ) (out : List ℕ) (next : ℕ) : Type 0 where
  pub below : k ≤ n
  pub appended : Appends (gathered k f) at before out next
  pub room : at + length (gathered n f) ≤ length before

-- a part is no longer than the whole
gathered-part : (f : ℕ → List ℕ) (k n : ℕ) → k ≤ n → length (gathered k f) ≤ length (gathered n f)
unfolding gathered
gathered-part f k zero l = let e : k ≡ 0 = omega arith in omega (arith, ap (λ (i : ℕ). length (gathered i f)) e)
gathered-part f k (suc n) l = go (λ m. gathered-part f k n m) (ℕ_discrete k (suc n))
  where
    go : (k ≤ n → length (gathered k f) ≤ length (gathered n f)) → Dec (k ≡ suc n) → length (gathered k f) ≤ length (gathered n f ++ f n)
    go before (yes e) = omega (arith, ap (λ (i : ℕ). length (gathered i f)) e)
    go before (no e) = omega (arith, before (omega arith), length-append (gathered n f) (f n))

module _ {f : ℕ → List ℕ} {n at : ℕ} where
  -- the numbers below `first` have none
  pub gathering-from : {out : List ℕ} (first : ℕ) → first ≤ n → ((k : ℕ) → k < first → f k ≡ []) → at + length (gathered n f) ≤ length out → Gathering f n at out first out at
  gathering-from {out} first l none room =
      record {
        below = l;
        appended = appended-as (gathered_none first f none) (append-none out at (omega arith));
        room = room;
      }

  pub gathering-start : {out : List ℕ} → at + length (gathered n f) ≤ length out → Gathering f n at out 0 out at
  gathering-start = gathering-from 0 (omega arith) (λ k l. absurd (omega arith))

  module _ {before out : List ℕ} {k next : ℕ} (g : Gathering f n at before k out next) where
    -- room for the next one's
    pub gathering-room : k < n → next + length (f k) ≤ length out
    gathering-room l =
        let more = ap length (gathered_next k (k + 1) f refl) ∙ length-append (gathered k f) (f k) in
        omega (arith, more, gathered-part f (k + 1) n (omega arith), g.room, g.appended.place, g.appended.size)

    -- they are appended
    pub gathering-turn : {past : ℕ} {more : List ℕ} → k < n → Appends (f k) next out more past → Gathering f n at before (k + 1) more past
    gathering-turn l a =
        record { below = omega arith; appended = appended-as (gathered_next k (k + 1) f refl) (append-more g.appended a); room = g.room }

    -- the numbers from k on have none
    pub gathering-end : ((i : ℕ) → k ≤ i → i < n → f i ≡ []) → Appends (gathered n f) at before out next
    gathering-end none = appended-as (gathered-past k n f g.below none) g.appended

    pub gathering-all : n ≤ k → Appends (gathered n f) at before out next
    gathering-all l = gathering-end (λ i p q. absurd (omega arith))
