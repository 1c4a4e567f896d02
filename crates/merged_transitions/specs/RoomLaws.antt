-- The merged records written so far and the next record as it was have room where the model's own records had.
use Rattle.std.specs.Prelude.{ℕ, zero, suc, ◌+◌, ◌-◌, ◌≤◌, ◌<◌, ◌≡◌, length, get_or, take, drop}
use Rattle.std.proofs.Math.Path.{refl, ap}
use Rattle.std.proofs.Common.{◌∙◌, take-append-drop, take-suc}
use mathlib.Core.List.{List, [], ◌∷◌, ◌++◌}
use Rattle.std.proofs.Math.Seq.{take_all}
use native.Mathlib.Omega.{arith}
use Rattle.bisimulation.specs.definitions.Choice.{if_same}
use Rattle.bisimulation.proofs.argument.ChoiceLaws.{same}
use Rattle.bisimulation.specs.definitions.Sum.{sum}
use Rattle.bisimulation.proofs.argument.SumLaws.{sum_mono}
use Rattle.rules.specs.definitions.Model.{Transition, transition_bytes, no_transition}
use Rattle.rules.specs.definitions.SoundModel.{Each, sum_over}
use Rattle.rules.specs.definitions.BlockCount.{block_count}
use Rattle.quotient.specs.definitions.Quotient.{merged_transition, from_block}
use Rattle.quotient.proofs.argument.KeyedSums.{sum-next, sum_over-append, sum_over-most, sum_at, sum_at-all}
use Rattle.quotient.proofs.argument.QuotientLaws.{sum-distinct, sum-from, sum-by-block}
use Rattle.merged_transitions.specs.MergedTransitions.{before, here}

-- sums over the first elements
first-most : (f : Transition → ℕ) (r : ℕ) (ts : List Transition) → sum_over f (take r ts) ≤ sum_over f ts
first-most f r ts =
    omega (arith, sum_over-append f (take r ts) (drop r ts), ap (sum_over f) (take-append-drop r ts))

one_more : (f : Transition → ℕ) (r : ℕ) (ts : List Transition) → r < length ts → sum_over f (take (suc r) ts) ≡ sum_over f (take r ts) + f (get_or ts r no_transition)
unfolding sum_over
one_more f r ts h =
    ap (sum_over f) (take-suc ts r no_transition h)
    ∙ sum_over-append f (take r ts) (get_or ts r no_transition ∷ [])
    ∙ omega arith

pub each_first : (P : Transition → Type 0) (r : ℕ) (ts : List Transition) → Each P ts → Each P (take r ts)
unfolding Each
each_first P zero ts h = tt
each_first P (suc r) [] h = tt
each_first P (suc r) (t ∷ ts) h = (h.0, each_first P r ts h.1)

sum-upto : (m k : ℕ) (f : ℕ → ℕ) → sum m f ≤ sum (m + k) f
unfolding sum
sum-upto m zero f = let e : m ≡ m + 0 = omega arith in omega (arith, ap (λ (x : ℕ). sum x f) e)
sum-upto m (suc k) f =
    let e : suc (m + k) ≡ m + suc k = omega arith in
    omega (arith, sum-upto m k f, ap (λ (x : ℕ). sum x f) e)

-- the size of a record
abbrev pub size_of : Transition → ℕ
size_of t = length (transition_bytes t)

module _ (blocks : List ℕ) (ts : List Transition) where
  abbrev block_from : Transition → ℕ
  block_from t = get_or blocks t.source 0

  module _ (shorter : Each (λ (t : Transition). size_of (merged_transition blocks t) ≤ size_of t) ts) where
    -- the records of a block are no longer than they were
    block-most : (r b : ℕ) → sum_over size_of (from_block blocks (take r ts) b) ≤ sum_at block_from size_of (take r ts) b
    unfolding Each
    block-most r b =
        omega (arith, sum-from blocks size_of b (take r ts), sum_over-most (λ (t : Transition). if_same (block_from t) b (size_of (merged_transition blocks t)) 0) (λ (t : Transition). if_same (block_from t) b (size_of t) 0) (take r ts) (by-block (take r ts) (each_first _ r ts shorter)))
      where
        by-block : (us : List Transition) → Each (λ (t : Transition). size_of (merged_transition blocks t) ≤ size_of t) us → Each (λ (t : Transition). if_same (block_from t) b (size_of (merged_transition blocks t)) 0 ≤ if_same (block_from t) b (size_of t) 0) us
        by-block [] h = tt
        by-block (t ∷ us) h = (unfold if_same in one (lib.Dec.eqb (block_from t) b) h.0, by-block us h.1)
          where
            one : (y : mathlib.Core.Bool.Bool) → size_of (merged_transition blocks t) ≤ size_of t → mathlib.Core.Bool.cond y (size_of (merged_transition blocks t)) 0 ≤ mathlib.Core.Bool.cond y (size_of t) 0
            one mathlib.Core.Bool.true h = h
            one mathlib.Core.Bool.false h = omega arith

    pub room : (k b r : ℕ) → Each (λ (t : Transition). block_from t < k) ts → b < k → r < length ts → block_from (get_or ts r no_transition) ≡ b → sum_over size_of (before blocks ts b ++ here blocks ts b r) + size_of (get_or ts r no_transition) ≤ sum_over size_of ts
    unfolding sum
    room k b r below some less e =
        let rest = k - (b + 1) in
        let all : b + 1 + rest ≡ k = omega arith in
        let here-most = block-most r b in
        let more = one_more (λ (t : Transition). if_same (block_from t) b (size_of t) 0) r ts less in
        let own = same {z = size_of (get_or ts r no_transition)} 0 e refl in
        let upto = sum-upto (b + 1) rest (sum_at block_from size_of ts) in
        omega
        (arith, sum_over-append size_of (before blocks ts b) (here blocks ts b r), sum-by-block blocks ts size_of b 0 b (omega arith), sum_mono b (λ c. sum_over size_of (from_block blocks ts c)) (sum_at block_from size_of ts) (λ c l. whole-most c), sum-distinct (block_count blocks) size_of [] (from_block blocks (take r ts) b), here-most, more, own, first-most (λ (t : Transition). if_same (block_from t) b (size_of t) 0) (suc r) ts, sum-next b (sum_at block_from size_of ts), upto, ap (λ (x : ℕ). sum x (sum_at block_from size_of ts)) all, sum_at-all block_from size_of k ts below)
      where
        whole-most : (c : ℕ) → sum_over size_of (from_block blocks ts c) ≤ sum_at block_from size_of ts c
        whole-most c =
            let full = take_all (length ts) ts (omega arith) in
            omega (arith, block-most (length ts) c, ap (λ (l : List Transition). sum_over size_of (from_block blocks l c)) full, ap (λ (l : List Transition). sum_at block_from size_of l c) full)
