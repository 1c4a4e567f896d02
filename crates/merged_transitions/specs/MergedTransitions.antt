-- The transitions chained by block, and the merged ones that stand in a buffer, a block at a time.
use Rattle.std.specs.Prelude.{ℕ, ◌+◌, ◌≤◌, ◌<◌, ◌≡◌, List, [], ◌++◌, length, get_or, take}
use Rattle.rules.specs.definitions.Limits.{limits}
use Rattle.rules.specs.definitions.Model.{Transition, transitions_bytes, no_transition}
use Rattle.rules.specs.definitions.Reading.{model_at}
use Rattle.rules.specs.definitions.BlockCount.{block_count}
use Rattle.quotient.specs.definitions.Quotient.{from_block, distinct, by_block}
use Rattle.limits.specs.Sizes.{records}
use Rattle.merged_transition.specs.MergedTransition.{NoWeights, BlocksBelow}
use Rattle.merged_transitions.specs.declared.Kept.{Kept}

-- the transitions of a model file
abbrev pub transitions_in : List ℕ → List Transition
transitions_in s = (model_at s).transitions

-- the block of the source of the transition r
abbrev pub block_of_source : (s blocks : List ℕ) (r : ℕ) → ℕ
block_of_source s blocks r = get_or blocks (get_or (transitions_in s) r no_transition).source 0

-- the first transition from r on that leaves a member of the block b, or their count
pub record IsFirst (s blocks : List ℕ) (count b r x : ℕ) : Type 0 where
  pub from : r ≤ x
  pub to : x ≤ count
  pub none : (i : ℕ) → r ≤ i → i < x → block_of_source s blocks i ≡ b → ⊥
  pub of : x < count → block_of_source s blocks x ≡ b

-- the transitions from r on chained: the first of each block, and behind each one the next of its block
pub record Chained (s blocks : List ℕ) (count r : ℕ) (heads chain : List ℕ) : Type 0 where
  pub heads-size : length heads ≡ limits.states
  pub chain-size : length chain ≡ limits.transitions
  pub first : (b : ℕ) → b < limits.states → IsFirst s blocks count b r (get_or heads b 0)
  pub next : (j : ℕ) → r ≤ j → j < count → IsFirst s blocks count (block_of_source s blocks j) (j + 1) (get_or chain j 0)

-- the records of these transitions stand at the start of the buffer, and no other
pub record Holds (done : List Transition) (out : List ℕ) (kept : Kept) : Type 0 where
  pub bytes : take kept.size out ≡ transitions_bytes done
  pub size : kept.size ≡ length (transitions_bytes done)
  pub count : kept.count ≡ length done

-- those of the blocks before b
abbrev pub before : List ℕ → List Transition → ℕ → List Transition
before blocks ts b = by_block blocks ts b 0

-- those of the block b among the first r
abbrev pub here : List ℕ → List Transition → (b r : ℕ) → List Transition
here blocks ts b r = distinct (block_count blocks) [] (from_block blocks (take r ts) b)

-- both, with the records of the block b from a place on
pub record InBlock (s blocks : List ℕ) (b r start : ℕ) (out : List ℕ) (kept : Kept) : Type 0 where
  pub starts : start ≡ length (transitions_bytes (before blocks (transitions_in s) b))
  pub holds : Holds (before blocks (transitions_in s) b ++ here blocks (transitions_in s) b r) out kept

-- before the transition r is looked at, one of the block b
pub record CanKeep (s : List ℕ) (n count : ℕ) (blocks : List ℕ) (k b r : ℕ) (weights out : List ℕ) (start : ℕ) (kept : Kept) : Type 0 where
  pub merging : BlocksBelow n k blocks
  pub block : b < k
  pub less : r < count
  pub of : block_of_source s blocks r ≡ b
  pub none : NoWeights weights
  pub large : records ≤ length out
  pub held : InBlock s blocks b r start out kept

-- and after it
pub record Keeps (s blocks : List ℕ) (b r : ℕ) (weights before after : List ℕ) (start : ℕ) (kept : Kept) : Type 0 where
  pub held : InBlock s blocks b (r + 1) start after kept
  pub none : NoWeights weights
  pub size : length after ≡ length before

-- before a block's transitions are written, and after them
pub record CanWrite (s : List ℕ) (n count : ℕ) (blocks : List ℕ) (k b : ℕ) (heads chain weights out : List ℕ) (kept : Kept) : Type 0 where
  pub merging : BlocksBelow n k blocks
  pub block : b < k
  pub chained : Chained s blocks count 0 heads chain
  pub none : NoWeights weights
  pub large : records ≤ length out
  pub held : Holds (before blocks (transitions_in s) b) out kept

pub record Wrote (s blocks : List ℕ) (b : ℕ) (weights before-out after : List ℕ) (kept : Kept) : Type 0 where
  pub held : Holds (before blocks (transitions_in s) (b + 1)) after kept
  pub none : NoWeights weights
  pub size : length after ≡ length before-out

-- the records of the merged model's transitions stand at the start of the buffer
pub record WroteAll (s blocks : List ℕ) (k : ℕ) (before-out after : List ℕ) (kept : Kept) : Type 0 where
  pub held : Holds (by_block blocks (transitions_in s) k 0) after kept
  pub size : length after ≡ length before-out
