-- What the writer of a merged transition needs, and what it hands back.
use Rattle.std.specs.Prelude.{ℕ, ◌+◌, ◌*◌, ◌≤◌, ◌<◌, ◌≡◌, List, length, get_or}
use Rattle.rules.specs.definitions.Limits.{limits}
use Rattle.rules.specs.definitions.Model.{transition_bytes}
use Rattle.rules.specs.definitions.Reading.{states_of, entry_count_at, transition_at, place_of}
use Rattle.rules.specs.definitions.BlockCount.{block_count}
use Rattle.quotient.specs.definitions.Quotient.{merged_transition}
use Rattle.writer.specs.Appends.{Appends}

-- no block has a weight yet
pub record NoWeights (weights : List ℕ) : Type 0 where
  pub size : length weights ≡ limits.states
  pub none : (b : ℕ) → b < limits.states → get_or weights b 0 ≡ 0

-- a block for each state, the numbers below k, which is their count
pub record BlocksBelow (n k : ℕ) (blocks : List ℕ) : Type 0 where
  pub whole : length blocks ≡ n
  pub count : k ≡ block_count blocks
  pub below : (v : ℕ) → v < n → get_or blocks v 0 < k
  pub few : k ≤ limits.states

-- a transition r of a sound model of so many, its blocks, and room for its record: merging makes no record longer
pub record CanMerge (s : List ℕ) (count r : ℕ) (blocks : List ℕ) (k : ℕ) (weights out : List ℕ) (at : ℕ) : Type 0 where
  pub less : r < count
  pub merging : BlocksBelow (states_of s) k blocks
  pub none : NoWeights weights
  pub room : at + 7 + 3 * entry_count_at s (place_of s r) ≤ length out

-- the record of the merged transition is appended, and no block has a weight again
pub record Merged (s : List ℕ) (r : ℕ) (blocks weights : List ℕ) (at : ℕ) (before after : List ℕ) (next : ℕ) : Type 0 where
  pub appended : Appends (transition_bytes (merged_transition blocks (transition_at s (place_of s r)))) at before after next
  pub none : NoWeights weights
  pub shorter : next ≤ at + 7 + 3 * entry_count_at s (place_of s r)
