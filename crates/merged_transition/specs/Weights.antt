-- The weights by block of a transition: added up, counted, and written as entries.
use Rattle.std.specs.Prelude.{ℕ, zero, suc, ◌+◌, ◌*◌, ◌≤◌, ◌<◌, ◌≡◌, List, [], ◌∷◌, ◌++◌, map, length, get_or}
use Rattle.bisimulation.specs.definitions.Choice.{if_same}
use Rattle.rules.specs.definitions.Limits.{limits}
use Rattle.rules.specs.definitions.Model.{Entry, entries_bytes}
use Rattle.rules.specs.definitions.LowestTerms.{divided_entry}
use Rattle.rules.specs.definitions.Reading.{states_of}
use Rattle.quotient.specs.definitions.Quotient.{weight_to_block}
use Rattle.writer.specs.Appends.{Appends}
use Rattle.merged_transition.specs.MergedTransition.{NoWeights}

-- the weight of a block in a table
abbrev pub weight_in : List ℕ → ℕ → ℕ
weight_in weights b = get_or weights b 0

-- the entry of a block, none where it has no weight
abbrev pub entry_of : (weight b : ℕ) → List Entry
entry_of weight b = if_same weight 0 [] (record { state = b; weight = weight } ∷ [])

-- the entries of the first k blocks
unfoldable pub weight_entries : (ℕ → ℕ) → (k : ℕ) → List Entry
weight_entries f zero = []
weight_entries f (suc b) = weight_entries f b ++ entry_of (f b) b

-- the weights in a table of the blocks that entries lead to, with repeats
unfoldable pub weights_by_block : (blocks weights : List ℕ) → List Entry → List ℕ
weights_by_block blocks weights es = map (λ (e : Entry). weight_in weights (get_or blocks e.state 0)) es

-- a transition r of a sound model of so many, a block for each state, and no weights yet
pub record CanAdd (s : List ℕ) (count r : ℕ) (blocks weights : List ℕ) : Type 0 where
  pub less : r < count
  pub whole : length blocks ≡ states_of s
  pub below : (v : ℕ) → v < states_of s → get_or blocks v 0 < limits.states
  pub none : NoWeights weights

-- the table has the weights of the entries, added up by target block, and so many blocks have one
pub record WeightsOf (blocks : List ℕ) (es : List Entry) (weights : List ℕ) (count : ℕ) : Type 0 where
  pub size : length weights ≡ limits.states
  pub counted : count ≡ length (weight_entries (weight_in weights) limits.states)
  pub held : (b : ℕ) → b < limits.states → weight_in weights b ≡ weight_to_block blocks es b

-- a transition r of a sound model of so many, a block for each state, and a table of weights that their fields have room for
pub record CanDivide (s : List ℕ) (count r : ℕ) (blocks weights : List ℕ) : Type 0 where
  pub less : r < count
  pub whole : length blocks ≡ states_of s
  pub below : (v : ℕ) → v < states_of s → get_or blocks v 0 < limits.states
  pub size : length weights ≡ limits.states
  pub light : (b : ℕ) → b < limits.states → weight_in weights b < 65536

-- a table, and the first k of its blocks
pub record CanCount (weights : List ℕ) (k : ℕ) : Type 0 where
  pub size : length weights ≡ limits.states
  pub few : k ≤ limits.states

-- a block of a table, a divisor, a weight that its field has room for, and room for its entry
pub record CanWriteEntry (weights : List ℕ) (b g : ℕ) (out : List ℕ) (at : ℕ) : Type 0 where
  pub size : length weights ≡ limits.states
  pub inside : b < limits.states
  pub some : 0 < g
  pub light : weight_in weights b < 65536
  pub room : at + 3 * length (entry_of (weight_in weights b) b) ≤ length out

-- the entry of a block is appended, its weight divided by g, and the block has no weight then
pub record WroteEntry (g b : ℕ) (before after : List ℕ) (at : ℕ) (out written : List ℕ) (next : ℕ) : Type 0 where
  pub appended : Appends (entries_bytes (map (divided_entry g) (entry_of (weight_in before b) b))) at out written next
  pub size : length after ≡ limits.states
  pub gone : weight_in after b ≡ 0
  pub kept : (i : ℕ) → (i ≡ b → ⊥) → weight_in after i ≡ weight_in before i

-- the same for the first k blocks, of which so many have a weight
pub record CanWriteEntries (weights : List ℕ) (k count g : ℕ) (out : List ℕ) (at : ℕ) : Type 0 where
  pub table : CanCount weights k
  pub counted : count ≡ length (weight_entries (weight_in weights) k)
  pub some : 0 < g
  pub light : (b : ℕ) → b < k → weight_in weights b < 65536
  pub room : at + 3 * length (weight_entries (weight_in weights) k) ≤ length out

pub record WroteEntries (g k : ℕ) (before after : List ℕ) (at : ℕ) (out written : List ℕ) (next : ℕ) : Type 0 where
  pub appended : Appends (entries_bytes (map (divided_entry g) (weight_entries (weight_in before) k))) at out written next
  pub size : length after ≡ limits.states
  pub gone : (i : ℕ) → i < k → weight_in after i ≡ 0
  pub kept : (i : ℕ) → k ≤ i → weight_in after i ≡ weight_in before i
