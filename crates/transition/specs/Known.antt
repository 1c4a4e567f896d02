-- What is known of a model that the reader found sound, and of its transitions by their numbers.
use Rattle.std.specs.Prelude.{ℕ, ◌+◌, ◌*◌, ◌≤◌, ◌<◌, ◌≡◌, List, length}
use Rattle.bisimulation.specs.definitions.Automaton.{Automaton}
use Rattle.rules.specs.definitions.Limits.{limits}
use Rattle.limits.specs.Sizes as sizes
use Rattle.rules.specs.definitions.Model.{Entry, automaton_of}
use Rattle.rules.specs.definitions.Reading.{states_of, count_of, entry_count_at, after_transition, entries_at, model_at, place_of}
use Rattle.rules.specs.definitions.SoundModel.{Each, sum_over, SoundModel}
use Rattle.rules.proofs.argument.SoundModelLaws.{StatesFrom}
use Rattle.model.specs.Scanned.{PlacesHeld}
use Rattle.transition_record.specs.declared.Fields.{Fields}

-- the automaton of a model file
abbrev pub automaton_in : List ℕ → Automaton
automaton_in s = automaton_of (model_at s)

-- a sound model of n states, and the places of its transitions in a table
pub record Known (s : List ℕ) (n count : ℕ) (table : List ℕ) : Type 0 where
  pub sound : SoundModel limits (model_at s)
  pub states : n ≡ states_of s
  pub transitions : count ≡ count_of s
  pub labels : 8 + n ≤ length s
  pub records : (r : ℕ) → r < count → after_transition s (place_of s r) ≤ length s
  pub places : PlacesHeld s (count + 1) table
  pub size : length table ≡ sizes.places

-- the same where the table is not at hand
pub record KnownModel (s : List ℕ) (n count : ℕ) : Type 0 where
  pub table : List ℕ
  pub known : Known s n count table

-- one of its transitions
pub record KnownTransition (s table : List ℕ) (r : ℕ) : Type 0 where
  pub count : ℕ
  pub known : Known s (states_of s) count table
  pub below : r < count

-- the fixed fields of the transition r, and where its entries begin
pub record FieldsOf (s : List ℕ) (r : ℕ) (f : Fields) : Type 0 where
  pub source : f.source ≡ (automaton_in s).source r
  pub action : f.action ≡ (automaton_in s).action r
  pub denominator : f.denominator ≡ (automaton_in s).denominator r
  pub count : f.count ≡ entry_count_at s (place_of s r)
  pub entries : f.entries.at ≡ place_of s r + 7
  pub from : f.source < states_of s
  pub positive : 0 < f.denominator
  pub small : f.denominator < 65536

-- the entries of the transition r
abbrev pub entries_of : List ℕ → ℕ → List Entry
entries_of s r = entries_at s (entry_count_at s (place_of s r)) (place_of s r + 7)

-- what is known of them
pub record EntriesKnown (s : List ℕ) (r : ℕ) : Type 0 where
  pub inside : place_of s r + 7 + 3 * entry_count_at s (place_of s r) ≤ length s
  pub states : Each (λ (e : Entry). e.state < states_of s) (entries_of s r)
  pub ascend : StatesFrom 0 (entries_of s r)
  pub whole : sum_over (λ (e : Entry). e.weight) (entries_of s r) ≡ (automaton_in s).denominator r
  pub light : (automaton_in s).denominator r ≤ 65535
