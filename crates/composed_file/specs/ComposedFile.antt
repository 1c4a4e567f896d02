-- What the writers of a composition's file write, and what the last of them needs.
use Rattle.std.specs.Prelude.{ℕ, ◌+◌, ◌≤◌, ◌≡◌, List, length}
use Rattle.bisimulation.specs.definitions.Composed.{highest_label}
use Rattle.rules.specs.definitions.Reading.{model_at}
use Rattle.composed_size.specs.declared.Side.{Side}
use Rattle.transition.specs.Known.{automaton_in}
use Rattle.composition.specs.definitions.Composition.{gathered, moves_from, moves_of, composed_file}
use Rattle.composed_size.specs.Sides.{composed_in}
use Rattle.composed_size.specs.Composable.{CanCompose}
use Rattle.composed_states.specs.Records.{records_of}

-- the records of the moves from each (s,e) of one s, and from all states
abbrev pub row_records : (left right : List ℕ) (s : ℕ) → List ℕ
row_records left right s = records_of left right (gathered (automaton_in right).states (moves_from (automaton_in left) (automaton_in right) s))

abbrev pub all_records : (left right : List ℕ) → List ℕ
all_records left right = records_of left right (moves_of (automaton_in left) (automaton_in right))

-- two models that can be composed, one more than the right's highest label, the number of transitions, and room for the file
pub record CanWriteComposed (left right : Side) (factor transitions : ℕ) (out : List ℕ) : Type 0 where
  pub models : CanCompose left right
  pub label : factor ≡ highest_label (automaton_in right.file.now) + 1
  pub count : transitions ≡ length (composed_in left.file.now right.file.now).transitions
  pub room : length (composed_file (model_at left.file.now) (model_at right.file.now)) ≤ length out
