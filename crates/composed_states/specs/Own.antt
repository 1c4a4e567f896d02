-- The right's own moves, which take of the left no more than its number of actions, and what their writers need.
use Rattle.std.specs.Prelude.{ℕ, ◌+◌, ◌*◌, ◌≤◌, ◌<◌, List, [], length}
use Rattle.bisimulation.specs.definitions.Choice.{if_same, if_true}
use Rattle.rules.specs.definitions.Reading.{states_of, model_at}
use Rattle.transition.specs.Known.{automaton_in}
use Rattle.composition.specs.definitions.Composition.{shared_below, gathered}
use Rattle.composed_size.specs.declared.Side.{Side}
use Rattle.composed_moves.specs.MoveRecords.{right_record}
use Rattle.composed_states.specs.declared.Run.{Run}
use Rattle.composed_states.specs.Needs.{IsRun}

-- the right's transition r, where it is its own, at the state s of a left of so many actions
abbrev pub own_record : (actions : ℕ) (right : List ℕ) (s r : ℕ) → List ℕ
own_record actions right s r =
    if_true (shared_below actions (model_at right).actions ((automaton_in right).action r)) [] (right_record right (states_of right) s r)

-- where it leaves e, and all that do
abbrev pub own_record_from : (actions : ℕ) (right : List ℕ) (s e r : ℕ) → List ℕ
own_record_from actions right s e r = if_same ((automaton_in right).source r) e (own_record actions right s r) []

abbrev pub own_records : (actions : ℕ) (right : List ℕ) (s e : ℕ) → List ℕ
own_records actions right s e = gathered (automaton_in right).transitions (own_record_from actions right s e)

-- a composition whose states (s,e) fit a byte, and room
pub record CanWriteOwn (actions s : ℕ) (right : Side) (r : ℕ) (out : List ℕ) (at : ℕ) : Type 0 where
  pub states : s * right.model.states + right.model.states < 256
  pub transition : r < right.model.transitions
  pub room : at + length (own_record actions right.file.now s r) ≤ length out

pub record CanWriteOwns (actions s : ℕ) (right : Side) (run : Run) (out : List ℕ) (at : ℕ) : Type 0 where
  pub states : s * right.model.states + right.model.states < 256
  pub leaving : IsRun (automaton_in right.file.now) run
  pub room : at + length (own_records actions right.file.now s run.state) ≤ length out
