-- What the call that composes two models promises, in the definitions of document 02, K11.
use Rattle.std.specs.Prelude.{ℕ, ◌+◌, ◌≤◌, ◌≡◌, Bool, true, false, List, [], ◌∷◌, length}
use Rattle.bisimulation.specs.definitions.Choice.{if_less}
use Rattle.bisimulation.specs.definitions.Composed.{highest_label}
use Rattle.rules.specs.definitions.Limits.{current}
use Rattle.rules.specs.definitions.Model.{automaton_of}
use Rattle.rules.specs.definitions.Reading.{model_at, read_whole}
use Rattle.rules.specs.definitions.Accepted.{FileOf}
use Rattle.rules.specs.definitions.Made.{made_outcome, two_files}
use Rattle.composition.specs.definitions.ComposeAnswer.{passes_composed, compose_outcome, ComposeDemands}
use Rattle.model.specs.declared.Model.{Model as Found}
use Rattle.transition.specs.Known.{automaton_in}
use Rattle.two_models.specs.TwoModels.{BothSound}
use Rattle.answer.specs.declared.Answer.{Answer}
use Rattle.answer.specs.Answered.{OutcomeIs, CallAnswered}
use Rattle.composed_size.specs.declared.Sizes.{Sizes}
use Rattle.composed_size.specs.Sides.{composed_in}
use Rattle.composed_size.specs.Composable.{CanCompose}
use Rattle.composed_size.specs.declared.Side.{Side}
use Rattle.composed_size.specs.Counted.{MovesCounted}

-- the call that composes answers and leaves in the lent buffer what the request says, and keeps its demands
abbrev pub ComposeAnswered : (left right before after : List ℕ) → Answer → Type 0
ComposeAnswered left right before after r =
    CallAnswered (compose_outcome current (read_whole current) left right before) (two_files left right) (after ∷ [])
    (ComposeDemands current (read_whole current) (FileOf current) left right before after) r

-- what it answers of two sound models, and leaves in the lent buffer
abbrev pub ComposesSound : (left right before after : List ℕ) → Answer → Type 0
ComposesSound left right before after r =
    OutcomeIs (made_outcome 37 38 (passes_composed current (model_at left) (model_at right)) (composed_in left right) (before ∷ []))
    (two_files left right) (after ∷ []) r

-- a limit is passed, by so many states or by their highest label; and by so many transitions, entries and long denominators
unfoldable pub passes_states : (states label : ℕ) → Bool
passes_states states label = if_less current.states states true (if_less current.label label true false)

unfoldable pub passes_moves : (transitions entries long : ℕ) → Bool
passes_moves transitions entries long =
    if_less current.transitions transitions true (if_less current.entries entries true (if_less 0 long true false))

-- two sound models, one more than the right's highest label, and a composition whose states and labels pass no limit
pub record StatesWithin (left : List ℕ) (m : Found) (right : List ℕ) (k : Found) (table : List ℕ) (factor : ℕ) : Type 0 where
  pub models : BothSound left m right k table
  pub label : factor ≡ highest_label (automaton_in right) + 1
  pub states : length (composed_in left right).labels ≤ current.states
  pub labels : highest_label (automaton_of (composed_in left right)) ≤ current.label

-- two models whose composition passes no limit, one more than the right's highest label, and the sizes
pub record CanWriteFile (left right : Side) (factor : ℕ) (sizes : Sizes) : Type 0 where
  pub models : CanCompose left right
  pub label : factor ≡ highest_label (automaton_in right.file.now) + 1
  pub counted : MovesCounted left.file.now right.file.now sizes
