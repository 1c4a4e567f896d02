-- What the writers of the moves from a state need.
use Rattle.std.specs.Prelude.{ℕ, ◌+◌, ◌≤◌, ◌<◌, ◌≡◌, true, List, length}
use Rattle.bisimulation.specs.definitions.Automaton.{Automaton}
use Rattle.transition.specs.Known.{automaton_in}
use Rattle.composition.specs.definitions.Composition.{is_shared}
use Rattle.composed_size.specs.declared.Side.{Side}
use Rattle.composed_size.specs.Composable.{CanCompose}
use Rattle.composed_states.specs.declared.Run.{Run}
use Rattle.composed_states.specs.Records.{partner_record, partner_records}

-- a state, and the transitions that leave it
pub record IsRun (A : Automaton) (run : Run) : Type 0 where
  pub state : run.state < A.states
  pub from : run.first ≤ run.past
  pub most : run.past ≤ A.transitions
  pub leave : (i : ℕ) → run.first ≤ i → i < run.past → A.source i ≡ run.state
  pub before : (i : ℕ) → i < run.first → A.source i ≡ run.state → ⊥
  pub after : (i : ℕ) → run.past ≤ i → i < A.transitions → A.source i ≡ run.state → ⊥

-- two models that can be composed, and room for records of theirs
pub record CanWriteMoves (left right : Side) (records out : List ℕ) (at : ℕ) : Type 0 where
  pub models : CanCompose left right
  pub room : at + length records ≤ length out

-- a transition of the left with a shared action
pub record SharedTransition (left : Side) (q action : ℕ) (right : Side) : Type 0 where
  pub models : CanCompose left right
  pub transition : q < left.model.transitions
  pub by : action ≡ (automaton_in left.file.now).action q
  pub shared : is_shared (automaton_in left.file.now) (automaton_in right.file.now) ((automaton_in left.file.now).action q) ≡ true

-- one of the right, and room for the two together
pub record CanWritePartner (left : Side) (q action : ℕ) (right : Side) (r : ℕ) (out : List ℕ) (at : ℕ) : Type 0 where
  pub of : SharedTransition left q action right
  pub transition : r < (automaton_in right.file.now).transitions
  pub room : at + length (partner_record left.file.now right.file.now q ((automaton_in right.file.now).source r) r) ≤ length out

-- all that leave a state
pub record CanWritePartners (left : Side) (q action : ℕ) (right : Side) (run : Run) (out : List ℕ) (at : ℕ) : Type 0 where
  pub of : SharedTransition left q action right
  pub leaving : IsRun (automaton_in right.file.now) run
  pub room : at + length (partner_records left.file.now right.file.now q run.state) ≤ length out
