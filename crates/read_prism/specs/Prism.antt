-- What the call that reads a PRISM text promises, in the definitions of document 02, K9.
use Rattle.std.specs.Prelude.{ℕ, ◌≤◌, ◌<◌, ◌≡◌, List, [], ◌∷◌, length, replicate}
use Rattle.rules.specs.definitions.Limits.{limits}
use Rattle.rules.specs.definitions.Model.{Transition, Model, transitions_bytes, model_bytes}
use Rattle.rules.specs.definitions.Answers.{files_outcome}
use Rattle.prism.specs.definitions.Reading.{Choice, choices_of}
use Rattle.prism.specs.definitions.HeldModel.{held_model}
use Rattle.prism.specs.definitions.PrismAnswer.{prism_outcome, PrismDemands}
use Rattle.answer.specs.declared.Answer.{Answer}
use Rattle.answer.specs.Answered.{FileWritten, OutcomeIs, CallAnswered}
use Rattle.text_fields.specs.Fields.{PieceEnds}
use Rattle.prism_line.specs.declared.Head.{Head}
use Rattle.prism_names.specs.declared.Name.{Name}
use Rattle.prism_names.specs.Names.{names_in}
use Rattle.prism_choice.specs.declared.Target.{Target}
use Rattle.prism_step.specs.declared.Progress.{Progress}
use Rattle.prism_step.specs.Progressing.{progress_in, count_by, Holds}
use Rattle.prism_text.specs.LinesRead.{head_in}

-- the call that reads a PRISM text answers and leaves in the lent buffer what the request says, and keeps its demands
abbrev pub PrismAnswered : (text before after : List ℕ) → Answer → Type 0
PrismAnswered text before after r = CallAnswered (prism_outcome limits text before) (text ∷ []) (after ∷ []) (PrismDemands limits text before after) r

abbrev pub PrismSays : (text before after : List ℕ) → Answer → Type 0
PrismSays text before after r = OutcomeIs (prism_outcome limits text before) (text ∷ []) (after ∷ []) r

-- the head line ends there
pub record HeadEnds (text : List ℕ) (end : ℕ) : Type 0 where
  pub piece : PieceEnds text 0 0x0A end
  pub inside : end < length text

-- a model without labels, of so many states
abbrev pub unlabelled : (n m : ℕ) → List Transition → Model
unlabelled n m ts = record { actions = m; labels = replicate n 0; transitions = ts }

-- its fields fit
pub record CanWriteFile (n m count : ℕ) (records : List ℕ) : Type 0 where
  pub states : n ≤ limits.states
  pub actions : m ≤ limits.actions
  pub transitions : count ≤ limits.transitions
  pub size : length records ≤ 7936

-- the file of the model whose transitions these records are
pub record WritesFile (n m count : ℕ) (records before after : List ℕ) (size : ℕ) : Type 0 where
  pub file : (ts : List Transition) → records ≡ transitions_bytes ts → count ≡ length ts → FileWritten (model_bytes (unlabelled n m ts)) before after size

-- what was read is in the tables, and the choices are as many as the head says
pub record CanWriteHeld (head : Head) (p : Progress) (targets : List Target) (records : List ℕ) : Type 0 where
  pub text : List ℕ
  pub names : List Name
  pub ended : List Choice
  pub holds : Holds text names targets records head.states ended p
  pub most : head.states ≤ limits.states
  pub count : count_by p ≡ head.choices
  pub room : length records ≡ 7936

-- the model that a text holds which was read so
pub record HeldWritten (head : Head) (p : Progress) (targets : List Target) (records before after : List ℕ) (r : Answer) : Type 0 where
  pub file : (text : List ℕ) (names : List Name) (ended : List Choice) → Holds text names targets records head.states ended p → OutcomeIs (files_outcome 33 (model_bytes (held_model (head_in head) (names_in text names p.names) (choices_of (progress_in text names targets ended p))) ∷ []) (before ∷ [])) (text ∷ []) (after ∷ []) r
