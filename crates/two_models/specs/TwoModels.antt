-- What reading two models finds.
use Rattle.std.specs.Prelude.{ℕ, ◌≡◌, List, length, Result, Ok, Err}
use Rattle.rules.specs.definitions.Limits.{current}
use Rattle.rules.specs.definitions.Model.{model_bytes}
use Rattle.rules.specs.definitions.Reading.{states_of, model_at, read_whole}
use Rattle.rules.specs.definitions.SoundModel.{SoundModel}
use Rattle.rules.specs.definitions.Made.{OfTwo, two_outcome, two_files}
use Rattle.limits.specs.TermsBy.{current_terms}
use Rattle.model.specs.declared.Model.{Model as Found}
use Rattle.transition.specs.Known.{Known, KnownModel}
use Rattle.transition.specs.ModelRead.{ReadsModel}
use Rattle.answer.specs.declared.Answer.{Answer}
use Rattle.answer.specs.Answered.{OutcomeIs}

-- a file that is read as a sound model, with the numbers of its head
pub record SoundFile (s : List ℕ) (m : Found) : Type 0 where
  pub model : ReadsModel current_terms s
  pub known : KnownModel s m.states m.transitions
  pub sound : SoundModel current (model_at s)
  pub bytes : s ≡ model_bytes (model_at s)
  pub head : m.states ≡ states_of s
  pub states : length (model_at s).labels ≡ m.states
  pub actions : m.actions ≡ (model_at s).actions
  pub transitions : length (model_at s).transitions ≡ m.transitions

-- two sound models, the second's places in a table
pub record BothSound (first : List ℕ) (m : Found) (second : List ℕ) (n : Found) (table : List ℕ) : Type 0 where
  pub one : SoundFile first m
  pub other : SoundFile second n
  pub known : Known second n.states n.transitions table

-- a refusal, whatever would be made of the two
pub record RefusesTwo (first second : List ℕ) (r : Answer) : Type 0 where
  pub refuses : (made : OfTwo) (before : List (List ℕ)) → OutcomeIs (two_outcome (read_whole current) made first second before) (two_files first second) before r

abbrev pub TwoReadIs : (first second table : List ℕ) → Result (Found × Found) Answer → Type 0
TwoReadIs first second table (Ok both) = BothSound first both.0 second both.1 table
TwoReadIs first second table (Err r) = RefusesTwo first second r
