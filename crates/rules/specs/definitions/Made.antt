-- Calls that write a model which they made of their files (document 02): what they answer, and leave in the lent buffer.
use Rattle.std.specs.Prelude.{ℕ, ◌≤◌, ◌≡◌, ◌↔◌, Bool, true, false, List, [], ◌∷◌, ◌++◌, length, drop}
use Rattle.bisimulation.specs.definitions.Choice.{if_less, if_true}
use Rattle.rules.specs.definitions.Limits.{Limits}
use Rattle.rules.specs.definitions.Model.{Model, model_bytes}
use Rattle.rules.specs.definitions.Reading.{Reading, model, no_model}
use Rattle.rules.specs.definitions.SoundModel.{SoundModel, entry_count}
use Rattle.rules.specs.definitions.Judging.{Reader}
use Rattle.rules.specs.definitions.Accepted.{IsFile}
use Rattle.rules.specs.definitions.Answers.{Outcome, refusal_in, answer_without_place, unwritten, files_outcome}

-- a model 'passes a limit', of states, transitions or entries
unfoldable pub passes_limit : Limits → Model → Bool
passes_limit L M =
    if_less L.states (length M.labels) true
    (if_less L.transitions (length M.transitions) true
    (if_less L.entries (entry_count M) true
    false))

-- a model that was made: the number `over` where it 'passes a limit', which its request may tell of what it is made of; `short` where the 'buffer' is
-- 'shorter than it'; else its file is written
unfoldable pub made_outcome : (over short : ℕ) → (passes : Bool) → Model → (before : List (List ℕ)) → Outcome
made_outcome over short passes M before =
    if_true passes (unwritten (answer_without_place over) before) (files_outcome short (model_bytes M ∷ []) before)

-- what a call makes of two models, with what the lent buffers held
abbrev pub OfTwo : Type 0
OfTwo = Model → Model → (before : List (List ℕ)) → Outcome

-- 'Files are read in the order named; faults in the second model carry file 3', for what reading the two gave
unfoldable pub readings_outcome : OfTwo → (first second : List ℕ) → (before : List (List ℕ)) → Reading → Reading → Outcome
readings_outcome made first second before (no_model f place) r = unwritten (refusal_in f 1 place (length first)) before
readings_outcome made first second before (model M end) (no_model f place) = unwritten (refusal_in f 3 place (length second)) before
readings_outcome made first second before (model M end) (model N last) = made M N before

-- a call that reads two models
unfoldable pub two_outcome : Reader → OfTwo → (first second : List ℕ) → (before : List (List ℕ)) → Outcome
two_outcome read made first second before = readings_outcome made first second before (read first) (read second)

-- its files by their numbers: the first model is file 1, the second file 3, and there is no certificate
abbrev pub two_files : (first second : List ℕ) → List (List ℕ)
two_files first second = first ∷ [] ∷ second ∷ []

-- the product's demands of a call that makes one model of two, as far as they speak of it, with these bytes in the lent buffer before and after it
pub record MakesModel (L : Limits) (read : Reader) (is_file : IsFile) (make : Model → Model → Model) (numbers : ℕ → Type 0) (first second before after : List ℕ) (number : ℕ) : Type 0 where
  -- demand 1: the number is one of the call's
  pub known : numbers number
  -- it is 0 exactly when both are files of sound models, the model that is made is sound too, and the buffer is long enough
  pub makes : (number ≡ 0) ↔ ((M : Model) × (N : Model) × is_file first M × is_file second N × SoundModel L (make M N) × (length (model_bytes (make M N)) ≤ length before))
  -- then its file is written, later bytes stay, and it is the file of that model, which reading it gives
  pub written : number ≡ 0 → (M N : Model) → is_file first M → is_file second N → after ≡ model_bytes (make M N) ++ drop (length (model_bytes (make M N))) before
  pub holds : number ≡ 0 → (M N : Model) → is_file first M → is_file second N → is_file (model_bytes (make M N)) (make M N)
  pub reads : number ≡ 0 → (M N : Model) → is_file first M → is_file second N → read (model_bytes (make M N)) ≡ model (make M N) (length (model_bytes (make M N)))
  -- demand 1: a refusal leaves the buffer as it was
  pub unwritten : (number ≡ 0 → ⊥) → after ≡ before
