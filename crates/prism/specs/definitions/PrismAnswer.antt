-- Document 02, K9: what the call that reads a PRISM text answers, and leaves in the lent buffer.
use Rattle.std.specs.Prelude.{ℕ, ◌≤◌, ◌<◌, ◌≡◌, ◌↔◌, ◌⊎◌, List, [], ◌∷◌, ◌++◌, length, drop}
use Rattle.rules.specs.definitions.Limits.{Limits}
use Rattle.rules.specs.definitions.Model.{Model, model_bytes}
use Rattle.rules.specs.definitions.Reading as rules-reading
use Rattle.rules.specs.definitions.SoundModel.{Each, LowestTerms}
use Rattle.rules.specs.definitions.Accepted.{FileOf}
use Rattle.rules.specs.definitions.Faults as rules-faults
use Rattle.rules.specs.definitions.Answers.{Outcome, refusal_in, unwritten, files_outcome}
use Rattle.prism.specs.definitions.Reading.{ReadText, holds, refused_at, read_prism}
use Rattle.prism.specs.definitions.HeldModel.{held_model}
use Rattle.prism.specs.definitions.AllowedText.{names_of, AllowedText}
use Rattle.prism.specs.definitions.HeldText.{Beside, Holds}

-- '33, model buffer too short, last; file is 1 but for 33', for what reading the text gave
unfoldable pub text_outcome : List ℕ → (before : List (List ℕ)) → ReadText → Outcome
text_outcome text before (holds h names choices) = files_outcome 33 (model_bytes (held_model h names choices) ∷ []) before
text_outcome text before (refused_at number place) = unwritten (refusal_in (rules-faults.fault number) 1 place (length text)) before

unfoldable pub prism_outcome : Limits → (text buffer : List ℕ) → Outcome
prism_outcome L text buffer = text_outcome text (buffer ∷ []) (read_prism L text)

-- its numbers
unfoldable pub PrismNumber : ℕ → Type 0
PrismNumber k = (k ≡ 0) ⊎ ((31 ≤ k) × (k ≤ 33))

-- what the call keeps when it answers this number, with these bytes in the lent buffer before and after it
pub record PrismDemands (L : Limits) (text before after : List ℕ) (number : ℕ) : Type 0 where
  -- demand 1: the number is one of the call's
  pub known : PrismNumber number
  -- it is 0 exactly when the text is one that K9 allows, and the buffer is long enough for the file of the model that it holds
  pub reads : (number ≡ 0) ↔ ((M : Model) × AllowedText L text M × (length (model_bytes M) ≤ length before))
  -- '33, model buffer too short, last'
  pub short : (number ≡ 33) ↔ ((M : Model) × AllowedText L text M × (length before < length (model_bytes M)))
  -- then that file is written, later bytes stay
  pub written : number ≡ 0 → (M : Model) → AllowedText L text M → after ≡ model_bytes M ++ drop (length (model_bytes M)) before
  -- a text that is allowed holds a sound model, whose file reads back as it
  pub sound : (M : Model) → AllowedText L text M → FileOf L (model_bytes M) M
  pub back : (M : Model) → AllowedText L text M → rules-reading.read_whole L (model_bytes M) ≡ rules-reading.model M (length (model_bytes M))
  -- its transitions are the text's choices, one by one, in lowest terms
  pub holds : (M : Model) → (allowed : AllowedText L text M) → Beside (Holds (names_of allowed.choices)) allowed.choices M.transitions
  pub lowest : (M : Model) → AllowedText L text M → Each LowestTerms M.transitions
  -- demand 1: a refusal leaves the buffer as it was
  pub unwritten : (number ≡ 0 → ⊥) → after ≡ before
