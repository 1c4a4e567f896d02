-- Document 02, K12: what the call that composes a sentence answers, and what it leaves in the lent buffer.
use Rattle.std.specs.Prelude.{ℕ, ◌≤◌, ◌<◌, ◌≡◌, ◌↔◌, ◌⊎◌, List, [], ◌∷◌, ◌++◌, length, drop}
use Rattle.rules.specs.definitions.Answers.{Outcome, files_outcome}
use Rattle.sentences.specs.definitions.Sentence.{Told, sentence}

-- '39, sentence buffer too short'; else the sentence is written
abbrev pub sentence_outcome : Told → (buffer : List ℕ) → Outcome
sentence_outcome x buffer = files_outcome 39 (sentence x ∷ []) (buffer ∷ [])

-- its numbers
abbrev pub SentenceNumber : ℕ → Type 0
SentenceNumber k = (k ≡ 0) ⊎ (k ≡ 39)

-- its demands, with these bytes in the lent buffer before and after it
pub record SentenceDemands (x : Told) (before after : List ℕ) (number : ℕ) : Type 0 where
  -- demand 1: the number is one of the call's
  pub known : SentenceNumber number
  -- 39 exactly where the buffer is shorter than the sentence, and 0 where it is not
  pub whole : (number ≡ 0) ↔ (length (sentence x) ≤ length before)
  pub short : (number ≡ 39) ↔ (length before < length (sentence x))
  -- then it is written, later bytes stay
  pub written : number ≡ 0 → after ≡ sentence x ++ drop (length (sentence x)) before
  -- 'Answers that differ in any of these five never give the same sentence'
  pub apart : (y : Told) → sentence y ≡ sentence x → y ≡ x
  -- demand 1: a refusal leaves the buffer as it was
  pub unwritten : (number ≡ 0 → ⊥) → after ≡ before
