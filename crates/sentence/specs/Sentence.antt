-- What the call that composes a sentence keeps, and what its parts need.
use Rattle.std.specs.Prelude.{ℕ, List, [], ◌∷◌, ℤ}
use Rattle.rules.specs.definitions.Answers.{files_outcome}
use Rattle.sentences.specs.definitions.Sentence.{Told}
use Rattle.sentences.specs.definitions.SentenceAnswer.{sentence_outcome, SentenceDemands}
use Rattle.answer.specs.declared.Answer.{Answer}
use Rattle.answer.specs.Answered.{OutcomeIs, CallAnswered}

-- the five values of a call
abbrev pub told : (number file place state : ℕ) → (remainder : ℤ) → Told
told number file place state remainder = record { number = number; file = file; place = place; state = state; remainder = remainder }

-- the call answers and leaves in the lent buffer what the request says, and keeps its demands; it reads no file
abbrev pub SentenceAnswered : Told → (before after : List ℕ) → Answer → Type 0
SentenceAnswered x before after r = CallAnswered (sentence_outcome x before) [] (after ∷ []) (SentenceDemands x before after) r

-- what it answers of the text of a sentence, and leaves in the lent buffer
abbrev pub Hands : (text before after : List ℕ) → Answer → Type 0
Hands text before after r = OutcomeIs (files_outcome 39 (text ∷ []) (before ∷ [])) [] (after ∷ []) r
