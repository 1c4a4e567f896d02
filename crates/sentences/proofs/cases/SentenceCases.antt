-- Sentences, the whole text: one for each phrase, the greatest and the least values, and what the call answers and leaves in the lent buffer.
use Rattle.std.specs.Prelude.{ℕ, ◌≡◌, refl, List, [], ◌∷◌, ◌++◌, replicate, ℤ, pos, negsuc}
use Prim.Native.String.{String}
use Rattle.bisimulation.specs.definitions.Choice.{if_less, if_true}
use Rattle.numbers.specs.definitions.Decimal.{digits_before, decimal}
use Rattle.rules.specs.definitions.SoundModel.{Each}
use Rattle.rules.specs.definitions.Answers.{Outcome, answer_without_place, unwritten, filled_with, filled_each, filled, room_for, files_outcome}
use Rattle.rules.proofs.cases.MoreCases.{outcome_of}
use Rattle.sentences.specs.definitions.Phrases.{bytes_of, phrases, other_phrase, phrase_of}
use Rattle.sentences.specs.definitions.Sentence.{Told, signed_decimal, sentence}
use Rattle.sentences.specs.definitions.SentenceAnswer.{sentence_outcome}
use Rattle.sentences.proofs.argument.LongestSentence.{word-decimal, place-decimal, most-decimal, least-decimal}

-- what is told, and the sentence
pub record SentenceCase : Type 0 where
  pub told : Told
  pub text : String

abbrev tells : (number file place state : ℕ) → (remainder : ℤ) → Told
tells number file place state remainder = record { number = number; file = file; place = place; state = state; remainder = remainder }

abbrev says : (number file place state : ℕ) → (remainder : ℤ) → (text : String) → SentenceCase
says number file place state remainder text = record { told = tells number file place state remainder; text = text }

-- document 02, K12: 'a fixed phrase for each number, later requests' included, .. and one more for all unknown ones'
unfoldable pub sentence_cases : List SentenceCase
sentence_cases =
    says 0 0 0 0 (pos 0) "Answer 0: everything that was asked for was done and nothing was refused (file 0, place 0, state 0, remainder 0)."
    ∷ says 1 1 6 0 (pos 0) "Answer 1: the model file ends inside a record or where the next one should begin (file 1, place 6, state 0, remainder 0)."
    ∷ says 2 3 10 0 (pos 0) "Answer 2: a record of the model does not begin with the mark that belongs there (file 3, place 10, state 0, remainder 0)."
    ∷ says 3 1 43 0 (pos 0) "Answer 3: the head of the model gives a number of states, actions or transitions that is not allowed (file 1, place 43, state 0, remainder 0)."
    ∷ says 4 3 99 0 (pos 0) "Answer 4: the model has a label that is higher than allowed (file 3, place 99, state 0, remainder 0)."
    ∷ says 5 1 100 0 (pos 0) "Answer 5: a transition of the model has a source, action, denominator or entry count that is not allowed (file 1, place 100, state 0, remainder 0)."
    ∷ says 6 1 255 0 (pos 0) "Answer 6: a transition of the model leads to an unknown or misplaced state or has a weight of zero (file 1, place 255, state 0, remainder 0)."
    ∷ says 7 1 1000 0 (pos 0) "Answer 7: the weights of a transition do not add up to its denominator (file 1, place 1000, state 0, remainder 0)."
    ∷ says 8 1 4096 0 (pos 0) "Answer 8: the transitions of the model have more entries together than are allowed (file 1, place 4096, state 0, remainder 0)."
    ∷ says 9 3 65535 0 (pos 0) "Answer 9: the model file goes on after the model has ended (file 3, place 65535, state 0, remainder 0)."
    ∷ says 10 0 0 0 (pos 0) "Answer 10: the buffer that was lent for the blocks is too short for all states (file 0, place 0, state 0, remainder 0)."
    ∷ says 11 2 21 0 (pos 0) "Answer 11: the certificate file ends inside a record or where the next one should begin (file 2, place 21, state 0, remainder 0)."
    ∷ says 12 2 33 0 (pos 0) "Answer 12: a record of the certificate does not begin with the mark that belongs there (file 2, place 33, state 0, remainder 0)."
    ∷ says 13 2 520 0 (pos 0) "Answer 13: the head of the certificate announces more refutations than are allowed (file 2, place 520, state 0, remainder 0)."
    ∷ says 14 2 1999 0 (pos 0) "Answer 14: a refutation names an unknown transition or state or a pair of states that it cannot part (file 2, place 1999, state 0, remainder 0)."
    ∷ says 15 2 0 0 (pos 0) "Answer 15: a price condition of a refutation, other than its last one, does not hold (file 2, place 0, state 0, remainder 0)."
    ∷ says 16 2 6 12 (pos 345) "Answer 16: the last price condition of a refutation does not hold (file 2, place 6, state 12, remainder 345)."
    ∷ says 17 2 10 0 (pos 0) "Answer 17: the blocks of the certificate are not numbered in the order in which they first appear (file 2, place 10, state 0, remainder 0)."
    ∷ says 18 2 43 0 (pos 0) "Answer 18: the blocks of the certificate do not agree with the pairs of states that are still related (file 2, place 43, state 0, remainder 0)."
    ∷ says 19 2 99 0 (pos 0) "Answer 19: a flow moves nothing or has an entry that is out of order, zero, unknown or out of place (file 2, place 99, state 0, remainder 0)."
    ∷ says 20 2 100 7 (negsuc 9) "Answer 20: what comes to a state in a flow is not what leaves it (file 2, place 100, state 7, remainder -10)."
    ∷ says 21 2 255 127 (pos 9) "Answer 21: what a flow leaves at a target is not the share that the challenging transition has there (file 2, place 255, state 127, remainder 9)."
    ∷ says 22 2 1000 0 (pos 0) "Answer 22: the certificate file goes on after its last flow (file 2, place 1000, state 0, remainder 0)."
    ∷ says 23 0 0 0 (pos 0) "Answer 23: the certificate is accepted but the lent buffer is too short for the merged model (file 0, place 0, state 0, remainder 0)."
    ∷ says 24 0 0 0 (pos 0) "Answer 24: the model does not have the state whose transitions were asked for (file 0, place 0, state 0, remainder 0)."
    ∷ says 25 0 0 0 (pos 0) "Answer 25: the two models joined to one have more states, transitions or entries than are allowed (file 0, place 0, state 0, remainder 0)."
    ∷ says 26 0 0 0 (pos 0) "Answer 26: the lent buffer is too short for the two models joined to one (file 0, place 0, state 0, remainder 0)."
    ∷ says 27 0 0 0 (pos 0) "Answer 27: the certificate is accepted but a state to be compared is not in its part of the model (file 0, place 0, state 0, remainder 0)."
    ∷ says 28 0 0 0 (pos 0) "Answer 28: the certificate is accepted but the lent buffer is too short for the sheet of blocks (file 0, place 0, state 0, remainder 0)."
    ∷ says 29 1 1999 0 (pos 0) "Answer 29: the model has a cost that is higher than allowed (file 1, place 1999, state 0, remainder 0)."
    ∷ says 30 2 0 0 (pos 0) "Answer 30: what a flow costs is not what the challenging transition costs (file 2, place 0, state 0, remainder 0)."
    ∷ says 31 1 6 0 (pos 0) "Answer 31: a line of the text is missing, surplus, too much for a model or not of the right form (file 1, place 6, state 0, remainder 0)."
    ∷ says 32 1 10 0 (pos 0) "Answer 32: the probabilities of a choice in the text do not add up to one (file 1, place 10, state 0, remainder 0)."
    ∷ says 33 0 0 0 (pos 0) "Answer 33: the lent buffer is too short for the model that the text holds (file 0, place 0, state 0, remainder 0)."
    ∷ says 34 1 99 0 (pos 0) "Answer 34: the weights of a transition have a common divisor and so are not in lowest terms (file 1, place 99, state 0, remainder 0)."
    ∷ says 35 2 100 0 (pos 0) "Answer 35: the certificate is accepted but a number of a flow becomes too large in lowest terms (file 2, place 100, state 0, remainder 0)."
    ∷ says 36 0 0 0 (pos 0) "Answer 36: the certificate is accepted but a lent buffer is too short for a file in lowest terms (file 0, place 0, state 0, remainder 0)."
    ∷ says 37 0 0 0 (pos 0) "Answer 37: the composition of the two models goes beyond what a model may hold (file 0, place 0, state 0, remainder 0)."
    ∷ says 38 0 0 0 (pos 0) "Answer 38: the lent buffer is too short for the composed model or for the one with actions hidden (file 0, place 0, state 0, remainder 0)."
    ∷ says 39 0 0 0 (pos 0) "Answer 39: the lent buffer is too short for the sentence (file 0, place 0, state 0, remainder 0)."
    ∷ says 40 0 0 0 (pos 0) "Answer 40: the number of states or transitions asked for the largest certificate is not allowed (file 0, place 0, state 0, remainder 0)."
    ∷ says 41 0 0 0 (pos 0) "Answer 41: a lent buffer is too short for the model with the largest certificate or for the certificate (file 0, place 0, state 0, remainder 0)."
    ∷ says 42 3 1024 17 (negsuc 0) "Answer 42: no answer of this version has this number (file 3, place 1024, state 17, remainder -1)."
    ∷ []

pub sentence-cases : Each (λ (c : SentenceCase). sentence c.told ≡ bytes_of c.text) sentence_cases
unfolding Each if_less digits_before decimal bytes_of phrases other_phrase phrase_of signed_decimal sentence sentence_cases
sentence-cases = (refl, (refl, (refl, (refl, (refl, (refl, (refl, (refl, (refl, (refl, (refl, (refl, (refl, (refl, (refl, (refl, (refl, (refl, (refl, (refl, (refl, (refl, (refl, (refl, (refl, (refl, (refl, (refl, (refl, (refl, (refl, (refl, (refl, (refl, (refl, (refl, (refl, (refl, (refl, (refl, (refl, (refl, (refl, tt)))))))))))))))))))))))))))))))))))))))))))

-- the greatest value of each width, and the least remainder: decimals that are not computed but found from their digits
unfoldable pub extremes : List SentenceCase
extremes =
    says 4294967295 4294967295 18446744073709551615 4294967295 (pos 9223372036854775807) "Answer 4294967295: no answer of this version has this number (file 4294967295, place 18446744073709551615, state 4294967295, remainder 9223372036854775807)."
    ∷ says 4294967295 4294967295 18446744073709551615 4294967295 (negsuc 9223372036854775807) "Answer 4294967295: no answer of this version has this number (file 4294967295, place 18446744073709551615, state 4294967295, remainder -9223372036854775808)."
    ∷ []

pub extreme-cases : Each (λ (c : SentenceCase). sentence c.told ≡ bytes_of c.text) extremes
unfolding Each bytes_of phrases other_phrase phrase_of signed_decimal sentence extremes
extreme-cases = rw (word-decimal, place-decimal, most-decimal, least-decimal) (refl, (refl, tt))

-- what is told, the lent buffer before, and what the call answers and leaves in the buffer
pub record AnswerCase : Type 0 where
  pub told : Told
  pub before : List ℕ
  pub expected : Outcome

abbrev one : Told → (before : List ℕ) → (expected : Outcome) → AnswerCase
one told before expected = record { told = told; before = before; expected = expected }

-- 100 bytes
abbrev label : Told
label = tells 4 1 8 0 (pos 0)

abbrev label_text : List ℕ
label_text = bytes_of "Answer 4: the model has a label that is higher than allowed (file 1, place 8, state 0, remainder 0)."

unfoldable pub answer_cases : List AnswerCase
answer_cases =
    -- a buffer of 102 bytes: the first 100 are the sentence, and the last 2 stay
    one label (replicate 100 7 ++ (9 ∷ 8 ∷ [])) (outcome_of 0 0 0 0 0 100 (label_text ++ (9 ∷ 8 ∷ [])))
    -- an exact fit
    ∷ one label (replicate 100 7) (outcome_of 0 0 0 0 0 100 label_text)
    -- one byte too short: 39, without a place, and nothing written
    ∷ one label (replicate 99 7) (outcome_of 39 0 0 0 0 0 (replicate 99 7))
    -- no buffer
    ∷ one label [] (outcome_of 39 0 0 0 0 0 [])
    ∷ []

pub answer-cases : Each (λ (c : AnswerCase). sentence_outcome c.told c.before ≡ c.expected) answer_cases
unfolding Each if_less if_true digits_before decimal answer_without_place unwritten filled_with filled_each filled room_for files_outcome bytes_of phrases other_phrase phrase_of signed_decimal sentence answer_cases
answer-cases = (refl, (refl, (refl, (refl, tt))))
