-- The call that composes a sentence keeps its demands.
use Rattle.std.specs.Prelude.{ℕ, ◌≤◌, ◌<◌, ◌≡◌, refl, List, [], ◌∷◌, length}
use Rattle.std.proofs.Common.{sym, ◌∙◌, inl, inr, arith}
use Rattle.std.proofs.Math.Path.{ap, subst}
use Rattle.rules.specs.definitions.Answers.{Outcome, left_in, answer_without_place, unwritten, filled_with, filled_each, filled, first_lent}
use Rattle.rules.proofs.argument.AnswerLaws.{NoState, file-short, file-whole, file-fits, file-lacks, files-number, files-zero, files-unwritten}
use Rattle.sentences.specs.definitions.Sentence.{Told, sentence}
use Rattle.sentences.specs.definitions.SentenceAnswer.{sentence_outcome, SentenceNumber, SentenceDemands}
use Rattle.sentences.proofs.argument.SentenceLaws.{told-apart}
use Rattle.sentences.proofs.argument.LongestSentence.{FitsWords, longest_sentence, longest-sentence}

module _ (x : Told) (before : List ℕ) where
  abbrev number_of : Outcome → ℕ
  number_of o = o.answer.number

  abbrev outcome : Outcome
  outcome = sentence_outcome x before

  pub sentence-number : SentenceNumber (number_of outcome)
  sentence-number = files-number 39 (sentence x ∷ []) (before ∷ []) SentenceNumber (inl refl) (inr refl)

  -- document 02, K2
  pub sentence-zero : NoState outcome.answer
  sentence-zero = files-zero 39 (sentence x ∷ []) (before ∷ [])

  fits : number_of outcome ≡ 0 → length (sentence x) ≤ length before
  fits = file-fits 39 (sentence x) before (λ w. omega (arith, w))

  lacks : number_of outcome ≡ 39 → length before < length (sentence x)
  lacks = file-lacks 39 (sentence x) before (λ w. omega (arith, w))

  -- 39 only for a buffer shorter than the longest sentence
  pub sentence-short : FitsWords x → number_of outcome ≡ 39 → length before < longest_sentence
  sentence-short w z = omega (arith, lacks z, longest-sentence x w)

  pub sentence-demands : (after : List ℕ) (number : ℕ) → number ≡ number_of outcome → after ∷ [] ≡ left_in outcome → SentenceDemands x before after number
  unfolding filled filled_each filled_with unwritten answer_without_place
  sentence-demands after number e left =
      record {
        known = subst SentenceNumber (sym e) sentence-number;
        whole = (λ z. fits (sym e ∙ z), λ h. e ∙ ap number_of (sym (file-whole 39 (sentence x) before h)));
        short = (λ z. lacks (sym e ∙ z), λ h. e ∙ ap number_of (sym (file-short 39 (sentence x) before h)));
        written = λ z. ap first_lent left ∙ ap (λ (o : Outcome). first_lent (left_in o)) (sym (file-whole 39 (sentence x) before (fits (sym e ∙ z))));
        apart = λ y. told-apart y x;
        unwritten = λ n. ap first_lent (left ∙ files-unwritten 39 (sentence x ∷ []) (before ∷ []) (λ z. n (e ∙ z)));
      }
