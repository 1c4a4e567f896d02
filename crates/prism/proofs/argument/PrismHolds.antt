-- An answer as `prism_outcome` says keeps the call's demands.
use Rattle.std.specs.Prelude.{ℕ, ◌≤◌, ◌<◌, ◌≡◌, refl, ◌⊎◌, List, [], ◌∷◌}
use Rattle.std.proofs.Math.Path.{sym, ap, subst}
use Rattle.std.proofs.Common.{◌∙◌, inl}
use Rattle.std.proofs.Math.Logic.{inr}
use Rattle.std.proofs.Math.ListN.{length}
use native.Mathlib.Omega.{arith}
use Rattle.rules.specs.definitions.Limits.{Limits, limits, longest_model}
use Rattle.rules.specs.definitions.Model.{Model, model_bytes}
use Rattle.rules.specs.definitions.SoundModel.{FitsWidths}
use Rattle.rules.specs.definitions.Faults.{fault}
use Rattle.rules.specs.definitions.Answers.{Outcome, left_in, refusal_in, answer_without_place, unwritten, filled_with, filled_each, filled, first_lent, files_outcome}
use Rattle.rules.proofs.argument.SoundModelLaws.{limits-fit}
use Rattle.rules.proofs.argument.LengthLaws.{sound-within, longest-file}
use Rattle.rules.proofs.argument.AnswerLaws.{NoState, left-unwritten, file-short, file-whole, file-fits, file-lacks, files-number, files-zero, files-unwritten}
use Rattle.prism.specs.definitions.Lines.{Head}
use Rattle.prism.specs.definitions.Reading.{Choice, ReadText, holds, refused_at, read_prism}
use Rattle.prism.specs.definitions.HeldModel.{held_model}
use Rattle.prism.specs.definitions.AllowedText.{AllowedText}
use Rattle.prism.specs.definitions.PrismAnswer.{text_outcome, prism_outcome, PrismNumber, PrismDemands}
use Rattle.prism.proofs.argument.HeldLaws.{allowed-sound, allowed-file, allowed-back, allowed-holds, allowed-lowest}
use Rattle.prism.proofs.argument.ReadingLaws.{read_number}
use Rattle.prism.proofs.argument.ReadAllowed.{read-allowed}
use Rattle.prism.proofs.argument.AllowedRead.{allowed-read, one-model}

among : {k : ℕ} → (k ≡ 31) ⊎ (k ≡ 32) → (31 ≤ k) × (k ≤ 32)
among (inl e) = omega arith
among (inr e) = omega arith

module _ (L : Limits) (text before : List ℕ) where
  -- what the call answers, by what reading the text gives
  pub text-refused : (number place : ℕ) → read_prism L text ≡ refused_at number place → unwritten (refusal_in (fault number) 1 place (length text)) (before ∷ []) ≡ prism_outcome L text before
  unfolding prism_outcome text_outcome
  text-refused number place e = ap (text_outcome text (before ∷ [])) (sym e)

  -- and where the text holds a model
  pub text-held : (h : Head) (names : List (List ℕ)) (choices : List Choice) → read_prism L text ≡ holds h names choices → files_outcome 33 (model_bytes (held_model h names choices) ∷ []) (before ∷ []) ≡ prism_outcome L text before
  unfolding prism_outcome text_outcome
  text-held h names choices e = ap (text_outcome text (before ∷ [])) (sym e)

  module _ (some : 0 < L.actions) where
    -- the cases: the text is refused, and not allowed; or it holds a model
    text-cases {κ} : (P : Outcome → Type κ)
        → ((number place : ℕ) → (number ≡ 31) ⊎ (number ≡ 32) → ((M : Model) → AllowedText L text M → ⊥) → P (unwritten (refusal_in (fault number) 1 place (length text)) (before ∷ [])))
        → ((M : Model) → AllowedText L text M → P (files_outcome 33 (model_bytes M ∷ []) (before ∷ [])))
        → P (prism_outcome L text before)
    text-cases P refuses held = go (read_prism L text) refl
      where
        go : (x : ReadText) → read_prism L text ≡ x → P (prism_outcome L text before)
        go (holds h names choices) e = subst P (text-held h names choices e) (held _ (read-allowed L text h names choices some e))
        go (refused_at number place) e =
            subst P (text-refused number place e)
            (refuses number place (read_number L text number place e)
            (λ M a. let r = allowed-read L text M a in let q = sym r.reads ∙ e in let z : ◌≡◌ {A = ℕ} 0 1 = cc in omega arith))

    abbrev number_of : Outcome → ℕ
    number_of o = o.answer.number

    prism-number : PrismNumber (number_of (prism_outcome L text before))
    unfolding PrismNumber unwritten refusal_in
    prism-number =
        text-cases (λ o. PrismNumber (number_of o))
        (λ number place k none. inr (omega (arith, among k)))
        (λ M a. files-number 33 (model_bytes M ∷ []) (before ∷ []) PrismNumber (inl refl) (inr (omega arith, omega arith)))

    -- document 02, K2
    pub prism-zero : NoState (prism_outcome L text before).answer
    unfolding unwritten refusal_in
    prism-zero =
        text-cases (λ o. NoState o.answer) (λ number place k none. (refl, refl)) (λ M a. files-zero 33 (model_bytes M ∷ []) (before ∷ []))

    -- an allowed text comes to its model's file
    module _ (M : Model) (a : AllowedText L text M) where
      is-file : files_outcome 33 (model_bytes M ∷ []) (before ∷ []) ≡ prism_outcome L text before
      is-file =
          text-cases (λ o. files_outcome 33 (model_bytes M ∷ []) (before ∷ []) ≡ o)
          (λ number place k none. absurd (none M a))
          (λ N b. ap (λ (X : Model). files_outcome 33 (model_bytes X ∷ []) (before ∷ [])) (one-model L text M N a b))

      is-written : length (model_bytes M) ≤ length before → filled (model_bytes M ∷ []) (before ∷ []) ≡ prism_outcome L text before
      is-written h = file-whole 33 (model_bytes M) before h ∙ is-file

      is-short : length before < length (model_bytes M) → unwritten (answer_without_place 33) (before ∷ []) ≡ prism_outcome L text before
      is-short h = file-short 33 (model_bytes M) before h ∙ is-file

    -- 0 and 33 tell that the text is allowed
    found : number_of (prism_outcome L text before) ≡ 0 → (M : Model) × AllowedText L text M × (length (model_bytes M) ≤ length before)
    unfolding unwritten refusal_in
    found =
        text-cases (λ o. number_of o ≡ 0 → (M : Model) × AllowedText L text M × (length (model_bytes M) ≤ length before))
        (λ number place k none z. absurd (omega (arith, among k, z)))
        (λ M a z. (M, a, file-fits 33 (model_bytes M) before (λ w. omega arith) z))

    lacks : number_of (prism_outcome L text before) ≡ 33 → (M : Model) × AllowedText L text M × (length before < length (model_bytes M))
    unfolding unwritten refusal_in
    lacks =
        text-cases (λ o. number_of o ≡ 33 → (M : Model) × AllowedText L text M × (length before < length (model_bytes M)))
        (λ number place k none z. absurd (omega (arith, among k, z)))
        (λ M a z. (M, a, file-lacks 33 (model_bytes M) before (λ w. omega arith) z))

    -- 33 only for a buffer shorter than the longest model
    pub prism-short : number_of (prism_outcome L text before) ≡ 33 → length before < longest_model L
    prism-short z =
        let f = lacks z in omega (arith, f.2, longest-file L f.0 (sound-within L f.0 (allowed-sound f.1)))

    -- nothing is written where the number is not 0
    prism-unwritten : (number_of (prism_outcome L text before) ≡ 0 → ⊥) → left_in (prism_outcome L text before) ≡ before ∷ []
    prism-unwritten =
        text-cases (λ o. (number_of o ≡ 0 → ⊥) → left_in o ≡ before ∷ [])
        (λ number place k none z. left-unwritten _ (before ∷ []))
        (λ M a. files-unwritten 33 (model_bytes M ∷ []) (before ∷ []))

    -- the answer meets the demands of the request
    pub prism-demands : FitsWidths L → (after : List ℕ) (number : ℕ) → number ≡ number_of (prism_outcome L text before) → after ∷ [] ≡ left_in (prism_outcome L text before) → PrismDemands L text before after number
    unfolding filled filled_each filled_with unwritten answer_without_place
    prism-demands widths after number e left =
        record {
          known = subst PrismNumber (sym e) prism-number;
          reads = (λ z. found (sym e ∙ z), λ x. e ∙ ap number_of (sym (is-written x.0 x.1 x.2)));
          short = (λ z. lacks (sym e ∙ z), λ x. e ∙ ap number_of (sym (is-short x.0 x.1 x.2)));
          written = λ z M a.
              ap first_lent left
              ∙ ap (λ (o : Outcome). first_lent (left_in o)) (sym (is-written M a (file-fits 33 (model_bytes M) before (λ w. omega arith) (ap number_of (is-file M a) ∙ sym e ∙ z))));
          sound = λ M a. allowed-file a;
          back = λ M a. allowed-back a widths;
          holds = λ M a. allowed-holds a;
          lowest = λ M a. allowed-lowest a;
          unwritten = λ n. ap first_lent (left ∙ prism-unwritten (λ z. n (e ∙ z)));
        }

-- for today's limits
pub prism-demands-today : (text before after : List ℕ) (number : ℕ) → number ≡ (prism_outcome limits text before).answer.number → after ∷ [] ≡ left_in (prism_outcome limits text before) → PrismDemands limits text before after number
prism-demands-today text before = prism-demands limits text before (omega arith) limits-fit
