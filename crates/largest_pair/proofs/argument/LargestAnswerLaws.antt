-- The call that writes the largest pair keeps its demands.
use Rattle.std.specs.Prelude.{ℕ, ◌+◌, ◌*◌, ◌-◌, ◌≤◌, ◌<◌, ◌≡◌, Bool, true, false, length, drop}
use Rattle.std.proofs.Math.Path.{refl, ap, subst, subst₂}
use Rattle.std.proofs.Common.{sym, ◌∙◌, ap₂, inl}
use Rattle.std.proofs.Math.Logic.{inr}
use mathlib.Core.List.{List, [], ◌∷◌, ◌++◌}
use Rattle.std.proofs.Math.ListN.{take, get_or}
use Rattle.std.proofs.Math.Seq.{take-append_seam}
use Rattle.std.proofs.Math.Decide.{dec_lt}
use native.Mathlib.Omega.{arith}
use Rattle.bisimulation.specs.definitions.Choice.{if_true}
use Rattle.bisimulation.proofs.argument.ChoiceLaws.{less, not_less, is_true, is_false, false-not}
use Rattle.rules.specs.definitions.Limits.{Limits, current}
use Rattle.rules.specs.definitions.Model.{Model, automaton_of}
use Rattle.rules.specs.definitions.PlainRule.{plain_rule}
use Rattle.rules.specs.definitions.PlainSays.{plain_says}
use Rattle.rules.specs.definitions.Accepted.{Kept, FileOf}
use Rattle.rules.specs.definitions.Answers.{Outcome, left_in, first_written, second_written, answer_without_place, unwritten, filled_with, filled_each, filled, files_outcome, first_lent}
use Rattle.rules.specs.definitions.JudgedBy.{plain_pairs}
use Rattle.rules.proofs.argument.SoundModelLaws.{current-fit, sound-bytes}
use Rattle.rules.proofs.argument.AnswerLaws.{NoState, left-unwritten, files-number, files-zero, files-unwritten, both-fit, both-fits}
use Rattle.rules.proofs.argument.AcceptedExactly.{accepted-judged}
use Rattle.rules.proofs.argument.PlainRules.{plain_rules}
use Rattle.largest_pair.specs.definitions.LargestPair.{zeros, largest_model, largest_certificate, largest_model_file, largest_certificate_file}
use Rattle.largest_pair.specs.definitions.LargestAnswer.{outside_limits, largest_outcome, LargestNumber, WithinLimits, ReachesMost, LargestDemands}
use Rattle.largest_pair.proofs.argument.FewFlowsLaws.{plain-few-flows, stored-few-flows}
use Rattle.largest_pair.proofs.argument.LargestLaws.{model-length, certificate-length, flow-count, one-block, largest-sound, largest-states, largest-transitions, largest-keeps}

-- the test of the limits
module _ (L : Limits) (n T : ℕ) where
  pub within-inside : WithinLimits L n T → false ≡ outside_limits L n T
  unfolding outside_limits
  within-inside w = not_less _ w.some (not_less _ w.states (not_less _ w.transitions refl))

  pub inside-within : (outside_limits L n T ≡ true → ⊥) → WithinLimits L n T
  unfolding outside_limits
  inside-within h = go (dec_lt n 1) (dec_lt L.states n) (dec_lt L.transitions T)
    where
      go : Dec (n < 1) → Dec (L.states < n) → Dec (L.transitions < T) → WithinLimits L n T
      go (yes a) d e = absurd (h (sym (less _ a refl)))
      go (no a) (yes b) e = absurd (h (sym (not_less _ (omega arith) (less _ b refl))))
      go (no a) (no b) (yes c) = absurd (h (sym (not_less _ (omega arith) (not_less _ (omega arith) (less _ c refl)))))
      go (no a) (no b) (no c) = record { some = omega arith; states = omega arith; transitions = omega arith }

  decide : Dec (WithinLimits L n T)
  decide = go (outside_limits L n T) refl
    where
      go : (b : Bool) → outside_limits L n T ≡ b → Dec (WithinLimits L n T)
      go false e = yes (inside-within (λ z. false-not (sym e ∙ z)))
      go true e = no (λ w. false-not (within-inside w ∙ e))

  outside-test : (WithinLimits L n T → ⊥) → outside_limits L n T ≡ true
  outside-test h = go (outside_limits L n T) refl
    where
      go : (b : Bool) → outside_limits L n T ≡ b → outside_limits L n T ≡ true
      go true e = e
      go false e = absurd (h (inside-within (λ z. false-not (sym e ∙ z))))

-- what the call answers
module _ (n T : ℕ) (one two : List ℕ) where
  abbrev number_of : Outcome → ℕ
  number_of o = o.answer.number

  abbrev outcome : Outcome
  outcome = largest_outcome current n T one two

  abbrev written : Outcome
  written = files_outcome 41 (largest_model_file n T ∷ largest_certificate_file n T ∷ []) (one ∷ two ∷ [])

  pub largest-outside : outside_limits current n T ≡ true → unwritten (answer_without_place 40) (one ∷ two ∷ []) ≡ outcome
  unfolding largest_outcome
  largest-outside e = is_true _ e refl

  pub largest-inside : WithinLimits current n T → written ≡ outcome
  unfolding largest_outcome
  largest-inside w = is_false _ (sym (within-inside current n T w)) refl

  either-outcome {κ} : (P : Outcome → Type κ) → ((WithinLimits current n T → ⊥) → P (unwritten (answer_without_place 40) (one ∷ two ∷ []))) → (WithinLimits current n T → P written) → P outcome
  either-outcome P out within = go (decide current n T)
    where
      go : Dec (WithinLimits current n T) → P outcome
      go (yes w) = subst P (largest-inside w) (within w)
      go (no h) = subst P (largest-outside (outside-test current n T h)) (out h)

  pub largest-number : LargestNumber (number_of outcome)
  unfolding LargestNumber unwritten answer_without_place
  largest-number =
      either-outcome (λ (o : Outcome). LargestNumber (number_of o)) (λ h. inr (omega arith, omega arith))
      (λ w. files-number 41 _ _ LargestNumber (inl refl) (inr (omega arith, omega arith)))

  -- document 02, K2
  pub largest-zero : NoState outcome.answer
  unfolding unwritten answer_without_place
  largest-zero = either-outcome (λ (o : Outcome). NoState o.answer) (λ h. (refl, refl)) (λ w. files-zero 41 _ _)

  is-outside : number_of outcome ≡ 40 → WithinLimits current n T → ⊥
  is-outside z w = files-number 41 _ _ (λ (k : ℕ). k ≡ 40 → ⊥) (λ e. omega arith) (λ e. omega arith) (ap number_of (largest-inside w) ∙ z)

  outside-is : (WithinLimits current n T → ⊥) → number_of outcome ≡ 40
  unfolding unwritten answer_without_place
  outside-is h = either-outcome (λ (o : Outcome). number_of o ≡ 40) (λ g. refl) (λ w. absurd (h w))

  -- n and T are inside the limits, and both buffers are long enough
  abbrev Fits : Type 0
  Fits = WithinLimits current n T × (length (largest_model_file n T) ≤ length one) × (length (largest_certificate_file n T) ≤ length two)

  is_whole : number_of outcome ≡ 0 → Fits
  unfolding unwritten answer_without_place
  is_whole =
      either-outcome (λ (o : Outcome). number_of o ≡ 0 → Fits) (λ h z. absurd (omega arith))
      (λ w z. let room = both-fits 41 _ _ one two (λ e. omega arith) z in (w, room.0, room.1))

  both-written : Fits → filled (largest_model_file n T ∷ largest_certificate_file n T ∷ []) (one ∷ two ∷ []) ≡ outcome
  both-written h = both-fit 41 _ _ one two h.1 h.2 ∙ largest-inside h.0

  none_written : (number_of outcome ≡ 0 → ⊥) → left_in outcome ≡ one ∷ two ∷ []
  none_written =
      either-outcome (λ (o : Outcome). (number_of o ≡ 0 → ⊥) → left_in o ≡ one ∷ two ∷ []) (λ h n. left-unwritten _ (one ∷ two ∷ []))
      (λ w. files-unwritten 41 _ _)

-- 'The pair is accepted'
pub reaches-most : (n T : ℕ) → WithinLimits current n T → ReachesMost plain_pairs n T (largest_model_file n T) (largest_certificate_file n T)
unfolding largest_certificate
reaches-most n T w =
    let sound = largest-sound current n T w (omega arith) (omega arith) in
    let file : FileOf current (largest_model_file n T) (largest_model n T) = record { sound = sound; encoded = refl } in
    let kept : Kept current plain_says plain_rule.mark (automaton_of (largest_model n T)) (largest_certificate_file n T) (zeros n) =
    record { certificate = largest_certificate n T; encoded = refl; keeps = largest-keeps n T w.some current; named = refl } in
    record {
      M = largest_model n T;
      states = largest-states n T;
      transitions = largest-transitions n T;
      blocks = zeros n;
      accepted = accepted-judged plain_rules _ _ _ (sound-bytes current (largest_model n T) current-fit sound) (record { M = largest_model n T; file = file; kept = kept });
      one_block = one-block n w.some;
      keeps = record { file = file; kept = kept };
      reaches = flow-count n T;
    }

module _ (n T : ℕ) (one two one_after two_after : List ℕ) (number : ℕ) (e : number ≡ number_of n T one two (outcome n T one two)) (left : one_after ∷ two_after ∷ [] ≡ left_in (outcome n T one two)) where
  -- of the bytes that were written
  written-files : number ≡ 0 → (one_after ≡ largest_model_file n T ++ drop (length (largest_model_file n T)) one) × (two_after ≡ largest_certificate_file n T ++ drop (length (largest_certificate_file n T)) two)
  unfolding filled filled_each filled_with
  written-files z =
      let same = left ∙ ap left_in (sym (both-written n T one two (is_whole n T one two (sym e ∙ z)))) in
      (ap first_lent same, ap (λ (l : List (List ℕ)). get_or l 1 []) same)

  written-reaches : number ≡ 0 → ReachesMost plain_pairs n T (take (first_written (outcome n T one two)) one_after) (take (second_written (outcome n T one two)) two_after)
  unfolding filled filled_each filled_with
  written-reaches z =
      let h = is_whole n T one two (sym e ∙ z) in
      let o = both-written n T one two h in
      let w = written-files z in
      subst₂ (ReachesMost plain_pairs n T)
      (sym (ap₂ (λ (k : ℕ) (l : List ℕ). take k l) (ap first_written (sym o)) w.0 ∙ take-append_seam (largest_model_file n T) _))
      (sym (ap₂ (λ (k : ℕ) (l : List ℕ). take k l) (ap second_written (sym o)) w.1 ∙ take-append_seam (largest_certificate_file n T) _))
      (reaches-most n T h.0)

  pub largest-demands : LargestDemands n T one two one_after two_after number
  unfolding filled answer_without_place
  largest-demands =
      record {
        known = subst LargestNumber (sym e) (largest-number n T one two);
        outside = (λ z. is-outside n T one two (sym e ∙ z), λ h. e ∙ outside-is n T one two h);
        whole = (
          λ z. let h = is_whole n T one two (sym e ∙ z) in (h.0, omega (arith, h.1, model-length n T), omega (arith, h.2, certificate-length n T)),
          λ h. e ∙ ap (number_of n T one two) (sym (both-written n T one two (h.0, omega (arith, h.1, model-length n T), omega (arith, h.2, certificate-length n T)))),
        );
        model_length = model-length n T;
        certificate_length = certificate-length n T;
        model_written = λ z. (written-files z).0;
        certificate_written = λ z. (written-files z).1;
        reaches = written-reaches;
        most = plain-few-flows;
        stored_most = stored-few-flows;
        unwritten = λ none.
            let same = left ∙ none_written n T one two (λ z. none (e ∙ z)) in
            (ap first_lent same, ap (λ (l : List (List ℕ)). get_or l 1 []) same);
      }
