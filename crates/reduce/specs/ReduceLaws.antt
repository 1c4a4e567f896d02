-- What the call that reduces finds, as its promise.
use Rattle.std.specs.Prelude.{ℕ, ◌+◌, ◌-◌, ◌≤◌, ◌≡◌, List, [], ◌∷◌, length, take, drop}
use Rattle.std.proofs.Common.{sym, ap, subst, arith}
use Rattle.rules.specs.definitions.Limits.{limits, current}
use Rattle.rules.specs.definitions.Reading.{model_at}
use Rattle.rules.specs.definitions.SoundModel.{Bytes}
use Rattle.rules.specs.definitions.JudgedBy.{plain_pairs}
use Rattle.quotient.specs.definitions.Quotient.{merged_file}
use Rattle.quotient.specs.definitions.ReduceAnswer.{writes_merged, ReduceNumber}
use Rattle.rules.specs.definitions.Answers as rules
use Rattle.rules.specs.definitions.Answers.{files_outcome}
use Rattle.rules.specs.definitions.Demands.{outcome_by}
use Rattle.rules.proofs.argument.AnswerLaws.{files-without}
use Rattle.rules.proofs.argument.PlainRules.{plain_rules}
use Rattle.rules.proofs.argument.Demand3Holds.{holds_read}
use Rattle.rules.proofs.argument.DemandsHold.{demands-hold}
use Rattle.quotient.proofs.argument.ReduceAnswerLaws.{merged-follow-today, reduce-numbered}
use Rattle.rules.proofs.argument.NumberedBlocks.{NumberedBlocks, accepted-numbered}
use Rattle.replacement.proofs.argument.ReplacementLaws.{reduce-demands}
use Rattle.limits.specs.TermsBy.{current_terms}
use Rattle.rule_kind.specs.declared.Kind.TheVariants.{Plain}
use Rattle.answer.specs.declared.Answer.{Answer}
use Rattle.answer.specs.Answered.{answered, StretchInside, Gives, OutcomeIs}
use Rattle.answer.specs.AnsweredLaws.{without-inside, gives_as}
use Rattle.judgement.specs.Verdicts.{AcceptedAt, RefusedAs, RoomFor}
use Rattle.judgement.specs.VerdictLaws.{part-is, part-follows}
use Rattle.reduce.specs.Reduce.{ReduceAnswered}

-- no block buffer is lent
room : (before : List ℕ) → RoomFor writes_merged (before ∷ []) limits.states
room before N few = (λ h. absurd (omega arith), λ h. absurd (omega arith))

module _ {M C : List ℕ} (b : Bytes M) (c : Bytes C) (before : List ℕ) where
  -- the outcome, with its demands
  with-demands : {after : List ℕ} {r : Answer} → OutcomeIs (outcome_by plain_pairs writes_merged M C (before ∷ [])) (M ∷ C ∷ []) (after ∷ []) r → ReduceAnswered M C before after r
  with-demands {after} {r} o =
      let e = ap (λ (x : rules.Answer). x.number) o.gives.answer in
      record {
        outcome = o;
        demands =
            reduce-demands M C before (after ∷ []) r.number b c e
            (demands-hold plain_rules writes_merged merged-follow-today M C (before ∷ []) (after ∷ []) r.number b c e o.gives.buffers (ReduceNumber current.terms) (subst (ReduceNumber current.terms) (sym e) (reduce-numbered M C (before ∷ []))));
      }

  pub pair-refused : {r : Answer} → RefusedAs Plain current_terms M C limits.states r → ReduceAnswered M C before before r
  pair-refused a = with-demands (a.refuses writes_merged (before ∷ []) (room before))

  module _ {n count at : ℕ} (a : AcceptedAt Plain current_terms M C limits.states n count at) where
    pub blocks-numbered : NumberedBlocks (model_at M) (take (at + n - at) (drop at C))
    blocks-numbered = subst (NumberedBlocks (model_at M)) (sym (part-is a)) (accepted-numbered plain_rules M C (take n (drop at C)) b c a.judged (holds_read plain_rules M b a.model.reads))

    pub merged-written : {after : List ℕ} {r : Answer} → Gives (files_outcome 23 (merged_file (model_at M) (take (at + n - at) (drop at C)) ∷ []) (before ∷ [])) (after ∷ []) r → ReduceAnswered M C before after r
    merged-written {after} {r} g =
        with-demands
        (record {
          gives = gives_as (part-follows a writes_merged (before ∷ []) (room before)) g;
          inside = files-without 23 _ (before ∷ []) (λ (x : rules.Answer). answered r ≡ x → StretchInside (M ∷ C ∷ []) r) (λ number e. without-inside number e) g.answer;
        })
