-- What the call that writes the sheet finds, as its promise.
use Rattle.std.specs.Prelude.{ℕ, ◌+◌, ◌-◌, ◌≤◌, ◌≡◌, List, [], ◌∷◌, length, take, drop}
use Rattle.std.proofs.Common.{sym, ◌∙◌, ap, subst, arith}
use Rattle.rules.specs.definitions.Limits.{limits}
use Rattle.rules.specs.definitions.JudgedBy.{plain_pairs}
use Rattle.rules.specs.definitions.PlainRule.{plain_rule}
use Rattle.rules.specs.definitions.Reading.{model_at}
use Rattle.rules.specs.definitions.SoundModel.{Bytes}
use Rattle.rules.specs.definitions.Answers as rules
use Rattle.rules.specs.definitions.Answers.{files_outcome}
use Rattle.rules.specs.definitions.Demands.{outcome_by}
use Rattle.rules.proofs.argument.AnswerLaws.{files-without}
use Rattle.rules.proofs.argument.DemandsHold.{demands-hold}
use Rattle.rules.proofs.argument.JudgedFirst.{Found}
use Rattle.rules.proofs.argument.PlainRules.{plain_rules}
use Rattle.block_sheet.specs.definitions.SheetAnswer.{writes_sheet, SheetNumber}
use Rattle.block_sheet.proofs.argument.SheetJudgedLaws.{sheet-follow, sheet-numbered, found-whole, found-sheeted}
use Rattle.limits.specs.TermsBy.{current_terms}
use Rattle.rule_kind.specs.declared.Kind.TheVariants.{Plain}
use Rattle.answer.specs.declared.Answer.{Answer}
use Rattle.answer.specs.Answered.{answered, StretchInside, Gives, OutcomeIs}
use Rattle.answer.specs.AnsweredLaws.{without-inside, gives_as}
use Rattle.judgement.specs.Verdicts.{AcceptedAt, RefusedAs, RoomFor}
use Rattle.judgement.specs.VerdictLaws.{part-is}
use Rattle.sheet_blocks.specs.Blocks.{sheet_of, ModelBlocks}
use Rattle.sheet.specs.Sheet.{SheetAnswered}

-- no block buffer is lent
room : (C before : List ℕ) → RoomFor (writes_sheet plain_rule C) (before ∷ []) limits.states
room C before N few = (λ h. absurd (omega arith), λ h. absurd (omega arith))

module _ {M C : List ℕ} (b : Bytes M) (c : Bytes C) (before : List ℕ) where
  -- the outcome, with its demands
  with-demands : {after : List ℕ} {r : Answer} → OutcomeIs (outcome_by plain_pairs (writes_sheet plain_rule C) M C (before ∷ [])) (M ∷ C ∷ []) (after ∷ []) r → SheetAnswered M C before after r
  with-demands {after} {r} o =
      let e = ap (λ (x : rules.Answer). x.number) o.gives.answer in
      record {
        outcome = o;
        demands = demands-hold plain_rules (writes_sheet plain_rule C) (sheet-follow plain_rules.limits plain_rules.widths plain_rules.refutations C) M C (before ∷ []) (after ∷ []) r.number b c e o.gives.buffers SheetNumber (subst SheetNumber (sym e) (sheet-numbered M C (before ∷ [])));
      }

  pub pair-refused : {r : Answer} → RefusedAs Plain current_terms M C limits.states r → SheetAnswered M C before before r
  pair-refused a = with-demands (a.refuses (writes_sheet plain_rule C) (before ∷ []) (room C before))

  module _ {n count at : ℕ} (a : AcceptedAt Plain current_terms M C limits.states n count at) where
    abbrev blocks : List ℕ
    blocks = take (at + n - at) (drop at C)

    abbrev found : Found plain_rules M C
    found = record { N = model_at M; end = a.model.end; reads = a.model.reads; blocks = take n (drop at C); judged = a.judged.answers }

    pub blocks-ready : ModelBlocks blocks
    blocks-ready =
        let w = found-whole plain_rules M C b c found in
        subst ModelBlocks (sym (part-is a)) (record { some = w.some; few = w.few; numbered = w.numbered })

    pub sheet-written : {after : List ℕ} {r : Answer} → Gives (files_outcome 28 (sheet_of blocks ∷ []) (before ∷ [])) (after ∷ []) r → SheetAnswered M C before after r
    sheet-written {after} {r} g =
        with-demands
        (record {
          gives = gives_as (ap (λ (l : List ℕ). files_outcome 28 (sheet_of l ∷ []) (before ∷ [])) (part-is a) ∙ found-sheeted plain_rules M C b c found (before ∷ [])) g;
          inside = files-without 28 _ (before ∷ []) (λ (x : rules.Answer). answered r ≡ x → StretchInside (M ∷ C ∷ []) r) (λ number e. without-inside number e) g.answer;
        })
