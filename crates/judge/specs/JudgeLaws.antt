-- What a call that judges finds, as its promise.
use Rattle.std.specs.Prelude.{ℕ, ◌+◌, ◌-◌, ◌≤◌, ◌≡◌, refl, List, [], ◌∷◌, ◌++◌, length, take, drop}
use Rattle.std.proofs.Common.{sym, ◌∙◌, ap, subst, take_all, arith}
use Rattle.rules.specs.definitions.SoundModel.{Bytes}
use Rattle.rules.specs.definitions.Limits.{current}
use Rattle.rules.specs.definitions.JudgedBy.{plain_pairs}
use Rattle.rules.specs.definitions.Answers as rules
use Rattle.rules.specs.definitions.Answers.{answer_without_place, filled, writes_blocks, JudgeNumber}
use Rattle.rules.specs.definitions.Demands.{outcome_by}
use Rattle.rules.proofs.argument.PlainRules.{plain_rules}
use Rattle.rules.proofs.argument.DemandsHold.{demands-hold, blocks-follow, judge-numbered}
use Rattle.cost_files.proofs.argument.CostAnswerLaws.{cost-demands-hold}
use Rattle.limits.specs.TermsBy.{current_terms}
use Rattle.strong_files.proofs.argument.StrongAnswerLaws.{strong-demands}
use Rattle.rule_kind.specs.Kinds.{pairs_by}
use Rattle.rule_kind.specs.declared.Kind.{Kind}
use Rattle.rule_kind.specs.declared.Kind.TheVariants.{Plain, Costs, Strong}
use Rattle.answer.specs.declared.Answer.{Answer}
use Rattle.answer.specs.Answered.{Says, Gives, OutcomeIs}
use Rattle.answer.specs.AnsweredLaws.{gives-filled, gives_as, without-stretch}
use Rattle.judgement.specs.Verdicts.{AcceptedAt, RefusedAs, RoomFor}
use Rattle.judgement.specs.VerdictLaws.{part-size, part-follows}
use Rattle.judge.specs.Judge.{judge_demands, JudgeAnswered}

-- the blocks were copied
pub copied : (blocks before after : List ℕ) {r : Answer} → after ≡ take (length blocks) blocks ++ drop (length blocks) before → Says (answer_without_place 0) (length blocks) r → Gives (filled (blocks ∷ []) (before ∷ [])) (after ∷ []) r
copied blocks before after e s =
    gives-filled blocks before s (e ∙ ap (λ (l : List ℕ). l ++ drop (length blocks) before) (take_all (length blocks) blocks (omega arith))) refl

-- a block buffer has the room that it has
room : (before : List ℕ) → RoomFor writes_blocks (before ∷ []) (length before)
room before N few = (λ h. h, λ h. h)

module _ (kind : Kind) {M C : List ℕ} (b : Bytes M) (c : Bytes C) (before : List ℕ) where
  -- the outcome, with its demands
  with-demands : {after : List ℕ} {r : Answer} → OutcomeIs (outcome_by (pairs_by kind current_terms) writes_blocks M C (before ∷ [])) (M ∷ C ∷ []) (after ∷ []) r → JudgeAnswered kind M C before after r
  with-demands {after} {r} o = record { outcome = o; demands = go kind o }
    where
      go : (k : Kind) → OutcomeIs (outcome_by (pairs_by k current_terms) writes_blocks M C (before ∷ [])) (M ∷ C ∷ []) (after ∷ []) r → judge_demands k M C (before ∷ []) (after ∷ []) r.number
      go Plain o =
          let e = ap (λ (x : rules.Answer). x.number) o.gives.answer in
          demands-hold plain_rules writes_blocks blocks-follow M C (before ∷ []) (after ∷ []) r.number b c e o.gives.buffers (JudgeNumber current.terms) (subst (JudgeNumber current.terms) (sym e) (judge-numbered M C (before ∷ [])))
      go Costs o = cost-demands-hold M C (before ∷ []) (after ∷ []) r.number b c (ap (λ (x : rules.Answer). x.number) o.gives.answer) o.gives.buffers
      go Strong o = strong-demands M C (before ∷ []) (after ∷ []) r.number b c (ap (λ (x : rules.Answer). x.number) o.gives.answer) o.gives.buffers

  pub pair-refused : {r : Answer} → RefusedAs kind current_terms M C (length before) r → JudgeAnswered kind M C before before r
  pair-refused a = with-demands (a.refuses writes_blocks (before ∷ []) (room before))

  module _ {n count at : ℕ} (a : AcceptedAt kind current_terms M C (length before) n count at) where
    pub blocks-fit : length (take (at + n - at) (drop at C)) ≤ length before
    blocks-fit = omega (arith, part-size a, a.fits)

    pub blocks-written : {after : List ℕ} {r : Answer} → Gives (filled (take (at + n - at) (drop at C) ∷ []) (before ∷ [])) (after ∷ []) r → JudgeAnswered kind M C before after r
    unfolding filled answer_without_place
    blocks-written g = with-demands (without-stretch 0 g.answer (gives_as (part-follows a writes_blocks (before ∷ []) (room before)) g))
