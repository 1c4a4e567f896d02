-- What the calls that judge promise, in the definitions of documents 01 and 02.
use Rattle.std.specs.Prelude.{ℕ, List, [], ◌∷◌, ℤ}
use Rattle.rules.specs.definitions.Limits.{current}
use Rattle.rules.specs.definitions.JudgedBy.{plain_pairs}
use Rattle.rules.specs.definitions.Answers.{writes_blocks, JudgeNumber}
use Rattle.rules.specs.definitions.Demands.{PairDemands, outcome_by, Demands}
use Rattle.cost_files.specs.definitions.CostAnswer.{CostJudgeDemands}
use Rattle.limits.specs.TermsBy.{current_terms}
use Rattle.strong_files.specs.definitions.StrongAnswer.{StrongDemands}
use Rattle.rule_kind.specs.Kinds.{pairs_by}
use Rattle.rule_kind.specs.declared.Kind.{Kind}
use Rattle.rule_kind.specs.declared.Kind.TheVariants.{Plain, Costs, Strong}
use Rattle.answer.specs.declared.Answer.{Answer}
use Rattle.answer.specs.Handing.{CallHandedBack}
use Rattle.judgement.specs.Verdicts.{PairAnswered}

-- their demands, by the step rule
abbrev pub judge_demands : Kind → PairDemands
judge_demands Plain = Demands plain_pairs writes_blocks (JudgeNumber current.terms)
judge_demands Costs = CostJudgeDemands
judge_demands Strong = StrongDemands

-- a pair judged by the step rule, the blocks written into the lent block buffer
abbrev pub JudgeAnswered : Kind → (model certificate before after : List ℕ) → Answer → Type 0
JudgeAnswered kind model certificate before after r =
    PairAnswered (pairs_by kind current_terms) writes_blocks (judge_demands kind) model certificate (before ∷ []) (after ∷ []) r

-- the same by document 01's rule, with the stretch as a part of the file that it names. The slices are where the files lie, `lying` where the part does
abbrev pub JudgeHandedBack : (model certificate before after : List ℕ) (model_slice certificate_slice : ℕ × ℕ) (number file place state : ℕ) (remainder : ℤ) (written : ℕ) (part : List ℕ) (lying : ℕ × ℕ) → Type 0
JudgeHandedBack model certificate before after model_slice certificate_slice number file place state remainder written =
    CallHandedBack (outcome_by plain_pairs writes_blocks model certificate (before ∷ [])) (model ∷ certificate ∷ []) (model_slice ∷ certificate_slice ∷ []) (after ∷ []) (judge_demands Plain model certificate (before ∷ []) (after ∷ [])) number file place state remainder (written ∷ [])
