-- What the call that reduces promises, in the definitions of documents 01 and 02, K8.
use Rattle.std.specs.Prelude.{List, [], ◌∷◌, ℕ}
use Rattle.rules.specs.definitions.JudgedBy.{plain_pairs}
use Rattle.quotient.specs.definitions.ReduceAnswer.{writes_merged}
use Rattle.replacement.specs.definitions.Replacement.{ReduceDemands}
use Rattle.answer.specs.declared.Answer.{Answer}
use Rattle.judgement.specs.Verdicts.{PairAnswered}

-- a pair judged by document 01's rules, the merged model written into the lent buffer
abbrev pub ReduceAnswered : (model certificate before after : List ℕ) → Answer → Type 0
ReduceAnswered model certificate before after r =
    PairAnswered plain_pairs writes_merged ReduceDemands model certificate (before ∷ []) (after ∷ []) r
