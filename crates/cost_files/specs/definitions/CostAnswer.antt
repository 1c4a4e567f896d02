-- Document 02, K6: what the call that judges cost pairs answers, and its demands.
use Rattle.std.specs.Prelude.{ℕ, ◌≤◌, ◌≡◌, ◌⊎◌, List, ◌++◌}
use Rattle.rules.specs.definitions.Limits.{Terms, Limits, current}
use Rattle.rules.specs.definitions.Model.{Model}
use Rattle.rules.specs.definitions.SoundModel.{Bytes}
use Rattle.rules.specs.definitions.Accepted.{FileOf}
use Rattle.rules.specs.definitions.JudgedBy.{plain_pairs_at, AcceptedBy}
use Rattle.rules.specs.definitions.Demand3.{InOneBlock}
use Rattle.rules.specs.definitions.Answers.{Follows, writes_blocks, JudgeNumber}
use Rattle.rules.specs.definitions.Demands.{PairDemands, KeepsRulesOn, Demands}
use Rattle.cost_files.specs.definitions.CostModel.{costs_bytes, CostFileOf, costs_in, without_costs}
use Rattle.cost_files.specs.definitions.CostPairs.{cost_pairs_at}

-- 'Cost pairs have a judging call of their own, with a block buffer': what it answers is `outcome_by cost_pairs writes_blocks`. Its numbers: those of
-- document 01's judging, '29, cost above 63', and '30, the cost equation breaks'
unfoldable pub CostJudgeNumber : Terms → ℕ → Type 0
CostJudgeNumber terms k = JudgeNumber terms k ⊎ ((k ≡ 29) ⊎ (k ≡ 30))

-- what a call that judges cost pairs within limits, with what follows acceptance and with these numbers, keeps when it answers this number, with these
-- bytes in the lent buffers before and after it
pub record CostDemands (L : Limits) (follows : Follows) (numbers : ℕ → Type 0) (model certificate : List ℕ) (before after : List (List ℕ)) (number : ℕ) : Type 0 where
  -- the demands of every call that judges, by the rule with the costs that stand in the model file: 'What is promised of largest relations is wanted
  -- here too'
  pub judged : Demands (cost_pairs_at L) follows numbers model certificate before after number
  -- these are the costs of the model whose file it is
  pub own : (M : Model) (f : CostFileOf L model M) → costs_in model ≡ f.costs
  -- 'the same model without costs' is that model's file, and the cost record follows it
  pub without : (M : Model) → CostFileOf L model M → FileOf L (without_costs model) M
  pub behind : (M : Model) (f : CostFileOf L model M) → model ≡ without_costs model ++ costs_bytes f.costs
  -- 'accepted cost blocks must lie inside the accepted blocks of the same model without costs', of every certificate without costs
  pub inside : (M : Model) (blocks : List ℕ) → KeepsRulesOn (cost_pairs_at L) model certificate M blocks → (plain_c plain_blocks : List ℕ) → Bytes plain_c → AcceptedBy (plain_pairs_at L) (without_costs model) plain_c plain_blocks → (s t : ℕ) → InOneBlock blocks s t → InOneBlock plain_blocks s t

-- the call that judges them
abbrev pub CostJudgeDemands : PairDemands
CostJudgeDemands = CostDemands current writes_blocks (CostJudgeNumber current.terms)
