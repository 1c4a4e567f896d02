-- Document 02, K14: what the call that judges by the strong rule answers, and its demands. 'in a call of its own with a block buffer': what it answers
-- is `outcome_by strong_pairs writes_blocks`, and its numbers are those of document 01's judging.
use Rattle.std.specs.Prelude.{ℕ, List}
use Rattle.rules.specs.definitions.Limits.{current}
use Rattle.rules.specs.definitions.Model.{Model}
use Rattle.rules.specs.definitions.SoundModel.{Bytes}
use Rattle.rules.specs.definitions.Answers.{JudgeNumber, writes_blocks}
use Rattle.rules.specs.definitions.JudgedBy.{plain_pairs, AcceptedBy}
use Rattle.rules.specs.definitions.Demand3.{InOneBlock}
use Rattle.rules.specs.definitions.Demands.{KeepsRulesOn, Demands}
use Rattle.largest_pair.specs.definitions.FewFlows.{FewFlows}
use Rattle.strong_files.specs.definitions.StrongPairs.{strong_pairs}

-- what it keeps when it answers this number, with these bytes in the lent buffers before and after it
pub record StrongDemands (model certificate : List ℕ) (before after : List (List ℕ)) (number : ℕ) : Type 0 where
  -- the demands of every call that judges: 'Strong users get largest blocks in the same sense under this rule'
  pub judged : Demands strong_pairs writes_blocks (JudgeNumber current.terms) model certificate before after number
  -- 'and these lie inside the weak blocks of the same model', of every certificate without costs that is accepted for it
  pub inside : (M : Model) (blocks : List ℕ) → KeepsRulesOn strong_pairs model certificate M blocks → (plain_c plain_blocks : List ℕ) → Bytes plain_c → AcceptedBy plain_pairs model plain_c plain_blocks → (s t : ℕ) → InOneBlock blocks s t → InOneBlock plain_blocks s t
  -- document 02, K13: the same bound
  pub few_flows : FewFlows strong_pairs
