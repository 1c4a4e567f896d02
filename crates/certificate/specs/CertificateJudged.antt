-- What the judges of the head and of the blocks hand up, in document 01's terms.
use Rattle.std.specs.Prelude.{ℕ, ◌+◌, ◌≡◌, List, Result}
use Rattle.bisimulation.specs.definitions.Pairs.{Pairs}
use Rattle.rules.specs.definitions.Limits.{limits}
use Rattle.rules.specs.definitions.Certificate.{FileRule, certificate_head_fault}
use Rattle.rules.specs.definitions.Judging.{judge_blocks}
use Rattle.fault.specs.declared.Fault.{Fault}
use Rattle.fault.specs.Faults.{Placed}
use Rattle.rule_kind.specs.Kinds.{rule_of}
use Rattle.rule_kind.specs.declared.Kind.{Kind}
use Rattle.pairs.specs.Rows.{HoldsPairs}
use Rattle.transition.specs.Known.{automaton_in}
use Rattle.flows.specs.FlowsJudged.{judgement_of, InFile}

-- 11 to 13 are judged, whatever the model
pub record HeadJudged {T : Type 0} (kind : Kind) (C : List ℕ) (r : Result T Fault) : Type 0 where
  pub is : (s : List ℕ) → Placed (certificate_head_fault limits (rule_of kind s) C) 0 r

-- the blocks record at a place and what follows, judged for the pairs that the rows hold
pub record JudgesBlocks (rule : FileRule) (s C : List ℕ) (n : ℕ) (rows : List ℕ) (at : ℕ) (r : Result ℕ Fault) : Type 0 where
  pub answer : (R : Pairs) → HoldsPairs n R rows → judgement_of C n r ≡ judge_blocks limits rule (automaton_in s) C R at
  pub inside : InFile C n (at + 2) r
