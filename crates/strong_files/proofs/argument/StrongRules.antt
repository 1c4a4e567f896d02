-- Document 02, K14: demands 2 and 3 of pairs judged by the strong rule, and that accepted strong blocks lie inside the accepted weak blocks.
use Rattle.std.specs.Prelude.{ℕ, ◌<◌, ◌↔◌, List}
use Rattle.std.proofs.Common.{arith}
use Rattle.rules.specs.definitions.Limits.{Limits, current}
use Rattle.rules.specs.definitions.SoundModel.{Bytes, FitsWidths}
use Rattle.rules.proofs.argument.SoundModelLaws.{current-fit}
use Rattle.rules.specs.definitions.Accepted.{FileOf, Accepted}
use Rattle.rules.specs.definitions.Demand3.{Demand3}
use Rattle.rules.specs.definitions.JudgedBy.{AcceptedBy}
use Rattle.rules.proofs.argument.AnyRule.{PairRules}
use Rattle.rules.proofs.argument.AcceptedExactly.{accepted-exactly}
use Rattle.rules.proofs.argument.Demand3Holds.{demand3, facts-of, holds}
use Rattle.rules.proofs.argument.PlainRules.{whole_rules, plain_rules_at}
use Rattle.largest_pair.specs.definitions.FewFlows.{FewFlows}
use Rattle.largest_pair.proofs.argument.FewFlowsLaws.{few-flows}
use Rattle.strong.proofs.argument.StrongInside.{strong_inside}
use Rattle.strong_files.specs.definitions.StrongSays.{strong_says}
use Rattle.strong_files.specs.definitions.StrongPairs.{strong_pairs, StrongBlocksInside}
use Rattle.strong_files.proofs.argument.StrongCertificates.{strong_certificates}

-- document 01's model files and the strong step rule, within given limits
abbrev pub strong_rules_at : (L : Limits) → FitsWidths L → L.refutations < 65536 → PairRules
strong_rules_at L widths few = whole_rules L widths few strong_certificates

-- as the call judges them
abbrev pub strong_rules : PairRules
strong_rules = strong_rules_at current current-fit (omega arith)

-- demand 2: accepted exactly when K14's rules are kept; the mark of the certificate's head is 43 53
pub strong-accepted : (bytes C blocks : List ℕ) → Bytes bytes → Bytes C → AcceptedBy strong_pairs bytes C blocks ↔ Accepted current (FileOf current) strong_says 0x4353 bytes C blocks
strong-accepted = accepted-exactly strong_rules

-- 'Strong users get largest blocks in the same sense under this rule': demand 3
pub strong-demand3 : Demand3 strong_pairs
strong-demand3 = demand3 strong_rules

-- document 02, K13: no more than T times (n-1) flow records
pub strong-few-flows : FewFlows strong_pairs
strong-few-flows = few-flows strong_rules

-- 'and these lie inside the weak blocks of the same model'
pub strong-inside : (L : Limits) → FitsWidths L → L.refutations < 65536 → StrongBlocksInside L
unfolding StrongBlocksInside
strong-inside L widths few bytes C blocks plain_c plain_blocks b c pc a p =
    let by = strong_rules_at L widths few in
    let k = (accepted-exactly by bytes C blocks b c).0 a in
    let h = holds by bytes C blocks b k in
    strong_inside (facts-of by bytes C blocks b c a k.M h).largest (facts-of (plain_rules_at L widths few) bytes plain_c plain_blocks b pc p k.M h).largest
