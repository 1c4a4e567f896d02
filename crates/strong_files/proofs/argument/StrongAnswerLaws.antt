-- The call that judges by the strong rule keeps its demands.
use Rattle.std.specs.Prelude.{ℕ, ◌<◌, ◌≡◌, List, length}
use Rattle.std.proofs.Common.{sym, subst}
use Rattle.rules.specs.definitions.Limits.{current}
use Rattle.rules.specs.definitions.SoundModel.{Bytes}
use Rattle.rules.specs.definitions.Answers.{left_in, first_lent, writes_blocks, JudgeNumber}
use Rattle.rules.specs.definitions.Demands.{outcome_by}
use Rattle.rules.proofs.argument.AcceptedExactly.{accepted-exactly}
use Rattle.rules.proofs.argument.DemandsHold.{accepted-of, demands-hold, blocks-follow, whole-numbered, whole-short}
use Rattle.strong_files.specs.definitions.StrongPairs.{strong_pairs, StrongBlocksInside}
use Rattle.strong_files.specs.definitions.StrongAnswer.{StrongDemands}
use Rattle.strong_files.proofs.argument.StrongCertificates.{strong_certificates}
use Rattle.strong_files.proofs.argument.StrongRules.{strong_rules, strong-few-flows, strong-inside}

module _ (model certificate : List ℕ) (before : List (List ℕ)) where
  -- the call answers a number of reading, or one of 10 to 22
  pub strong-judge-numbered : JudgeNumber current.terms (outcome_by strong_pairs writes_blocks model certificate before).answer.number
  strong-judge-numbered = whole-numbered strong_rules.limits strong_rules.widths strong_rules.refutations strong_certificates model certificate before

  -- with 10 only for a block buffer of less than 128 bytes
  pub strong-blocks-short : Bytes model → (outcome_by strong_pairs writes_blocks model certificate before).answer.number ≡ 10 → length (first_lent before) < 128
  strong-blocks-short = whole-short strong_rules.limits strong_rules.widths strong_rules.refutations strong_certificates model certificate before

  -- the demands follow from what it answers, and leaves in the buffer
  pub strong-demands : (after : List (List ℕ)) (number : ℕ) → Bytes model → Bytes certificate → number ≡ (outcome_by strong_pairs writes_blocks model certificate before).answer.number → after ≡ left_in (outcome_by strong_pairs writes_blocks model certificate before) → StrongDemands model certificate before after number
  unfolding StrongBlocksInside
  strong-demands after number b c e left =
      record {
        judged = demands-hold strong_rules writes_blocks blocks-follow model certificate before after number b c e left (JudgeNumber current.terms) (subst (JudgeNumber current.terms) (sym e) strong-judge-numbered);
        inside = λ M blocks kept plain_c plain_blocks pc.
            strong-inside strong_rules.limits strong_rules.widths strong_rules.refutations model certificate blocks plain_c plain_blocks b c pc
            ((accepted-exactly strong_rules model certificate blocks b c).1 (accepted-of strong_rules model certificate blocks b M kept));
        few_flows = strong-few-flows;
      }
