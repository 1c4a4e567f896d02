-- The call that judges cost pairs keeps its demands.
use Rattle.std.specs.Prelude.{ℕ, ◌≤◌, ◌<◌, ◌≡◌, ◌⊎◌, length}
use Rattle.std.proofs.Common.{sym, ◌∙◌, subst, inr}
use Rattle.std.proofs.Math.Path.{ap}
use Rattle.std.proofs.Math.Logic.{inl, ⊎_elim}
use mathlib.Core.List.{List, ◌++◌}
use native.Mathlib.Omega.{arith}
use Rattle.rules.specs.definitions.Limits.{Limits, current}
use Rattle.rules.specs.definitions.SoundModel.{Bytes, FitsWidths}
use Rattle.rules.specs.definitions.Reading.{ReadNumber}
use Rattle.rules.specs.definitions.Answers.{left_in, Follows, first_lent, writes_blocks, JudgeNumber}
use Rattle.rules.specs.definitions.Demands.{outcome_by}
use Rattle.rules.proofs.argument.ReadingLaws.{read_low, read-not-ten}
use Rattle.rules.proofs.argument.AcceptedExactly.{accepted-exactly}
use Rattle.rules.proofs.argument.AnyRule.{AnyCertificateNumber, RefusalOf}
use Rattle.rules.proofs.argument.PlainRules.{PlainNumber, ModelNumber}
use Rattle.rules.proofs.argument.PairOutcome.{FollowsLaws, outcome-number}
use Rattle.rules.proofs.argument.DemandsHold.{demands-hold, none-late, blocks-follow, blocks-short}
use Rattle.cost_files.specs.definitions.CostModel.{costs_bytes, cost_model_bytes}
use Rattle.cost_files.specs.definitions.CostPairs.{cost_pairs_at, cost_pairs, CostBlocksInside}
use Rattle.cost_files.specs.definitions.CostAnswer.{CostJudgeNumber, CostDemands, CostJudgeDemands}
use Rattle.cost_files.proofs.argument.CostCertificates.{CostNumber}
use Rattle.cost_files.proofs.argument.CostReadingLaws.{CostModelNumber, costs-in, without-costs}
use Rattle.cost_files.proofs.argument.CostRules.{cost_rules_at, cost_rules, cost-blocks-inside}

-- a refusal of judging a cost pair: one of reading, 11 to 22, 29 or 30
pub cost-refusal : (L : Limits) (widths : FitsWidths L) (few : L.refutations < 65536) (k : ℕ) → RefusalOf (cost_rules_at L widths few) k → ReadNumber L.terms k ⊎ (((11 ≤ k) × (k ≤ 22)) ⊎ ((k ≡ 29) ⊎ (k ≡ 30)))
unfolding RefusalOf AnyCertificateNumber PlainNumber ModelNumber CostNumber CostModelNumber
cost-refusal L widths few k h =
    ⊎_elim (⊎_elim (λ x. inl x.1) (λ x. inr (inr (inl x))))
    (⊎_elim (⊎_elim (λ x. later (omega (arith, x), omega (arith, x))) (⊎_elim (λ x. later (omega (arith, x), omega (arith, x))) (λ x. later (omega (arith, x), omega (arith, x)))))
    (⊎_elim (⊎_elim (λ x. later (omega (arith, x), omega (arith, x))) (λ x. later (omega (arith, x), omega (arith, x)))) (λ x. inr (inr (inr x)))))
    h
  where
    later : (11 ≤ k) × (k ≤ 22) → ReadNumber L.terms k ⊎ (((11 ≤ k) × (k ≤ 22)) ⊎ ((k ≡ 29) ⊎ (k ≡ 30)))
    later x = inr (inl x)

today : (k : ℕ) → RefusalOf cost_rules k → ReadNumber current.terms k ⊎ (((11 ≤ k) × (k ≤ 22)) ⊎ ((k ≡ 29) ⊎ (k ≡ 30)))
today = cost-refusal cost_rules.limits cost_rules.widths cost_rules.refutations

not-ten : RefusalOf cost_rules 10 → ⊥
not-ten h = ⊎_elim (λ x. read-not-ten current.terms x) (⊎_elim (λ x. omega (arith, x)) (⊎_elim (λ x. omega (arith, x)) (λ x. omega (arith, x)))) (today 10 h)

module _ (model certificate : List ℕ) (before : List (List ℕ)) where
  -- the call answers one of its numbers
  pub cost-judge-numbered : CostJudgeNumber current.terms (outcome_by cost_pairs writes_blocks model certificate before).answer.number
  unfolding CostJudgeNumber JudgeNumber
  cost-judge-numbered =
      outcome-number cost_rules writes_blocks blocks-follow model certificate before (CostJudgeNumber current.terms) (inl (inl (read_low current.terms 0 (omega arith)))) (λ k z. absurd (none-late z))
      (λ k h. ⊎_elim (λ x. inl (inl x)) (⊎_elim (λ x. inl (inr (omega (arith, x), x.1))) inr) (today k h)) (λ N h. inl (inr (omega arith, omega arith)))

  -- with 10 only for a block buffer of less than 128 bytes
  pub cost-blocks-short-today : Bytes model → (outcome_by cost_pairs writes_blocks model certificate before).answer.number ≡ 10 → length (first_lent before) < 128
  cost-blocks-short-today = blocks-short cost_rules not-ten model certificate before

  -- within limits the demands follow from what a call answers, and leaves in the buffers, whatever follows acceptance
  module _ (L : Limits) (widths : FitsWidths L) (few : L.refutations < 65536) (follows : Follows) (laws : FollowsLaws (cost_rules_at L widths few) follows) where
    pub cost-demands : (after : List (List ℕ)) (number : ℕ) → Bytes model → Bytes certificate → number ≡ (outcome_by (cost_pairs_at L) follows model certificate before).answer.number → after ≡ left_in (outcome_by (cost_pairs_at L) follows model certificate before) → (numbers : ℕ → Type 0) → numbers number → CostDemands L follows numbers model certificate before after number
    unfolding CostBlocksInside
    cost-demands after number b c e left numbers known =
        let by = cost_rules_at L widths few in
        record {
          judged = demands-hold by follows laws model certificate before after number b c e left numbers known;
          own = λ M f. costs-in L widths model M f;
          without = λ M f. record { sound = f.sound; encoded = without-costs L widths model M f };
          behind = λ M f. unfold cost_model_bytes in f.encoded ∙ ap (λ (l : List ℕ). l ++ costs_bytes f.costs) (sym (without-costs L widths model M f));
          inside = λ M blocks kept plain_c plain_blocks pc p.
              cost-blocks-inside L widths few model certificate blocks plain_c plain_blocks b c pc
              ((accepted-exactly by model certificate blocks b c).1 (record { M = M; file = kept.file; kept = kept.kept })) p;
        }

  -- so those of the call that judges
  pub cost-demands-hold : (after : List (List ℕ)) (number : ℕ) → Bytes model → Bytes certificate → number ≡ (outcome_by cost_pairs writes_blocks model certificate before).answer.number → after ≡ left_in (outcome_by cost_pairs writes_blocks model certificate before) → CostJudgeDemands model certificate before after number
  cost-demands-hold after number b c e left =
      cost-demands cost_rules.limits cost_rules.widths cost_rules.refutations writes_blocks blocks-follow after number b c e left
      (CostJudgeNumber current.terms) (subst (CostJudgeNumber current.terms) (sym e) cost-judge-numbered)
