-- Document 02, K2, of cost pairs: 20 and 21 come from document 01's equations, in their order, before 30.
use Rattle.std.specs.Prelude.{ℕ, List}
use Rattle.std.proofs.Common.{inl, inr, ⊎_elim, arith}
use Rattle.bisimulation.proofs.argument.ChoiceLaws.{either_same}
use Rattle.rules.specs.definitions.Limits.{current}
use Rattle.rules.specs.definitions.Faults.{Fault}
use Rattle.rules.specs.definitions.PlainRule.{by_kind}
use Rattle.rules.specs.definitions.Answers.{Follows}
use Rattle.rules.specs.definitions.Demands.{outcome_by}
use Rattle.rules.proofs.argument.AnyRule.{RefusalOf}
use Rattle.rules.proofs.argument.FaultLaws.{either_first}
use Rattle.rules.proofs.argument.PlainRules.{PlainNumber, ModelNumber}
use Rattle.rules.proofs.argument.PairOutcome.{FollowsLaws}
use Rattle.rules.proofs.argument.BreakOrder.{InOrder, equation_kinds, plain-order}
use Rattle.rules.proofs.argument.BreakJudged.{read-unbroken, Broken, Unbroken, TellsBreaks, unbroken, AnswerBreaks, break-answered, internal-unbroken, external-unbroken}
use Rattle.costs.specs.definitions.CostPrices.{price_with_cost}
use Rattle.cost_files.specs.definitions.CostModel.{cost_of}
use Rattle.cost_files.specs.definitions.CostFile.{cost_prices_fault, cost_equation_fault, cost_equations_fault, cost_file}
use Rattle.cost_files.specs.definitions.CostPairs.{cost_pairs}
use Rattle.cost_files.proofs.argument.CostCertificates.{CostNumber}
use Rattle.cost_files.proofs.argument.CostReadingLaws.{CostModelNumber}
use Rattle.cost_files.proofs.argument.CostRules.{cost_rules}

pub cost-breaks : (costs : List ℕ) → TellsBreaks equation_kinds (cost_file costs)
unfolding cost_prices_fault cost_equations_fault cost_equation_fault by_kind
cost-breaks costs =
    record {
      prices = λ A R q t p.
          either_same Unbroken _ _ (internal-unbroken A (price_with_cost (cost_of costs) A _) R q t _ _) (external-unbroken A (price_with_cost (cost_of costs) A _) R q t _ _ _);
      equations = λ A q t x l.
          either_first (λ (f : Fault). Broken f → InOrder A.states (equation_kinds A q t x) f) _ _ (λ b. plain-order A q t x)
          (λ b. absurd (either_same Unbroken _ _ (unbroken 0 (omega arith) (omega arith)) (unbroken 30 (omega arith) (omega arith)) b));
    }

-- a call that judges cost pairs
pub cost-break-answered : (M C : List ℕ) (follows : Follows) → FollowsLaws cost_rules follows → (before : List (List ℕ)) → AnswerBreaks cost_rules equation_kinds M C (outcome_by cost_pairs follows M C before).answer
unfolding RefusalOf PlainNumber ModelNumber CostNumber CostModelNumber
cost-break-answered M C =
    break-answered cost_rules equation_kinds M C (cost-breaks _)
    (λ k h. ⊎_elim (λ x. read-unbroken current.terms k x.1) (λ x. unbroken k (λ z. omega (arith, x, z)) (λ z. omega (arith, x, z))) h)
    (inr (inr (inl (inr (omega arith, omega arith))))) (inr (inr (inl (inr (omega arith, omega arith)))))
