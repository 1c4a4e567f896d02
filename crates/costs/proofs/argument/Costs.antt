-- The step rule with costs has all that a certificate needs.
use Rattle.std.specs.Prelude.{ℕ}
use Rattle.bisimulation.specs.definitions.Rule.{Rule}
use Rattle.costs.specs.definitions.CostStepRule.{CostMet}
use Rattle.costs.specs.definitions.CostRefutation.{CostRefutes}
use Rattle.costs.proofs.argument.CostDuality.{cost_duality}
use Rattle.costs.proofs.argument.CostMoves.{cost_own, cost_respelled, cost_wider}

-- the rule for the costs of one model
abbrev pub cost_rule : (cost : ℕ → ℕ) → Rule
cost_rule cost =
    record {
      met = CostMet cost;
      refutes = CostRefutes cost;
      duality = cost_duality cost;
      own = cost_own cost;
      respelled = cost_respelled cost;
      wider = cost_wider cost;
    }
