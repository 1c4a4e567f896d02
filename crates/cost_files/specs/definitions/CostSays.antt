-- Document 02, K6: the step rule with costs, as what it says of a certificate in plain propositions.
use Rattle.std.specs.Prelude.{ℕ, List}
use Rattle.bisimulation.specs.definitions.Automaton.{Automaton}
use Rattle.bisimulation.specs.definitions.StepRule.{Flow, Holds}
use Rattle.rules.specs.definitions.Accepted.{RuleSays}
use Rattle.rules.specs.definitions.PlainSays.{PlainEquations, plain_says}
use Rattle.costs.specs.definitions.CostStepRule.{cost_equation}
use Rattle.costs.specs.definitions.CostRefutation.{CostRefutes}
use Rattle.cost_files.specs.definitions.CostModel.{cost_of}
use Rattle.cost_files.specs.definitions.CostFile.{cost_price_count}

-- 'The step rule gains one equation'
pub record CostEquations (cost : ℕ → ℕ) (A : Automaton) (q t : ℕ) (f : Flow) : Type 0 where
  pub plain : PlainEquations A q t f
  pub costs : Holds (cost_equation cost A f q)

abbrev pub cost_says : (costs : List ℕ) → RuleSays
cost_says costs =
    record {
      price_count = cost_price_count;
      refutes = CostRefutes (cost_of costs);
      in_question = plain_says.in_question;
      equations = CostEquations (cost_of costs);
    }
