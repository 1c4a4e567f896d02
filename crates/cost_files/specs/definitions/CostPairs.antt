-- Document 02, K6: what a cost pair is judged by, and what is promised of the files.
use Rattle.std.specs.Prelude.{ℕ, ◌≡◌, List}
use Rattle.rules.specs.definitions.Limits.{any_terms, Limits, limits, with_terms, current}
use Rattle.rules.specs.definitions.Model.{Model, automaton_of, HoldOneAutomaton}
use Rattle.rules.specs.definitions.SoundModel.{Bytes}
use Rattle.rules.specs.definitions.Accepted.{Kept}
use Rattle.rules.specs.definitions.JudgedBy.{JudgedBy, plain_pairs_at, AcceptedBy}
use Rattle.rules.specs.definitions.Demand3.{InOneBlock}
use Rattle.costs.specs.definitions.CostStepRule.{CostMet}
use Rattle.cost_files.specs.definitions.CostModel.{cost_of, CostFileOf, costs_in, without_costs}
use Rattle.cost_files.specs.definitions.CostReading.{read_costs}
use Rattle.cost_files.specs.definitions.CostFile.{cost_file}
use Rattle.cost_files.specs.definitions.CostSays.{cost_says}

-- two cost model files hold one automaton with the same costs: what is promised of two files that hold one automaton is of these, each judged with
-- its own costs
pub record HoldOneWithCosts (model other : List ℕ) (M N : Model) : Type 0 where
  pub automaton : HoldOneAutomaton M N
  pub costs : costs_in model ≡ costs_in other

-- cost models within given limits, each with the step rule of its own costs
abbrev pub cost_pairs_at : Limits → JudgedBy
cost_pairs_at L =
    record {
      limits = L;
      read = read_costs L;
      spelled = read_costs (with_terms any_terms L);
      is_file = CostFileOf L;
      file = λ model. cost_file (costs_in model);
      says = λ model. cost_says (costs_in model);
      met = λ model. CostMet (cost_of (costs_in model));
      one_automaton = HoldOneWithCosts;
    }

-- as the calls judge them
abbrev pub cost_pairs : JudgedBy
cost_pairs = cost_pairs_at current

-- with whatever terms
abbrev pub stored_costs : JudgedBy
stored_costs = cost_pairs_at limits

-- the bytes are those of a sound model with costs, and the certificate keeps every rule with these costs and names these blocks
pub record KeptWithCosts (bytes C blocks : List ℕ) : Type 0 where
  pub M : Model
  pub file : CostFileOf current bytes M
  pub kept : Kept current (cost_says file.costs) (cost_file file.costs).mark (automaton_of M) C blocks

-- 'accepted cost blocks must lie inside the accepted blocks of the same model without costs'
unfoldable pub CostBlocksInside : Limits → Type 0
CostBlocksInside L = (bytes C blocks plain_c plain_blocks : List ℕ) → Bytes bytes → Bytes C → Bytes plain_c → AcceptedBy (cost_pairs_at L) bytes C blocks → AcceptedBy (plain_pairs_at L) (without_costs bytes) plain_c plain_blocks → (s t : ℕ) → InOneBlock blocks s t → InOneBlock plain_blocks s t
