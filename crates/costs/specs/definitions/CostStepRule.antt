-- Document 02, K6: 'Radio designers attach a cost to each transition .. The step rule gains one equation'.
use Rattle.std.specs.Prelude.{ℕ, ◌*◌, ◌≡◌, ◌≢◌}
use Rattle.bisimulation.specs.definitions.Choice.{if_same}
use Rattle.bisimulation.specs.definitions.Sum.{sum}
use Rattle.bisimulation.specs.definitions.Automaton.{Automaton}
use Rattle.bisimulation.specs.definitions.StepRule.{Flow, Sides, Holds, MetInternal, MetExternal}

-- 'all layers': layer 0 alone for an internal challenger, layers 0, 1 and 2 for an external one
unfoldable pub layers : Automaton → ℕ → ℕ
layers A q = if_same (A.action q) 0 1 3

-- the cost of each transition
module _ (cost : ℕ → ℕ) where
  module _ (A : Automaton) where
    -- 'the sum of k times d times cost' over one layer
    unfoldable pub cost_of_layer : (ℕ → ℕ) → ℕ
    cost_of_layer k = sum A.transitions (λ r. k r * A.denominator r * cost r)

    -- 'the sum of k times d times cost over all layers equals the challenger's cost times D'
    unfoldable pub cost_equation : Flow → ℕ → Sides
    cost_equation f q =
        record {
          left = sum (layers A q) (λ layer. cost_of_layer (f.k layer));
          right = cost q * f.D;
        }

  -- the question of an internal challenger is met as without costs, by a flow that keeps the cost equation too
  pub record CostMetInternal (A : Automaton) (W : ℕ → ℕ → Type 0) (q t : ℕ) : Type 0 where
    pub plain : MetInternal A W q t
    pub costs : Holds (cost_equation A plain.flow q)

  -- the same for an external challenger
  pub record CostMetExternal (A : Automaton) (W : ℕ → ℕ → Type 0) (q t : ℕ) : Type 0 where
    pub plain : MetExternal A W q t
    pub costs : Holds (cost_equation A plain.flow q)

  -- by the challenger's kind
  pub record CostMet (A : Automaton) (W : ℕ → ℕ → Type 0) (q t : ℕ) : Type 0 where
    pub internal : A.action q ≡ 0 → CostMetInternal A W q t
    pub external : A.action q ≢ 0 → CostMetExternal A W q t
