-- Document 02, K6: 'accepted cost blocks must lie inside the accepted blocks of the same model without costs'. What is met with costs is met
-- without, so the largest relation with costs lies inside the one without.
use Rattle.std.specs.Prelude.{ℕ}
use Rattle.bisimulation.specs.definitions.Automaton.{Automaton}
use Rattle.bisimulation.specs.definitions.StepRule.{Met, MeetsStepRule}
use Rattle.bisimulation.specs.definitions.Largest.{Bisimulation, LargestBisimulation, LargestPairs}
use Rattle.bisimulation.proofs.argument.InsideOf.{Implies, meets_inside, bisimulation_inside, largest_inside, pairs_inside}
use Rattle.costs.specs.definitions.CostStepRule.{CostMet}

module _ {cost : ℕ → ℕ} {A : Automaton} where
  -- a question, a relation, a symmetric one that keeps labels
  pub met_without_costs : {W : ℕ → ℕ → Type 0} {q t : ℕ} → CostMet cost A W q t → Met A W q t
  met_without_costs m = record { internal = λ e. (m.internal e).plain; external = λ n. (m.external n).plain }

  without_costs : Implies (CostMet cost) Met A
  without_costs W q t m = met_without_costs m

  pub meets_without_costs : {W : ℕ → ℕ → Type 0} → MeetsStepRule (CostMet cost) A W → MeetsStepRule Met A W
  meets_without_costs = meets_inside without_costs

  pub bisimulation_without_costs : {W : ℕ → ℕ → Type 0} → Bisimulation (CostMet cost) A W → Bisimulation Met A W
  bisimulation_without_costs = bisimulation_inside without_costs

  -- of the two largest relations, and for relations that are sets of pairs
  pub costs_inside : {Costs Plain : ℕ → ℕ → Type 0} → LargestBisimulation (CostMet cost) A Costs → LargestBisimulation Met A Plain → (s t : ℕ) → Costs s t → Plain s t
  costs_inside = largest_inside without_costs

  pub cost_pairs_inside : {Costs Plain : ℕ → ℕ → Type 0} → LargestPairs (CostMet cost) A Costs → LargestPairs Met A Plain → (s t : ℕ) → Costs s t → Plain s t
  cost_pairs_inside = pairs_inside without_costs
