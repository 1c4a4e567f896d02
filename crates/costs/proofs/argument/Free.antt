-- Where every cost is 0, what is met with costs is what is met without, and L's term is 0.
use Rattle.std.specs.Prelude.{ℕ, ◌≡◌, ◌↔◌, ℤ, ◌+ℤ◌, ◌*ℤ◌}
use Rattle.std.proofs.Math.Path.{sym, ap}
use Rattle.std.proofs.Common.{◌∙◌, zero-mul, arith}
use Rattle.std.proofs.Math.IntN.{pos, +ℤ_idr, zero-*ℤ}
use Rattle.bisimulation.specs.definitions.Automaton.{Automaton}
use Rattle.bisimulation.specs.definitions.StepRule.{Flow, Holds, Met}
use Rattle.bisimulation.specs.definitions.Prices.{price_of_targets}
use Rattle.bisimulation.proofs.argument.SumLaws.{sum_zero}
use Rattle.costs.specs.definitions.CostStepRule.{cost_of_layer, layers, cost_equation, CostMet}
use Rattle.costs.specs.definitions.CostPrices.{price_with_cost}
use Rattle.costs.proofs.argument.Inside.{met_without_costs}

-- no cost
abbrev pub free : ℕ → ℕ
free r = 0

module _ (A : Automaton) where
  -- the cost equation holds
  pub free_equation : (f : Flow) (q : ℕ) → Holds (cost_equation free A f q)
  unfolding cost_equation cost_of_layer
  free_equation f q =
      record { equal = sum_zero (layers A q) _ (λ layer l. sum_zero A.transitions _ (λ r i. omega arith)) ∙ sym (zero-mul f.D) }

  pub free_met : (W : ℕ → ℕ → Type 0) (q t : ℕ) → Met A W q t ↔ CostMet free A W q t
  free_met W q t = (
    λ m. record {
      internal = λ e. record { plain = m.internal e; costs = free_equation (m.internal e).flow q };
      external = λ n. record { plain = m.external n; costs = free_equation (m.external n).flow q };
    },
    met_without_costs,
  )

  -- the term of L is 0
  pub free_price : (L : ℤ) (X : ℕ → ℤ) (r : ℕ) → price_with_cost free A L X r ≡ price_of_targets A X r
  unfolding price_with_cost
  free_price L X r = ap (λ (z : ℕ). price_of_targets A X r +ℤ pos z *ℤ L) (zero-mul (A.denominator r)) ∙ ap (λ (z : ℤ). price_of_targets A X r +ℤ z) (zero-*ℤ L) ∙ +ℤ_idr _
