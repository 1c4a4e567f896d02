-- The tests of the step rule with costs find no fault exactly where its propositions hold.
use Rattle.std.specs.Prelude.{ℕ, ◌+◌, ◌*◌, ◌<◌, ◌≡◌, ◌↔◌, List, ℤ, ◌+ℤ◌, ◌*ℤ◌}
use Rattle.std.proofs.Math.Path.{refl, ap}
use Rattle.std.proofs.Common.{◌∙◌, arith}
use Rattle.std.proofs.Math.IntN.{pos}
use Rattle.bisimulation.proofs.argument.ChoiceLaws.{same}
use Rattle.bisimulation.specs.definitions.Automaton.{Automaton, SoundAutomaton}
use Rattle.bisimulation.specs.definitions.StepRule.{Flow}
use Rattle.bisimulation.specs.definitions.Pairs.{Pairs}
use Rattle.rules.specs.definitions.Faults.{Passes}
use Rattle.rules.specs.definitions.PlainRule.{plain_price_count}
use Rattle.rules.proofs.argument.AnyRule.{Decides}
use Rattle.rules.proofs.argument.FaultLaws.{pass_on, pass-unless_same, none_first, first-none}
use Rattle.rules.proofs.argument.PlainDecides.{six-cases, kind-internal, kind-external, internal-refutes, external-refutes, by-kind, plain-equations, AlikeOnStates, targets-same, internal-same, external-same}
use Rattle.costs.specs.definitions.CostPrices.{price_with_cost}
use Rattle.costs.specs.definitions.CostRefutation.{price_after, CostRefutes}
use Rattle.cost_files.specs.definitions.CostModel.{cost_of}
use Rattle.cost_files.specs.definitions.CostFile.{cost_price_count, cost_prices_fault, cost_equation_fault, cost_equations_fault, cost_file}
use Rattle.cost_files.specs.definitions.CostSays.{CostEquations, cost_says}

module _ (cost : ℕ → ℕ) (A : Automaton) where
  -- prices without fault refute
  pub cost-refutes : (R : Pairs) (q t : ℕ) (p : ℕ → ℤ) → Passes (cost_prices_fault cost A R q t p) ↔ CostRefutes cost A R q t p
  unfolding cost_prices_fault
  cost-refutes R q t p =
      let both = by-kind A q _ _ (internal-refutes A (price_with_cost cost A (price_after A 2 p)) R q t p (λ v. p (A.states + v))) (external-refutes A (price_with_cost cost A (price_after A 3 p)) R q t p (λ v. p (A.states + v)) (λ v. p (2 * A.states + v))) in
      (λ e. let h = both.0 e in record { internal = h.0; external = h.1 }, λ h. both.1 (h.internal, h.external))

  -- equations without fault hold
  pub cost-equations : (q t : ℕ) (f : Flow) → Passes (cost_equations_fault cost A q t f) ↔ CostEquations cost A q t f
  unfolding cost_equations_fault cost_equation_fault
  cost-equations q t f = (
    λ e.
        let a = none_first _ _ e in
        record {
          plain = (plain-equations A q t f).0 a.0;
          costs = record { equal = (pass-unless_same _ _ _ _ a.1 (omega arith)).0 };
        },
    λ h. pass_on (first-none _ _ ((plain-equations A q t f).1 h.plain) (same _ h.costs.equal refl)) refl,
  )

  -- the conditions look at prices of states, and at L
  pub with-cost-same : (L : ℤ) (X Y : ℕ → ℤ) → AlikeOnStates A X Y → (r : ℕ) → price_with_cost cost A L X r ≡ price_with_cost cost A L Y r
  unfolding price_with_cost
  with-cost-same L X Y h r = ap (λ (z : ℤ). z +ℤ pos (cost r * A.denominator r) *ℤ L) (targets-same A X Y h r)

  with-price-same : {L K : ℤ} → L ≡ K → (X Y : ℕ → ℤ) → AlikeOnStates A X Y → (r : ℕ) → price_with_cost cost A L X r ≡ price_with_cost cost A K Y r
  with-price-same {L} e X Y h r = with-cost-same L X Y h r ∙ ap (λ (z : ℤ). price_with_cost cost A z Y r) e

  pub only-prices : SoundAutomaton A → (R : Pairs) (q t : ℕ) (p p' : ℕ → ℤ) → t < A.states → ((i : ℕ) → i < cost_price_count A q → p i ≡ p' i) → CostRefutes cost A R q t p → CostRefutes cost A R q t p'
  unfolding cost_price_count plain_price_count price_after
  only-prices sound R q t p p' l h c =
      record {
        internal = λ i.
            let n = kind-internal A q (2 * A.states) (3 * A.states) i in
            internal-same A sound (with-price-same (h (2 * A.states) (omega (arith, n)))) R q t l (λ j m. h j (omega (arith, n))) (c.internal i);
        external = λ i.
            let n = kind-external A q (2 * A.states) (3 * A.states) i in
            external-same A sound (with-price-same (h (3 * A.states) (omega (arith, n)))) R q t l (λ j m. h j (omega (arith, n))) (c.external i);
      }

-- the tests decide the propositions
pub cost-decides : (costs : List ℕ) → Decides (cost_file costs) (cost_says costs)
cost-decides costs =
    record {
      price_count = λ A q. refl;
      refutes = cost-refutes (cost_of costs);
      only_prices = only-prices (cost_of costs);
      in_question = λ A q t layer r. six-cases (A.action q) layer (A.action r);
      equations = cost-equations (cost_of costs);
    }
