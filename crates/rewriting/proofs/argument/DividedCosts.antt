-- The rule with costs is kept, too, when the automaton is divided and the k are multiplied.
use Rattle.std.specs.Prelude.{ℕ, ◌+◌, ◌*◌, ◌<◌, ◌≡◌, List, ℤ}
use Rattle.std.proofs.Common.{◌∙◌, subst, arith}
use Rattle.std.proofs.Math.Path.{ap}
use Rattle.bisimulation.proofs.argument.SumLaws.{sum_cong}
use Rattle.bisimulation.specs.definitions.Automaton.{Automaton}
use Rattle.bisimulation.specs.definitions.StepRule.{Flow, Holds}
use Rattle.bisimulation.specs.definitions.Pairs.{Pairs}
use Rattle.costs.specs.definitions.CostPrices.{price_with_cost}
use Rattle.costs.specs.definitions.CostRefutation.{price_after, CostRefutes}
use Rattle.costs.specs.definitions.CostStepRule.{layers, cost_of_layer, cost_equation}
use Rattle.cost_files.specs.definitions.CostModel.{cost_of}
use Rattle.cost_files.specs.definitions.CostFile.{cost_price_count}
use Rattle.cost_files.specs.definitions.CostSays.{CostEquations, cost_says}
use Rattle.rewriting.proofs.argument.TimesLaws.{Times, times-sum, times-factor}
use Rattle.rewriting.proofs.argument.Divided.{Divided, multiplied, KeptDivided, in_place, targets-times, internal-divided, external-divided, used-denominator, equations-divided, plain-count-divided, plain-divided}

module _ (cost : ℕ → ℕ) {g : ℕ → ℕ} {A B : Automaton} (divided : Divided g A B) where
  -- L's term is divided as the sum of p(v)A(v) is
  with-cost-times : (L : ℤ) (X : ℕ → ℤ) (q : ℕ) → q < A.transitions → Times (g q) (price_with_cost cost (in_place divided) L X q) (price_with_cost cost A L X q)
  unfolding price_with_cost
  with-cost-times L X q l =
      times-sum (g q) (divided.some q l) (targets-times divided X q l)
      (times-factor (g q) (divided.some q l) (cost q * B.denominator q) (cost q * A.denominator q)
      (omega (arith, ap (λ (z : ℕ). cost q * z) (divided.denominator q l))) L)

  refutes-divided : (R : Pairs) (q t : ℕ) (p : ℕ → ℤ) → q < A.transitions → CostRefutes cost A R q t p → CostRefutes cost (in_place divided) R q t p
  unfolding price_after
  refutes-divided R q t p l h =
      record {
        internal = λ i. internal-divided divided (with-cost-times (p (2 * A.states))) R q t _ _ l (h.internal i);
        external = λ n. external-divided divided (with-cost-times (p (3 * A.states))) R q t _ _ _ l (h.external n);
      }

  layer-same : (k : ℕ → ℕ) → cost_of_layer cost (in_place divided) (λ r. k r * g r) ≡ cost_of_layer cost A k
  unfolding cost_of_layer
  layer-same k = sum_cong A.transitions _ _ (λ r l. ap (λ (z : ℕ). z * cost r) (used-denominator divided k r l))

  costs-divided : (q : ℕ) (f : Flow) → Holds (cost_equation cost A f q) → Holds (cost_equation cost (in_place divided) (multiplied g f) q)
  unfolding cost_equation layers
  costs-divided q f h = record { equal = sum_cong (layers A q) _ _ (λ layer l. layer-same (f.k layer)) ∙ h.equal }

-- the rule with these costs is kept
pub cost-divided : (costs : List ℕ) → KeptDivided (cost_says costs)
unfolding cost_price_count
cost-divided costs =
    record {
      price_count = λ divided q. ap (λ (n : ℕ). n + 1) (plain-count-divided divided q);
      refutes = λ divided R q t p l h. subst (λ (X : Automaton). CostRefutes (cost_of costs) X R q t p) divided.others (refutes-divided (cost_of costs) divided R q t p l h);
      in_question = plain-divided.in_question;
      equations = λ {g} divided q t f l h.
          subst (λ (X : Automaton). CostEquations (cost_of costs) X q t (multiplied g f)) divided.others
          (record { plain = equations-divided divided f q t l h.plain; costs = costs-divided (cost_of costs) divided q f h.costs });
    }
