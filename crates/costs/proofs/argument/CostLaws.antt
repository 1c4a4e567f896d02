-- The laws of the cost equation.
use Rattle.std.specs.Prelude.{ℕ, ◌+◌, ◌*◌, ◌<◌, ◌≡◌, refl, ◌≢◌}
use Rattle.std.proofs.Common.{sym, ◌∙◌}
use Rattle.std.proofs.Math.Path.{ap}
use Rattle.std.proofs.Math.Nat.{one-mul}
use native.Mathlib.Omega.{arith}
use Rattle.bisimulation.specs.definitions.Sum.{sum}
use Rattle.bisimulation.specs.definitions.Automaton.{Automaton, SoundAutomaton, SameProbabilities}
use Rattle.bisimulation.specs.definitions.StepRule.{Flow}
use Rattle.bisimulation.proofs.argument.ChoiceLaws.{same, not_same}
use Rattle.bisimulation.proofs.argument.SumLaws.{sum_cong, sum_zero, sum_times}
use Rattle.bisimulation.proofs.argument.Value.{value}
use Rattle.bisimulation.proofs.argument.ValueLaws.{value_same}
use Rattle.bisimulation.proofs.argument.Once.{once, none}
use Rattle.bisimulation.proofs.argument.Respelled.{multiple, respelled_layer, respelled_denominator}
use Rattle.costs.specs.definitions.CostStepRule.{cost_of_layer, layers, cost_equation}

module _ (cost : ℕ → ℕ) (A : Automaton) where
  -- the layers of each kind of challenger
  pub internal_cost : (f : Flow) (q : ℕ) → A.action q ≡ 0 → (cost_equation cost A f q).left ≡ cost_of_layer cost A (f.k 0)
  unfolding cost_equation layers sum
  internal_cost f q e = ap (λ (n : ℕ). sum n (λ l. cost_of_layer cost A (f.k l))) (sym (same _ e refl)) ∙ omega arith

  pub external_cost : (f : Flow) (q : ℕ) → A.action q ≢ 0 → (cost_equation cost A f q).left ≡ cost_of_layer cost A (f.k 0) + cost_of_layer cost A (f.k 1) + cost_of_layer cost A (f.k 2)
  unfolding cost_equation layers sum
  external_cost f q n = ap (λ (n : ℕ). sum n (λ l. cost_of_layer cost A (f.k l))) (sym (not_same _ n refl)) ∙ omega arith

  -- no transition, and one once
  pub cost_none : cost_of_layer cost A none ≡ 0
  unfolding cost_of_layer none
  cost_none = sum_zero A.transitions _ (λ r l. omega arith)

  pub cost_once : (q : ℕ) → q < A.transitions → cost_of_layer cost A (once q) ≡ A.denominator q * cost q
  unfolding cost_of_layer once value
  cost_once q l =
      sum_cong A.transitions _ _ (λ r k. omega arith)
      ∙ value_same A.transitions q 1 (λ r. A.denominator r * cost r) l
      ∙ one-mul _

-- another spelling: the cost of a layer is scaled as D is
pub cost_respelled_layer : (cost : ℕ → ℕ) (A B : Automaton) → SoundAutomaton A → SoundAutomaton B → SameProbabilities A B → (k : ℕ → ℕ) → cost_of_layer cost B (respelled_layer A B k) ≡ multiple B * cost_of_layer cost A k
unfolding cost_of_layer
cost_respelled_layer cost A B sound_a sound_b e k =
    sum_cong B.transitions _ _ (λ r l. omega (arith, ap (λ (z : ℕ). z * cost r) (respelled_denominator A B sound_a sound_b e k r l)))
    ∙ sum_times B.transitions (multiple B) (λ r. k r * A.denominator r * cost r)
    ∙ ap (λ (n : ℕ). multiple B * sum n (λ r. k r * A.denominator r * cost r)) (sym e.transitions)
