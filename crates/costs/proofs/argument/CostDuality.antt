-- Weak duality with costs, for L of either sign: what is refuted is met for no relation inside the related pairs.
use Rattle.std.specs.Prelude.{ℕ, ◌*◌, ◌≡◌, ℤ, nat_abs}
use Rattle.std.proofs.Common.{◌∙◌, le_refl}
use Rattle.std.proofs.Math.Path.{ap}
use native.Mathlib.Omega.{arith}
use Rattle.bisimulation.specs.definitions.Sum.{sum}
use Rattle.bisimulation.specs.definitions.Automaton.{Automaton, SoundAutomaton}
use Rattle.bisimulation.specs.definitions.StepRule.{Flow, Holds}
use Rattle.bisimulation.specs.definitions.Pairs.{Pairs}
use Rattle.bisimulation.specs.definitions.Rule.{WeakDuality}
use Rattle.bisimulation.proofs.argument.SumLaws.{sum_cong, sum_times}
use Rattle.bisimulation.proofs.argument.Moves.{Movement}
use Rattle.bisimulation.proofs.argument.PlainMoves.{either_movement}
use Rattle.bisimulation.proofs.argument.Layers.{brought}
use Rattle.bisimulation.proofs.argument.Duality.{Adds, Paid, RefutesBy, Refuted, duality_by, internal_refutes, external_refutes}
use Rattle.bisimulation.proofs.argument.Raised.{raise}
use Rattle.bisimulation.proofs.argument.RaisedLaws.{raised_add, raised_times, raise_raised, price_of_targets_raised}
use Rattle.costs.specs.definitions.CostStepRule.{cost_of_layer, layers, cost_equation, CostMet}
use Rattle.costs.specs.definitions.CostPrices.{price_with_cost}
use Rattle.costs.specs.definitions.CostRefutation.{CostRefutes}
use Rattle.costs.proofs.argument.CostMoves.{all_layers, KeepsCosts, cost_by}

module _ (cost : ℕ → ℕ) (A : Automaton) where
  -- n times the cost of a transition
  abbrev cost_times : (n r : ℕ) → ℕ
  cost_times n r = cost r * A.denominator r * n

  -- L raised by its own magnitude: so many times the cost are added to the side of the targets, and its magnitude times to the other
  cost_adds : SoundAutomaton A → (L : ℤ) → Adds A (price_with_cost cost A L) (cost_times (raise (nat_abs L) L)) (cost_times (nat_abs L))
  unfolding price_with_cost SoundAutomaton
  cost_adds sound L = record { raised = λ {c} {Y} y r i. raised_add (price_of_targets_raised A c Y y r (sound r i)) (raised_times (cost r * A.denominator r) (raise_raised (nat_abs L) L (le_refl _))) }

  -- the cost equation pays for both
  cost_paid : (m q : ℕ) → m ≡ layers A q → (f : Flow) → Holds (cost_equation cost A f q) → (n : ℕ) → Paid A m q f (cost_times n)
  unfolding brought cost_equation cost_of_layer
  cost_paid m q e f h n =
      ap (λ (z : ℕ). A.denominator q * z)
      (ap (λ (x : ℕ). sum x (λ i. sum A.transitions (λ r. f.k i r * cost_times n r))) e
      ∙ sum_cong (layers A q) _ (λ i. n * sum A.transitions (λ r. f.k i r * A.denominator r * cost r)) (λ i l. sum_cong A.transitions _ (λ r. n * (f.k i r * A.denominator r * cost r)) (λ r j. omega arith) ∙ sum_times A.transitions n _)
      ∙ sum_times (layers A q) n _
      ∙ ap (λ (z : ℕ). n * z) h.equal)
      ∙ omega arith

  cost_refuted : SoundAutomaton A → (L : ℤ) (R : Pairs) (q t : ℕ) {m : Movement} → RefutesBy A m (price_with_cost cost A L) R q t → m.count ≡ layers A q → Refuted A m (KeepsCosts cost A q t) R q t
  cost_refuted sound L R q t h e =
      record {
        side = price_with_cost cost A L;
        a = cost_times (raise (nat_abs L) L);
        b = cost_times (nat_abs L);
        adds = cost_adds sound L;
        refutes = h;
        paid = λ f costs. (cost_paid _ q e f costs _, cost_paid _ q e f costs _);
      }

pub cost_duality : (cost : ℕ → ℕ) → WeakDuality (CostMet cost) (CostRefutes cost)
cost_duality cost =
    duality_by (cost_by cost)
    (λ A sound R q t p h.
    either_movement (λ m. m.count ≡ layers A q → Refuted A m (KeepsCosts cost A q t) R q t)
    (λ e. cost_refuted cost A sound _ R q t (internal_refutes (h.internal e)))
    (λ n. cost_refuted cost A sound _ R q t (external_refutes (h.external n)))
    (all_layers A q))
