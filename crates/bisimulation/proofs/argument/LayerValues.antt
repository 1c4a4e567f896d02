-- What arrives and what leaves by a layer, as the value of its amounts.
use Rattle.std.specs.Prelude.{ℕ, ◌+◌, ◌≡◌}
use Rattle.std.proofs.Math.Path.{refl, sym, ap}
use Rattle.std.proofs.Common.{◌∙◌, arith}
use Rattle.std.proofs.Math.Nat.{mul_comm}
use Rattle.bisimulation.specs.definitions.Choice.{if_same}
use Rattle.bisimulation.proofs.argument.ChoiceLaws.{times_same}
use Rattle.bisimulation.proofs.argument.SumLaws.{sum_cong}
use Rattle.bisimulation.proofs.argument.Value.{value}
use Rattle.bisimulation.proofs.argument.ValueLaws.{value_add}
use Rattle.bisimulation.specs.definitions.Automaton.{Automaton}
use Rattle.bisimulation.specs.definitions.StepRule.{arriving, leaving}

module _ (A : Automaton) where
  -- what of a transition leaves v
  unfoldable pub denominator_from : (v q : ℕ) → ℕ
  denominator_from v q = if_same (A.source q) v (A.denominator q) 0

  pub arriving_as_value : (k : ℕ → ℕ) (v : ℕ) → arriving A k v ≡ value A.transitions k (λ q. A.weight q v)
  unfolding arriving value
  arriving_as_value k v = refl

  pub leaving_as_value : (k : ℕ → ℕ) (v : ℕ) → leaving A k v ≡ value A.transitions k (denominator_from v)
  unfolding leaving value denominator_from
  leaving_as_value k v =
      sum_cong A.transitions _ _
      (λ q l. ap (λ (z : ℕ). if_same (A.source q) v z 0) (mul_comm (k q) _) ∙ sym (times_same (A.source q) v (A.denominator q) (k q)) ∙ mul_comm _ (k q))

  -- two layers added up
  pub arriving_add : (k h : ℕ → ℕ) (v : ℕ) → arriving A (λ r. k r + h r) v ≡ arriving A k v + arriving A h v
  arriving_add k h v = omega (arith, arriving_as_value (λ r. k r + h r) v, arriving_as_value k v, arriving_as_value h v, value_add A.transitions k h (λ q. A.weight q v))

  pub leaving_add : (k h : ℕ → ℕ) (v : ℕ) → leaving A (λ r. k r + h r) v ≡ leaving A k v + leaving A h v
  leaving_add k h v = omega (arith, leaving_as_value (λ r. k r + h r) v, leaving_as_value k v, leaving_as_value h v, value_add A.transitions k h (denominator_from v))
