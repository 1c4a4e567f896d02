-- A transition done once, none at all, and each state linked with itself: what leaves, arrives and is linked.
use Rattle.std.specs.Prelude.{ℕ, ◌*◌, ◌<◌, ◌≡◌, refl}
use Rattle.std.proofs.Math.Path.{sym, ap}
use Rattle.std.proofs.Common.{◌∙◌, arith}
use Rattle.std.proofs.Math.Nat.{mul_comm, one-mul}
use Rattle.bisimulation.specs.definitions.Choice.{if_same}
use Rattle.bisimulation.proofs.argument.ChoiceLaws.{turned, times_same, either_same, kept_same}
use Rattle.bisimulation.proofs.argument.SumLaws.{sum_cong, sum_zero, sum_same}
use Rattle.bisimulation.proofs.argument.Value.{value}
use Rattle.bisimulation.proofs.argument.ValueLaws.{value_same}
use Rattle.bisimulation.specs.definitions.Automaton.{Automaton}
use Rattle.bisimulation.specs.definitions.StepRule.{arriving, leaving, over_targets, over_sources}

-- the transition q once
unfoldable pub once : ℕ → ℕ → ℕ
once q r = if_same r q 1 0

-- no transition
unfoldable pub none : ℕ → ℕ
none r = 0

-- each state linked with itself, for f
unfoldable pub diagonal : (ℕ → ℕ) → ℕ → ℕ → ℕ
diagonal f v u = if_same v u (f v) 0

-- what is used
pub once_used : (q r : ℕ) → 0 < once q r → r ≡ q
unfolding once
once_used q r l = (kept_same 1 0 r q (λ (e : once q r ≡ 0). omega arith) refl).0

pub diagonal_used : (f : ℕ → ℕ) (v u : ℕ) → 0 < diagonal f v u → v ≡ u
unfolding diagonal
diagonal_used f v u l = (kept_same (f v) 0 v u (λ (e : if_same v u (f v) 0 ≡ 0). omega arith) refl).0

module _ (A : Automaton) where
  pub arriving_none : (v : ℕ) → arriving A none v ≡ 0
  unfolding arriving none
  arriving_none v = sum_zero A.transitions _ (λ r l. omega arith)

  pub leaving_none : (v : ℕ) → leaving A none v ≡ 0
  unfolding leaving none
  leaving_none v = sum_zero A.transitions _ (λ r l. either_same (λ z. z ≡ 0) (A.source r) v (omega arith) refl)

  module _ (q : ℕ) (l : q < A.transitions) where
    pub arriving_once : (v : ℕ) → arriving A (once q) v ≡ A.weight q v
    unfolding arriving once value
    arriving_once v = value_same A.transitions q 1 (λ r. A.weight r v) l ∙ one-mul _

    pub leaving_once : (v : ℕ) → leaving A (once q) v ≡ if_same (A.source q) v (A.denominator q) 0
    unfolding leaving once value
    leaving_once v = sum_cong A.transitions _ _ (λ r k. outside r) ∙ value_same A.transitions q 1 (λ r. if_same (A.source r) v (A.denominator r) 0) l ∙ one-mul _
      where
        outside : (r : ℕ) → if_same (A.source r) v (once q r * A.denominator r) 0 ≡ once q r * if_same (A.source r) v (A.denominator r) 0
        outside r =
            ap (λ (z : ℕ). if_same (A.source r) v z 0) (mul_comm (once q r) (A.denominator r))
            ∙ sym (times_same (A.source r) v (A.denominator r) (once q r))
            ∙ mul_comm _ _

  pub over_targets_diagonal : (f : ℕ → ℕ) (v : ℕ) → v < A.states → over_targets A (diagonal f) v ≡ f v
  unfolding over_targets diagonal
  over_targets_diagonal f v l = sum_cong A.states _ _ (λ u k. turned v u (f v) 0) ∙ sum_same A.states v (λ u. f v) l

  pub over_sources_diagonal : (f : ℕ → ℕ) (u : ℕ) → u < A.states → over_sources A (diagonal f) u ≡ f u
  unfolding over_sources diagonal
  over_sources_diagonal f u l = sum_same A.states u f l
