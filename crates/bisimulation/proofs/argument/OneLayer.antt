-- Movements of one layer.
use Rattle.std.specs.Prelude.{ℕ, zero, suc, ◌<◌, ◌≡◌, refl, true}
use Rattle.std.proofs.Common.{arith}
use Rattle.bisimulation.specs.definitions.Choice.{if_same}
use Rattle.bisimulation.specs.definitions.Automaton.{Automaton}
use Rattle.bisimulation.proofs.argument.Moves.{Layer, one_movement, Through, Moves, DoesOnce}
use Rattle.bisimulation.proofs.argument.MovesLaws.{through_cong}

-- what holds of its layer
pub one_layer : (P : ℕ → Type 0) → P 0 → (i : ℕ) → i < 1 → P i
one_layer P a zero l = a
one_layer P a (suc i) l = absurd (omega arith)

module _ {l : Layer} where
  module _ {A : Automaton} {k : ℕ → ℕ → ℕ} {x y : ℕ → ℕ} where
    pub moves_one : Through A l (k 0) x y → Moves A (one_movement l) k x y
    unfolding if_same
    moves_one t =
        record {
          between = λ i. if_same i 0 x y;
          starts = λ v i. refl;
          through = one_layer (λ i. Through A l (k i) (if_same i 0 x y) (if_same (suc i) 0 x y)) t;
          ends = λ v i. refl;
        }

    pub through_one : Moves A (one_movement l) k x y → Through A l (k 0) x y
    through_one o = through_cong o.starts o.ends (o.through 0 (omega arith))

  unfoldable pub once_in_one : {s a : ℕ} → l.allows s a → DoesOnce (one_movement l) s a
  once_in_one may = record { layer = 0; below = omega arith; allows = may; others = one_layer (λ j. (j ≡ 0 → ⊥) → l.step ≡ true → ⊥) (λ n e. n refl) }
