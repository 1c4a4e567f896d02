-- The labels of a composition are pairs of labels: two states have the same one exactly where both their parts do.
use Rattle.std.specs.Prelude.{ℕ, ◌+◌, ◌*◌, ◌<◌, ◌≡◌, ◌↔◌}
use Rattle.std.proofs.Common.{ap₂, arith}
use Rattle.bisimulation.specs.definitions.Automaton.{Automaton}
use Rattle.bisimulation.specs.definitions.Composed.{state_at, highest_label, pair_label}
use Rattle.bisimulation.proofs.argument.HighestLaws.{highest_above}
use Rattle.bisimulation.proofs.argument.GridLaws.{state_same}

pub labels_one_to_one : (A B : Automaton) (s t e f : ℕ) → e < B.states → f < B.states → (pair_label A B s e ≡ pair_label A B t f) ↔ ((A.label s ≡ A.label t) × (B.label e ≡ B.label f))
unfolding pair_label state_at
labels_one_to_one A B s t e f l k = (
  state_same (highest_label B + 1) (A.label s) (A.label t) (B.label e) (B.label f) (below e l) (below f k),
  λ h. ap₂ (λ (a b : ℕ). a * (highest_label B + 1) + b) h.0 h.1,
)
  where
    below : (x : ℕ) → x < B.states → B.label x < highest_label B + 1
    below x i = omega (arith, highest_above B.states B.label x i)
