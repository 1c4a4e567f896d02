-- Document 02, K1: two automata as one, 'the second's states and transitions follow the first's, its state numbers raised by the first's n, m
-- the larger, labels kept'.
use Rattle.std.specs.Prelude.{ℕ, ◌+◌, ◌≤◌, ◌<◌, ◌≡◌}
use Rattle.bisimulation.specs.definitions.Choice.{if_less}
use Rattle.bisimulation.specs.definitions.Automaton.{Automaton}

-- 'm the larger'
unfoldable pub larger : ℕ → ℕ → ℕ
larger a b = if_less a b b a

-- an automaton that is A on the first states and B, raised, on the others
pub record IsJoined (A B J : Automaton) : Type 0 where
  pub states : J.states ≡ A.states + B.states
  pub transitions : J.transitions ≡ A.transitions + B.transitions
  pub actions : J.actions ≡ larger A.actions B.actions
  pub first_label : (v : ℕ) → v < A.states → J.label v ≡ A.label v
  pub first_source : (q : ℕ) → q < A.transitions → J.source q ≡ A.source q
  pub first_action : (q : ℕ) → q < A.transitions → J.action q ≡ A.action q
  pub first_denominator : (q : ℕ) → q < A.transitions → J.denominator q ≡ A.denominator q
  pub first_weight : (q v : ℕ) → q < A.transitions → v < A.states → J.weight q v ≡ A.weight q v
  pub second_label : (v : ℕ) → v < B.states → J.label (A.states + v) ≡ B.label v
  pub second_source : (q : ℕ) → q < B.transitions → J.source (A.transitions + q) ≡ A.states + B.source q
  pub second_action : (q : ℕ) → q < B.transitions → J.action (A.transitions + q) ≡ B.action q
  pub second_denominator : (q : ℕ) → q < B.transitions → J.denominator (A.transitions + q) ≡ B.denominator q
  pub second_weight : (q v : ℕ) → q < B.transitions → v < B.states → J.weight (A.transitions + q) (A.states + v) ≡ B.weight q v
  -- neither leads to a state of the other
  pub first_only : (q v : ℕ) → q < A.transitions → A.states ≤ v → J.weight q v ≡ 0
  pub second_only : (q v : ℕ) → q < B.transitions → v < A.states → J.weight (A.transitions + q) v ≡ 0
