-- Document 02, K11: 'a model whose external actions in a chosen set are made internal'. No sizes enter.
use Rattle.std.specs.Prelude.{ℕ, ◌<◌, ◌≡◌, Bool}
use Rattle.bisimulation.specs.definitions.Choice.{if_true}
use Rattle.bisimulation.specs.definitions.Automaton.{Automaton}

-- 'external actions in a chosen set are made internal'; 0 is internal already
unfoldable pub hidden_action : (chosen : ℕ → Bool) → ℕ → ℕ
hidden_action chosen a = if_true (chosen a) 0 a

-- H is A with the chosen actions hidden, 'and the action count stays'
pub record IsHidden (chosen : ℕ → Bool) (A H : Automaton) : Type 0 where
  pub states : H.states ≡ A.states
  pub actions : H.actions ≡ A.actions
  pub transitions : H.transitions ≡ A.transitions
  pub label : (v : ℕ) → v < A.states → H.label v ≡ A.label v
  pub source : (q : ℕ) → q < A.transitions → H.source q ≡ A.source q
  pub action : (q : ℕ) → q < A.transitions → H.action q ≡ hidden_action chosen (A.action q)
  pub denominator : (q : ℕ) → q < A.transitions → H.denominator q ≡ A.denominator q
  pub weight : (q v : ℕ) → q < A.transitions → v < A.states → H.weight q v ≡ A.weight q v
