-- Document 01, 'The automaton'.
use Rattle.std.specs.Prelude.{ℕ, ◌*◌, ◌<◌, ◌≡◌}
use Rattle.bisimulation.specs.definitions.Sum.{sum}

-- 'A model has n states (0 to n-1), actions 0 to m-1, and transitions counted from 0 in file order.' A transition leads to v with
-- probability weight/denominator. Action 0 is internal, every other is external.
pub record Automaton : Type 0 where
  pub states : ℕ
  pub actions : ℕ
  pub transitions : ℕ
  pub label : ℕ → ℕ
  pub source : ℕ → ℕ
  pub action : ℕ → ℕ
  pub denominator : ℕ → ℕ
  pub weight : ℕ → ℕ → ℕ

-- 'weights p(v) with sum d', and every transition leaves a state, with an action of the automaton
pub record SoundTransition (A : Automaton) (q : ℕ) : Type 0 where
  pub from : A.source q < A.states
  pub known : A.action q < A.actions
  pub positive : 0 < A.denominator q
  pub whole : sum A.states (A.weight q) ≡ A.denominator q

-- the numbers are those of an automaton
unfoldable pub SoundAutomaton : Automaton → Type 0
SoundAutomaton A = (q : ℕ) → q < A.transitions → SoundTransition A q

-- 'differ at most in the terms that their fractions p(v)/d are written in, and in no probability'
pub record SameProbabilities (A B : Automaton) : Type 0 where
  pub states : A.states ≡ B.states
  pub actions : A.actions ≡ B.actions
  pub transitions : A.transitions ≡ B.transitions
  pub label : (v : ℕ) → v < A.states → A.label v ≡ B.label v
  pub source : (q : ℕ) → q < A.transitions → A.source q ≡ B.source q
  pub action : (q : ℕ) → q < A.transitions → A.action q ≡ B.action q
  pub probability : (q v : ℕ) → q < A.transitions → v < A.states → A.weight q v * B.denominator q ≡ B.weight q v * A.denominator q
