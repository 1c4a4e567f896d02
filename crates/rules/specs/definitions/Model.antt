-- Document 01, 'The automaton': a model as a value, its bytes, and the automaton that it holds.
use Rattle.std.specs.Prelude.{ℕ, List, [], ◌∷◌, ◌++◌, length, get_or}
use Rattle.bisimulation.specs.definitions.Choice.{if_same}
use Rattle.bisimulation.specs.definitions.Automaton.{Automaton, SameProbabilities}
use Rattle.rules.specs.definitions.Bytes.{two_bytes}

-- 'entries: state 1, weight 2'
pub record Entry : Type 0 where
  pub state : ℕ
  pub weight : ℕ

-- 'A transition r has a source, an action, a denominator d, and weights p(v)'
pub record Transition : Type 0 where
  pub source : ℕ
  pub action : ℕ
  pub denominator : ℕ
  pub entries : List Entry

-- what a model file holds: n is the number of labels
pub record Model : Type 0 where
  pub actions : ℕ
  pub labels : List ℕ
  pub transitions : List Transition

-- the table of the model's records: the entries of a transition
unfoldable pub entries_bytes : List Entry → List ℕ
entries_bytes [] = []
entries_bytes (e ∷ es) = e.state ∷ (two_bytes e.weight ++ entries_bytes es)

-- 'transition, 54 52, source 1, action 1, d 2, entry count c 1; then c entries'
unfoldable pub transition_bytes : Transition → List ℕ
transition_bytes t =
    0x54 ∷ 0x52 ∷ t.source ∷ t.action ∷ (two_bytes t.denominator ++ (length t.entries ∷ entries_bytes t.entries))

-- the transition records, one after the other
unfoldable pub transitions_bytes : List Transition → List ℕ
transitions_bytes [] = []
transitions_bytes (t ∷ ts) = transition_bytes t ++ transitions_bytes ts

-- 'head, 50 41, n, m, transition count'
unfoldable pub head_bytes : Model → List ℕ
head_bytes M = 0x50 ∷ 0x41 ∷ length M.labels ∷ M.actions ∷ two_bytes (length M.transitions)

-- 'labels, 4C 42, n bytes'
unfoldable pub labels_bytes : Model → List ℕ
labels_bytes M = 0x4C ∷ 0x42 ∷ M.labels

-- the file of a model
unfoldable pub model_bytes : Model → List ℕ
model_bytes M = head_bytes M ++ (labels_bytes M ++ transitions_bytes M.transitions)

-- 'Weights absent from the file are 0'
unfoldable pub weight_of : List Entry → ℕ → ℕ
weight_of [] v = 0
weight_of (e ∷ es) v = if_same e.state v e.weight (weight_of es v)

-- stands in the place of a transition whose number the model lacks
abbrev pub no_transition : Transition
no_transition = record { source = 0; action = 0; denominator = 0; entries = [] }

-- the automaton that a model holds
unfoldable pub automaton_of : Model → Automaton
automaton_of M =
    record {
      states = length M.labels;
      actions = M.actions;
      transitions = length M.transitions;
      label = λ v. get_or M.labels v 0;
      source = λ q. (get_or M.transitions q no_transition).source;
      action = λ q. (get_or M.transitions q no_transition).action;
      denominator = λ q. (get_or M.transitions q no_transition).denominator;
      weight = λ q v. weight_of (get_or M.transitions q no_transition).entries v;
    }

-- 'Two model files hold one automaton when they differ at most in the terms that their fractions p(v)/d are written in'
unfoldable pub HoldOneAutomaton : Model → Model → Type 0
HoldOneAutomaton M N = SameProbabilities (automaton_of M) (automaton_of N)
