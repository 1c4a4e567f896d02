-- Document 02, K11: 'Write the parallel composition of two models, following Segala's rule'. No sizes enter.
use Rattle.std.specs.Prelude.{ℕ, zero, suc, ◌+◌, ◌*◌, Bool, true, false, List, [], ◌∷◌, ◌++◌, map, length, get_or}
use Rattle.bisimulation.specs.definitions.Choice.{if_less, if_same, if_true}
use Rattle.bisimulation.specs.definitions.Automaton.{Automaton}
use Rattle.bisimulation.specs.definitions.Joined.{larger}
use Rattle.bisimulation.specs.definitions.Composed.{state_at, pair_label, Move, left_alone, together, right_alone, IsMove, move_source}
use Rattle.rules.specs.definitions.Model.{Entry, Transition, Model, no_transition, model_bytes, automaton_of}
use Rattle.rules.specs.definitions.Accepted.{Ascends, Among}

-- the lists of all numbers below n, one after the other
unfoldable pub gathered : {X : Type 0} → ℕ → (ℕ → List X) → List X
gathered zero f = []
gathered (suc n) f = gathered n f ++ f n

-- 'external actions below both action counts are done together'
unfoldable pub shared_below : (left right a : ℕ) → Bool
shared_below left right a = if_less 0 a (if_less a left (if_less a right true false) false) false

module _ (A B : Automaton) where
  unfoldable pub is_shared : ℕ → Bool
  is_shared a = shared_below A.actions B.actions a

  -- the right's transition r, where it leaves e with the action of the left's q
  unfoldable pub partner_move : (q e r : ℕ) → List Move
  partner_move q e r = if_same (B.source r) e (if_same (B.action r) (A.action q) (together q r ∷ []) []) []

  -- the left's transition q, where it leaves s: 'a shared one once for each right partner in file order', another alone
  unfoldable pub left_move : (s e q : ℕ) → List Move
  left_move s e q =
      if_same (A.source q) s (if_true (is_shared (A.action q)) (gathered B.transitions (partner_move q e)) (left_alone q e ∷ [])) []

  -- the right's transition r, where it leaves e and is its own
  unfoldable pub right_move : (s e r : ℕ) → List Move
  right_move s e r = if_same (B.source r) e (if_true (is_shared (B.action r)) [] (right_alone s r ∷ [])) []

  -- 'From each state the left's moves come first in file order, .. then the right's own'
  unfoldable pub moves_from : (s e : ℕ) → List Move
  moves_from s e = gathered A.transitions (left_move s e) ++ gathered B.transitions (right_move s e)

  -- from every state (s,e)
  unfoldable pub moves_of : List Move
  moves_of = gathered A.states (λ s. gathered B.states (moves_from s))

  -- where a move stands among those of one state: the left's by q, and then by r; behind them the right's own by r
  unfoldable pub place_from : Move → ℕ
  place_from (left_alone q e) = q * suc B.transitions
  place_from (together q r) = q * suc B.transitions + r
  place_from (right_alone s r) = A.transitions * suc B.transitions + r

  -- among those of all states, as one number
  unfoldable pub move_key : Move → ℕ
  move_key m = move_source A B m * (suc A.transitions * suc B.transitions) + place_from m

  -- 000's moves and no others, each once, in K11's order: at most one list is so (`in-order-one`), and `moves_of` is (`moves-in-order`)
  pub record MovesInOrder (ms : List Move) : Type 0 where
    pub only : (m : Move) → Among m ms → IsMove A B m
    pub all : (m : Move) → IsMove A B m → Among m ms
    pub order : Ascends move_key 0 ms

-- a transition by its number
abbrev pub transition_of : Model → ℕ → Transition
transition_of M q = get_or M.transitions q no_transition

-- 'Products of weights' at the states (v,x), for each entry of the left each of the right
unfoldable pub pair_entry : (right_states : ℕ) → Entry → Entry → Entry
pair_entry right_states e f = record { state = state_at right_states e.state f.state; weight = e.weight * f.weight }

unfoldable pub pair_entries : (right_states : ℕ) → List Entry → List Entry → List Entry
pair_entries right_states [] fs = []
pair_entries right_states (e ∷ es) fs = map (pair_entry right_states e) fs ++ pair_entries right_states es fs

-- a transition of the left and one of the right with its action, as one: '.. go over the product of denominators'
unfoldable pub pair_transition : (right_states : ℕ) → Transition → Transition → Transition
pair_transition right_states t u =
    record {
      source = state_at right_states t.source u.source;
      action = t.action;
      denominator = t.denominator * u.denominator;
      entries = pair_entries right_states t.entries u.entries;
    }

-- a side that stands still at a state, while the other does the action a
unfoldable pub still : (a s : ℕ) → Transition
still a s = record { source = s; action = a; denominator = 1; entries = record { state = s; weight = 1 } ∷ [] }

-- the transition of a move
unfoldable pub moved : (M N : Model) → Move → Transition
moved M N (left_alone q e) = let t = transition_of M q in pair_transition (length N.labels) t (still t.action e)
moved M N (together q r) = pair_transition (length N.labels) (transition_of M q) (transition_of N r)
moved M N (right_alone s r) = let u = transition_of N r in pair_transition (length N.labels) (still u.action s) u

-- the composition
unfoldable pub composed : Model → Model → Model
composed M N =
    let A = automaton_of M in
    let B = automaton_of N in
    record {
      actions = larger M.actions N.actions;
      labels = gathered (length M.labels) (λ s. gathered (length N.labels) (λ e. pair_label A B s e ∷ []));
      transitions = map (moved M N) (moves_of A B);
    }

-- its file
abbrev pub composed_file : Model → Model → List ℕ
composed_file M N = model_bytes (composed M N)
