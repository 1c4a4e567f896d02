-- What each step rule decides of a question. The challenger is told by its action.
use Rattle.std.specs.Prelude.{ℕ, ◌+◌, ◌*◌, ◌^◌, ◌≤◌, ◌<◌, ◌≡◌, ◌↔◌, Bool, true, false, not, List, eqb, ℤ, pos}
use Rattle.std.specs.Int.Signed.{mag}
use Rattle.bisimulation.specs.definitions.Choice.{if_same, if_true, both}
use Rattle.bisimulation.specs.definitions.Automaton.{Automaton}
use Rattle.rules.specs.definitions.Bytes.{signed_at}
use Rattle.rules.specs.definitions.Certificate.{FileRule}
use Rattle.rules.specs.definitions.Limits.{limits}
use Rattle.rules.specs.definitions.PlainRule.{plain_in_question}
use Rattle.rules.specs.definitions.PlainSays.{InPlainQuestion}
use Rattle.rule_kind.specs.declared.Kind.{Kind}
use Rattle.rule_kind.specs.declared.Kind.TheVariants.{Plain, Costs, Strong}
use Rattle.rule_kind.specs.declared.Condition.{Condition}
use Rattle.rule_kind.specs.declared.Condition.TheVariants.{Across, Within, Unasked}

-- whether a layer may have an action, by the six cases; document 02, K5: 'An entry passes this test exactly when ..'
pub record TellsLayer (challenger layer action : ℕ) (b : Bool) : Type 0 where
  pub is : b ≡ plain_in_question challenger layer action
  pub exactly : (b ≡ true) ↔ InPlainQuestion challenger layer action

-- document 02, K14: 'transitions of t itself with the challenger's action'
unfoldable pub own_transition : (challenger t source action : ℕ) → Bool
own_transition challenger t source action = both (eqb source t) (eqb action challenger)

-- 'entries of layer 1 only, over' those
unfoldable pub strong_question : (challenger t layer source action : ℕ) → Bool
strong_question challenger t layer source action = if_same layer 1 (own_transition challenger t source action) false

-- whether a layer may have a transition of a source and an action, against the defender t, by each rule
unfoldable pub in_question_by : Kind → (challenger t layer source action : ℕ) → Bool
in_question_by Plain challenger t layer source action = plain_in_question challenger layer action
in_question_by Costs challenger t layer source action = plain_in_question challenger layer action
in_question_by Strong challenger t layer source action = strong_question challenger t layer source action

-- a test of a layer's transitions is the rule's, and it allows three layers
pub record Tests (test : (challenger t layer source action : ℕ) → Bool) (rule : FileRule) : Type 0 where
  pub is : (A : Automaton) (q t layer r : ℕ) → test (A.action q) t layer (A.source r) (A.action r) ≡ rule.in_question A q t layer r
  pub layers : (challenger t layer source action : ℕ) → test challenger t layer source action ≡ true → layer ≤ 2

-- where the remainders begin that a layer leads to
unfoldable pub arrival_of : ℕ → ℕ
arrival_of layer = if_same layer 0 0 limits.states

-- where the remainders begin that a layer leaves
unfoldable pub departure_of : ℕ → ℕ
departure_of layer = if_same layer 2 limits.states 0

-- whether there is a move: an internal challenger has none, but where no step is skipped
unfoldable pub has_move : Kind → (challenger : ℕ) → Bool
has_move Plain challenger = not (eqb challenger 0)
has_move Costs challenger = not (eqb challenger 0)
has_move Strong challenger = true

-- where the remainders begin that w leaves: after the move, where there is one
unfoldable pub w_departure_of : Kind → (challenger : ℕ) → ℕ
w_departure_of kind challenger = if_true (has_move kind challenger) limits.states 0

-- how many prices stand behind those of the states
abbrev pub further_prices : Kind → ℕ
further_prices Plain = 0
further_prices Costs = 1
further_prices Strong = 0

-- how many prices A there are: 'A for n states', or K14, 'one price A for t'
unfoldable pub first_prices : Kind → (n : ℕ) → ℕ
first_prices Plain n = n
first_prices Costs n = n
first_prices Strong n = 1

-- how many prices a refutation has: A, 'then B for n states if the action is external, then G for n states'; B where there is a move
unfoldable pub prices_by : Kind → (n challenger : ℕ) → ℕ
prices_by kind n challenger = first_prices kind n + if_true (has_move kind challenger) (2 * n) n + further_prices kind

-- the price L at a place, 0 where the rule has none
abbrev pub further_at : Kind → List ℕ → ℕ → ℤ
further_at Plain C at = pos 0
further_at Costs C at = signed_at C at
further_at Strong C at = pos 0

-- it is read, a number of four bytes
pub record IsFurther (kind : Kind) (C : List ℕ) (at : ℕ) (l : ℤ) : Type 0 where
  pub is : l ≡ further_at kind C at
  pub small : mag l < 2 ^ 31

-- which price condition a transition has by its action: 'for each transition with its action', from A to B; 'for each internal transition', with A
-- and with B. For an internal challenger B is A
unfoldable pub weak_condition : (challenger action : ℕ) → Condition
weak_condition challenger action = if_same action challenger Across (if_same action 0 Within Unasked)

-- document 02, K14: 'for each such transition', 'and no other price condition'
unfoldable pub strong_condition : (challenger t source action : ℕ) → Condition
strong_condition challenger t source action = if_true (own_transition challenger t source action) Across Unasked

-- which it has by each rule, by its source too, against the defender t
unfoldable pub condition_by : Kind → (challenger t source action : ℕ) → Condition
condition_by Plain challenger t source action = weak_condition challenger action
condition_by Costs challenger t source action = weak_condition challenger action
condition_by Strong challenger t source action = strong_condition challenger t source action
