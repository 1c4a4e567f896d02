-- The two sides of a flow's equations as sums over its entries, in their order: what the remainders hold is left less right.
use Rattle.std.specs.Prelude.{ℕ, zero, suc, ◌+◌, ◌*◌, ◌<◌, ◌≡◌, Bool, List, ℤ}
use Rattle.bisimulation.specs.definitions.Choice.{if_same, if_true, unless_same}
use Rattle.bisimulation.specs.definitions.Automaton.{Automaton}
use Rattle.bisimulation.specs.definitions.Pairs.{Pairs}
use Rattle.bisimulation.specs.definitions.StepRule.{Sides}
use Rattle.rules.specs.definitions.Limits.{limits}
use Rattle.rules.specs.definitions.Bytes.{byte_at, four_at}
use Rattle.rules.specs.definitions.Certificate.{FileRule, k_count_at, after_k, w_count_at, flow_at, k_fault, w_fault}
use Rattle.rules.specs.definitions.Faults.{Fault, fault_by, fault, no_fault, first_of, Passes}
use Rattle.rules.specs.definitions.PlainRule.{first_break}
use Rattle.remainders.specs.Remainders.{remainder_at}
use Rattle.remainders.specs.Nonzero.{is_nonzero}
use Rattle.entries_k.specs.Taking.{k_sum, cost_of_k}

-- a sum over the w entries left at a place, of a term for v, u and w
unfoldable pub w_sum : List ℕ → (ℕ → ℕ → ℕ → ℕ) → (left at : ℕ) → ℕ
w_sum C f zero at = 0
w_sum C f (suc left) at = f (byte_at C at) (byte_at C (at + 1)) (four_at C (at + 2)) + w_sum C f left (at + 6)

module _ (A : Automaton) where
  -- what one k entry adds to the left and the right side at v, before the move and after it: layer 0 arrives and leaves before,
  -- layer 1 leaves before and arrives after, layer 2 leaves and arrives after
  unfoldable pub before_left : ℕ → (layer r k : ℕ) → ℕ
  before_left v layer r k = if_same layer 0 (k * A.weight r v) 0

  unfoldable pub before_right : ℕ → (layer r k : ℕ) → ℕ
  before_right v layer r k = if_same layer 2 0 (if_same (A.source r) v (k * A.denominator r) 0)

  unfoldable pub after_left : ℕ → (layer r k : ℕ) → ℕ
  after_left v layer r k = if_same layer 0 0 (k * A.weight r v)

  unfoldable pub after_right : ℕ → (layer r k : ℕ) → ℕ
  after_right v layer r k = if_same layer 2 (if_same (A.source r) v (k * A.denominator r) 0) 0

-- what one w entry adds at v, and at u, with the challenger's denominator d
unfoldable pub taken_at : ℕ → (v u w : ℕ) → ℕ
taken_at x v u w = if_same v x w 0

unfoldable pub given_at : ℕ → ℕ → (v u w : ℕ) → ℕ
given_at d x v u w = if_same u x (d * w) 0

-- the sides of all equations of the flow at a place, for the challenger q against t
module _ (A : Automaton) (C : List ℕ) (q t at : ℕ) where
  abbrev pub k_total : (ℕ → ℕ → ℕ → ℕ) → ℕ
  k_total f = k_sum C f (k_count_at C at) (at + 8)

  abbrev pub w_total : (ℕ → ℕ → ℕ → ℕ) → ℕ
  w_total f = w_sum C f (w_count_at C at) (after_k C at + 2)

  -- before the move; where there is none w leaves here
  unfoldable pub first_left : ℕ → ℕ
  first_left v = if_same v t (four_at C (at + 2)) 0 + k_total (before_left A v)

  unfoldable pub first_right : (moves : Bool) → ℕ → ℕ
  first_right moves v = k_total (before_right A v) + if_true moves 0 (w_total (taken_at v))

  -- after the move
  unfoldable pub second_left : ℕ → ℕ
  second_left v = k_total (after_left A v)

  unfoldable pub second_right : (moves : Bool) → ℕ → ℕ
  second_right moves v = k_total (after_right A v) + if_true moves (w_total (taken_at v)) 0

  -- at each u
  unfoldable pub target_left : ℕ → ℕ
  target_left u = w_total (given_at (A.denominator q) u)

  unfoldable pub target_right : ℕ → ℕ
  target_right u = A.weight q u * four_at C (at + 2)

  -- of the cost equation
  unfoldable pub cost_left : (cost : ℕ → ℕ) → ℕ
  cost_left cost = k_total (cost_of_k cost A)

  unfoldable pub cost_right : (cost : ℕ → ℕ) → ℕ
  cost_right cost = cost q * four_at C (at + 2)

-- the sides of an equation at each state
abbrev pub sides_of : (left right : ℕ → ℕ) → ℕ → Sides
sides_of left right v = record { left = left v; right = right v }

module _ (A : Automaton) (C : List ℕ) (q t at : ℕ) where
  -- the first break before the move, after it, and at the targets
  abbrev pub before_break : (moves : Bool) → Fault
  before_break moves = first_break A 20 (sides_of (first_left A C q t at) (first_right A C q t at moves))

  abbrev pub after_break : (moves : Bool) → Fault
  after_break moves = first_break A 20 (sides_of (second_left A C q t at) (second_right A C q t at moves))

  abbrev pub target_break : Fault
  target_break = first_break A 21 (sides_of (target_left A C q t at) (target_right A C q t at))

-- '30, the cost equation breaks', by what was paid and what was owed
unfoldable pub cost_break : (paid owed : ℕ) → Fault
cost_break paid owed = unless_same paid owed (fault 30) no_fault

-- the sums decide the rule's equations, in this order
pub record Decided (rule : FileRule) (cost : ℕ → ℕ) (moves : Bool) (A : Automaton) (C : List ℕ) (q t at : ℕ) : Type 0 where
  pub is : first_of (before_break A C q t at moves) (first_of (after_break A C q t at moves) (first_of (target_break A C q t at) (cost_break (cost_left A C q t at cost) (cost_right A C q t at cost)))) ≡ rule.equations_fault A q t (flow_at C at)

-- they do so for entries without fault; whether there is a move is told by the challenger's action
abbrev pub DecidesEquations : FileRule → (cost : ℕ → ℕ) → (moves : ℕ → Bool) → Type 0
DecidesEquations rule cost moves =
    (A : Automaton) (C : List ℕ) (R : Pairs) (q t at : ℕ)
    → t < A.states
    → Passes (k_fault rule A C q t (k_count_at C at) (at + 8) 0)
    → Passes (w_fault A C R (w_count_at C at) (after_k C at + 2) 0)
    → Decided rule cost (moves (A.action q)) A C q t at

-- the first of the remainders left, from v on, that is not zero; they begin at `first` in a table
unfoldable pub remainder_break : (number : ℕ) → List ℤ → (first left v : ℕ) → Fault
remainder_break number table first zero v = no_fault
remainder_break number table first (suc left) v =
    unless_same (is_nonzero (remainder_at table (first + v))) 0 (fault_by number v (remainder_at table (first + v)))
    (remainder_break number table first left (v + 1))

-- the equations' fault, by the remainders and by how many of each table are not zero, and by what was paid and what was owed
unfoldable pub verdict_of : (n : ℕ) → List ℤ → (nonzero : ℕ) → List ℤ → (asked : ℕ) → (paid owed : ℕ) → Fault
verdict_of n remainders nonzero target asked paid owed =
    unless_same nonzero 0 (first_of (remainder_break 20 remainders 0 n 0) (first_of (remainder_break 20 remainders limits.states n 0) (fault 20)))
    (unless_same asked 0 (first_of (remainder_break 21 target 0 n 0) (fault 21))
    (cost_break paid owed))
