-- Document 02, K11: the pieces of a composition and of hiding, computed on two small automata. No theorem about relations pins a label or an order.
use Rattle.std.specs.Prelude.{ℕ, ◌≡◌, refl, eqb}
use Rattle.std.proofs.Common.{arith}
use Rattle.bisimulation.specs.definitions.Choice.{if_less, if_same, if_true}
use Rattle.bisimulation.specs.definitions.Automaton.{Automaton}
use Rattle.bisimulation.specs.definitions.Joined.{larger}
use Rattle.bisimulation.specs.definitions.Composed.{state_at, highest, highest_label, pair_label, left_alone, together, right_alone, Shared, move_source, move_action, move_denominator, move_weight, LinkedBeside}
use Rattle.bisimulation.specs.definitions.Hidden.{hidden_action}

-- two states, labels 0 1, three actions. Transition 0: state 0, action 1, to 0 and 1 with 1/2. Transition 1: state 1, internal, to 0
unfoldable pub left_small : Automaton
left_small =
    record {
      states = 2;
      actions = 3;
      transitions = 2;
      label = λ v. v;
      source = λ q. q;
      action = λ q. if_same q 0 1 0;
      denominator = λ q. if_same q 0 2 1;
      weight = λ q v. if_same q 0 1 (if_same v 0 1 0);
    }

-- three states, labels 1 3 0, two actions. Transition 0: state 1, internal, to 0. Transition 1: state 2, action 1, to 0 with 1/3, to 1 with 2/3
unfoldable pub right_small : Automaton
right_small =
    record {
      states = 3;
      actions = 2;
      transitions = 2;
      label = λ v. if_same v 0 1 (if_same v 1 3 0);
      source = λ q. if_same q 0 1 2;
      action = λ q. q;
      denominator = λ q. if_same q 0 1 3;
      weight = λ q v. if_same q 0 (if_same v 0 1 0) (if_same v 0 1 (if_same v 1 2 0));
    }

-- (1,2); the highest label is neither the first nor the last; the labels of (1,0), (0,1) and (1,1)
pub state-cases : (state_at 3 1 2 ≡ 5) × (highest_label right_small ≡ 3) × (pair_label left_small right_small 1 0 ≡ 5) × (pair_label left_small right_small 0 1 ≡ 3) × (pair_label left_small right_small 1 1 ≡ 7)
unfolding if_less if_same larger state_at highest pair_label left_small right_small
state-cases = (refl, refl, refl, refl, refl)

-- the two do action 1 together from (0,2): over 6, with 2 at (1,1) and 0 at (1,2)
pub together-cases : (move_source left_small right_small (together 0 1) ≡ 2) × (move_action left_small right_small (together 0 1) ≡ 1) × (move_denominator left_small right_small (together 0 1) ≡ 6) × (move_weight left_small right_small (together 0 1) 1 1 ≡ 2) × (move_weight left_small right_small (together 0 1) 1 2 ≡ 0)
unfolding if_same state_at move_source move_action move_denominator move_weight left_small right_small
together-cases = (refl, refl, refl, refl, refl)

-- from (1,2) the left alone to (0,2), and not to (0,1); from (1,1) the right alone to (1,0), and not to (0,0)
pub left-cases : (move_source left_small right_small (left_alone 1 2) ≡ 5) × (move_action left_small right_small (left_alone 1 2) ≡ 0) × (move_denominator left_small right_small (left_alone 1 2) ≡ 1) × (move_weight left_small right_small (left_alone 1 2) 0 2 ≡ 1) × (move_weight left_small right_small (left_alone 1 2) 0 1 ≡ 0)
unfolding if_same state_at move_source move_action move_denominator move_weight left_small right_small
left-cases = (refl, refl, refl, refl, refl)

pub right-cases : (move_source left_small right_small (right_alone 1 0) ≡ 4) × (move_action left_small right_small (right_alone 1 0) ≡ 0) × (move_denominator left_small right_small (right_alone 1 0) ≡ 1) × (move_weight left_small right_small (right_alone 1 0) 1 0 ≡ 1) × (move_weight left_small right_small (right_alone 1 0) 0 0 ≡ 0)
unfolding if_same state_at move_source move_action move_denominator move_weight left_small right_small
right-cases = (refl, refl, refl, refl, refl)

-- 1 is shared, 0 is not, and neither is 2, which one of them declares
pub shared-cases : Shared left_small right_small 1 × (Shared left_small right_small 0 → ⊥) × (Shared left_small right_small 2 → ⊥) × (Shared right_small left_small 2 → ⊥)
unfolding left_small right_small
shared-cases = (
  record { external = omega arith; left = omega arith; right = omega arith },
  λ h. omega (arith, h.external),
  λ h. omega (arith, h.right),
  λ h. omega (arith, h.left),
)

-- linked 0 and 1 link (0,2) with (1,2); (0,2) and (1,1) are linked by nothing
pub linked-cases : (W : ℕ → ℕ → Type 0) → (W 0 1 → LinkedBeside 3 W 2 5) × (LinkedBeside 3 W 2 4 → ⊥)
unfolding state_at
linked-cases W =
    (λ h. record { s = 0; t = 1; e = 2; state = omega arith; first = refl; second = refl; linked = h }, λ h. omega (arith, h.first, h.second))

-- a chosen action becomes 0, and another keeps its number
pub hidden-cases : (hidden_action (λ a. eqb a 2) 2 ≡ 0) × (hidden_action (λ a. eqb a 2) 3 ≡ 3)
unfolding if_true hidden_action
hidden-cases = (refl, refl)
