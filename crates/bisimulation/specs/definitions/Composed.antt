-- Document 02, K11: 'the parallel composition of two models, following Segala's rule', which source document 000 has as its definition 3.4.
-- No sizes enter.
use Rattle.std.specs.Prelude.{ℕ, zero, suc, ◌+◌, ◌*◌, ◌<◌, ◌≡◌}
use Rattle.bisimulation.specs.definitions.Choice.{if_same}
use Rattle.bisimulation.specs.definitions.Automaton.{Automaton}
use Rattle.bisimulation.specs.definitions.Joined.{larger}

-- 'State (s,e) has number s times the right model's state count, plus e'
unfoldable pub state_at : (right_states s e : ℕ) → ℕ
state_at right_states s e = s * right_states + e

-- the highest value of f below n, 0 where n is 0
unfoldable pub highest : ℕ → (ℕ → ℕ) → ℕ
highest zero f = 0
highest (suc n) f = larger (highest n f) (f n)

-- 'the right's highest label'
abbrev pub highest_label : Automaton → ℕ
highest_label A = highest A.states A.label

-- 'Its label is the left label times (one more than the right's highest label), plus the right label'
unfoldable pub pair_label : (A B : Automaton) → (s e : ℕ) → ℕ
pair_label A B s e = A.label s * (highest_label B + 1) + B.label e

-- a move of the composition: the left's transition q alone, while the right stands still at e; q and the right's r together; or r alone, while
-- the left stands still at s
pub data Move : Type 0 where
  left_alone : (q e : ℕ) → Move
  together : (q r : ℕ) → Move
  right_alone : (s r : ℕ) → Move

module _ (A B : Automaton) where
  -- 'external actions below both action counts are done together, all others by one side alone'. 0 stands for the internal actions of each side, which
  -- are not the other's (000: 'compatible'), so it is never shared
  pub record Shared (a : ℕ) : Type 0 where
    pub external : 0 < a
    pub left : a < A.actions
    pub right : a < B.actions

  -- 000's three cases: an action of the left alone, and a transition with it; one of both, and a transition of each with it; one of the right alone
  pub record MovesLeft (q e : ℕ) : Type 0 where
    pub transition : q < A.transitions
    pub state : e < B.states
    pub alone : Shared (A.action q) → ⊥

  pub record MovesTogether (q r : ℕ) : Type 0 where
    pub left : q < A.transitions
    pub right : r < B.transitions
    pub shared : Shared (A.action q)
    pub partner : A.action q ≡ B.action r

  pub record MovesRight (s r : ℕ) : Type 0 where
    pub state : s < A.states
    pub transition : r < B.transitions
    pub alone : Shared (B.action r) → ⊥

  unfoldable pub IsMove : Move → Type 0
  IsMove (left_alone q e) = MovesLeft q e
  IsMove (together q r) = MovesTogether q r
  IsMove (right_alone s r) = MovesRight s r

  -- the state (s,e) that it leaves, and its action
  unfoldable pub move_source : Move → ℕ
  move_source (left_alone q e) = state_at B.states (A.source q) e
  move_source (together q r) = state_at B.states (A.source q) (B.source r)
  move_source (right_alone s r) = state_at B.states s (B.source r)

  unfoldable pub move_action : Move → ℕ
  move_action (left_alone q e) = A.action q
  move_action (together q r) = A.action q
  move_action (right_alone s r) = B.action r

  -- 'Products of weights go over the product of denominators'; what stands still is where it is with 1/1
  unfoldable pub move_denominator : Move → ℕ
  move_denominator (left_alone q e) = A.denominator q
  move_denominator (together q r) = A.denominator q * B.denominator r
  move_denominator (right_alone s r) = B.denominator r

  unfoldable pub move_weight : Move → (v x : ℕ) → ℕ
  move_weight (left_alone q e) v x = if_same x e (A.weight q v) 0
  move_weight (together q r) v x = A.weight q v * B.weight r x
  move_weight (right_alone s r) v x = if_same v s (B.weight r x) 0

  -- the transition c of C is this move
  pub record Does (C : Automaton) (c : ℕ) (m : Move) : Type 0 where
    pub source : C.source c ≡ move_source m
    pub action : C.action c ≡ move_action m
    pub denominator : C.denominator c ≡ move_denominator m
    pub weight : (v x : ℕ) → v < A.states → x < B.states → C.weight c (state_at B.states v x) ≡ move_weight m v x

  -- 000's definition 3.4: C has these states, and a transition exactly where there is a move
  pub record IsComposed (C : Automaton) : Type 0 where
    pub states : C.states ≡ A.states * B.states
    -- 'the larger action count is kept'
    pub actions : C.actions ≡ larger A.actions B.actions
    pub label : (s e : ℕ) → s < A.states → e < B.states → C.label (state_at B.states s e) ≡ pair_label A B s e
    pub all : (m : Move) → IsMove m → (c : ℕ) × (c < C.transitions) × Does C c m
    pub only : (c : ℕ) → c < C.transitions → (m : Move) × IsMove m × Does C c m

-- 'linking (s,e) to (t,e) for linked s, t', for a right automaton of so many states
pub record LinkedBeside (right_states : ℕ) (W : ℕ → ℕ → Type 0) (v u : ℕ) : Type 0 where
  pub s : ℕ
  pub t : ℕ
  pub e : ℕ
  pub state : e < right_states
  pub first : v ≡ state_at right_states s e
  pub second : u ≡ state_at right_states t e
  pub linked : W s t
