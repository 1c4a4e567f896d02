-- Document 01, 'The step rule'.
use Rattle.std.specs.Prelude.{ℕ, ◌+◌, ◌*◌, ◌≤◌, ◌<◌, ◌≡◌, ◌≢◌}
use Rattle.bisimulation.specs.definitions.Choice.{if_same}
use Rattle.bisimulation.specs.definitions.Sum.{sum}
use Rattle.bisimulation.specs.definitions.Automaton.{Automaton}

-- 'whole numbers D .., k and w, none negative': k of a layer and a transition, w of two states
pub record Flow : Type 0 where
  pub D : ℕ
  pub k : ℕ → ℕ → ℕ
  pub w : ℕ → ℕ → ℕ

-- the two sides of an equation
pub record Sides : Type 0 where
  pub left : ℕ
  pub right : ℕ

-- 'equals'
pub record Holds (e : Sides) : Type 0 where
  pub equal : e.left ≡ e.right

module _ (A : Automaton) where
  -- 'the sum of k times p(v)' over one layer
  unfoldable pub arriving : (ℕ → ℕ) → ℕ → ℕ
  arriving k v = sum A.transitions (λ q. k q * A.weight q v)

  -- 'the sum of k times d' over one layer, 'for transitions leaving v'
  unfoldable pub leaving : (ℕ → ℕ) → ℕ → ℕ
  leaving k v = sum A.transitions (λ q. if_same (A.source q) v (k q * A.denominator q) 0)

  -- 'the sum of w(v,u) over u'
  unfoldable pub over_targets : (ℕ → ℕ → ℕ) → ℕ → ℕ
  over_targets w v = sum A.states (λ u. w v u)

  -- 'the sum of w(v,u) over v'
  unfoldable pub over_sources : (ℕ → ℕ → ℕ) → ℕ → ℕ
  over_sources w u = sum A.states (λ v. w v u)

  module _ (f : Flow) where
    -- 'a external, before the move, at each v'
    unfoldable pub before_move : ℕ → ℕ → Sides
    before_move t v =
        record {
          left = if_same v t f.D 0 + arriving (f.k 0) v;
          right = leaving (f.k 0) v + leaving (f.k 1) v;
        }

    -- 'a external, after the move, at each v'
    unfoldable pub after_move : ℕ → Sides
    after_move v =
        record {
          left = arriving (f.k 1) v + arriving (f.k 2) v;
          right = leaving (f.k 2) v + over_targets f.w v;
        }

    -- 'a internal, at each v'
    unfoldable pub internal_move : ℕ → ℕ → Sides
    internal_move t v =
        record {
          left = if_same v t f.D 0 + arriving (f.k 0) v;
          right = leaving (f.k 0) v + over_targets f.w v;
        }

    -- 'at each u', for the challenger q
    unfoldable pub at_target : ℕ → ℕ → Sides
    at_target q u =
        record {
          left = A.denominator q * over_sources f.w u;
          right = A.weight q u * f.D;
        }

-- 'It is met when whole numbers D of at least 1, k and w .. exist with': the question of the external challenger q against the defender
-- t. A k of another transition, or a w of unrelated states, is 0.
pub record MetExternal (A : Automaton) (W : ℕ → ℕ → Type 0) (q t : ℕ) : Type 0 where
  pub flow : Flow
  pub at_least_one : 1 ≤ flow.D
  pub layer0 : (r : ℕ) → r < A.transitions → 0 < flow.k 0 r → A.action r ≡ 0
  pub layer1 : (r : ℕ) → r < A.transitions → 0 < flow.k 1 r → A.action r ≡ A.action q
  pub layer2 : (r : ℕ) → r < A.transitions → 0 < flow.k 2 r → A.action r ≡ 0
  pub related : (v u : ℕ) → v < A.states → u < A.states → 0 < flow.w v u → W v u
  pub before : (v : ℕ) → v < A.states → Holds (before_move A flow t v)
  pub after : (v : ℕ) → v < A.states → Holds (after_move A flow v)
  pub target : (u : ℕ) → u < A.states → Holds (at_target A flow q u)

-- the same for an internal challenger, with layer 0 alone
pub record MetInternal (A : Automaton) (W : ℕ → ℕ → Type 0) (q t : ℕ) : Type 0 where
  pub flow : Flow
  pub at_least_one : 1 ≤ flow.D
  pub layer0 : (r : ℕ) → r < A.transitions → 0 < flow.k 0 r → A.action r ≡ 0
  pub related : (v u : ℕ) → v < A.states → u < A.states → 0 < flow.w v u → W v u
  pub move : (v : ℕ) → v < A.states → Holds (internal_move A flow t v)
  pub target : (u : ℕ) → u < A.states → Holds (at_target A flow q u)

-- 'A question has a defender t and a challenger transition': it is met by the rule of the challenger's kind
pub record Met (A : Automaton) (W : ℕ → ℕ → Type 0) (q t : ℕ) : Type 0 where
  pub internal : A.action q ≡ 0 → MetInternal A W q t
  pub external : A.action q ≢ 0 → MetExternal A W q t

-- a step rule says when the question of the challenger q against the defender t is met; document 01's is `Met`
abbrev pub StepRule : Type 1
StepRule = Automaton → (W : ℕ → ℕ → Type 0) → (q t : ℕ) → Type 0

-- 'W meets the step rule when, for each (s,t) in W, every transition of s is met by t'
pub record MeetsStepRule (rule : StepRule) (A : Automaton) (W : ℕ → ℕ → Type 0) : Type 0 where
  pub met : (s t : ℕ) → W s t → (q : ℕ) → q < A.transitions → A.source q ≡ s → rule A W q t
