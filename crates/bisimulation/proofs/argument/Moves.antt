-- How a defender moves against a challenger, layer by layer, and with what its ends are coupled. Which layers a movement has, and which
-- transitions they use, is a parameter: document 01's step rule has one movement for each kind of challenger, another rule brings its own.
use Rattle.std.specs.Prelude.{ℕ, suc, ◌+◌, ◌*◌, ◌≤◌, ◌<◌, ◌≡◌, Bool, true, false}
use Rattle.bisimulation.specs.definitions.Choice.{if_same}
use Rattle.bisimulation.specs.definitions.Sum.{sum}
use Rattle.bisimulation.specs.definitions.Automaton.{Automaton}
use Rattle.bisimulation.specs.definitions.StepRule.{Flow, arriving, leaving, over_targets, StepRule}

-- a layer: which transitions it may use, by source and action, and whether it is a step, that all of what is there takes once, or each part
-- of it takes as many as it will
pub record Layer : Type 1 where
  pub allows : (source action : ℕ) → Type 0
  pub step : Bool

-- a movement: so many layers, one after the other
pub record Movement : Type 1 where
  pub count : ℕ
  pub layer : ℕ → Layer

-- of one layer
abbrev pub one_movement : Layer → Movement
one_movement l = record { count = 1; layer = λ i. l }

-- the layer of internal transitions
abbrev pub internally : Layer
internally = record { allows = λ s b. b ≡ 0; step = false }

-- document 01's: layer 0 for an internal challenger, layers 0, 1 and 2 for an external one, with its action a in layer 1
abbrev pub internal_movement : Movement
internal_movement = one_movement internally

abbrev pub external_movement : ℕ → Movement
external_movement a = record { count = 3; layer = λ i. if_same i 1 (record { allows = λ s b. b ≡ a; step = true }) internally }

unfoldable pub plain_movement : (a : ℕ) → Movement
plain_movement a = if_same a 0 internal_movement (external_movement a)

-- D at t, and nothing elsewhere
unfoldable pub start : (t D : ℕ) → ℕ → ℕ
start t D v = if_same v t D 0

-- a layer uses only transitions that are allowed: a k of another is 0
abbrev pub Uses : Automaton → (allows : (source action : ℕ) → Type 0) → (ℕ → ℕ) → Type 0
Uses A allows k = (r : ℕ) → r < A.transitions → 0 < k r → allows (A.source r) (A.action r)

-- k takes the amounts x at the states to y, in one layer
pub record Through (A : Automaton) (l : Layer) (k x y : ℕ → ℕ) : Type 0 where
  pub uses : Uses A l.allows k
  pub balance : (v : ℕ) → v < A.states → x v + arriving A k v ≡ leaving A k v + y v
  pub all : l.step ≡ true → (v : ℕ) → v < A.states → leaving A k v ≡ x v

-- the k of all layers take x to y; between them lie the amounts before each layer, and after the last
pub record Moves (A : Automaton) (m : Movement) (k : ℕ → ℕ → ℕ) (x y : ℕ → ℕ) : Type 0 where
  pub between : ℕ → ℕ → ℕ
  pub starts : (v : ℕ) → v < A.states → between 0 v ≡ x v
  pub through : (i : ℕ) → i < m.count → Through A (m.layer i) (k i) (between i) (between (suc i))
  pub ends : (v : ℕ) → v < A.states → between m.count v ≡ y v

-- a w of unrelated states is 0, for w from n states to m states
abbrev pub Relates : (W : ℕ → ℕ → Type 0) → (n m : ℕ) → (ℕ → ℕ → ℕ) → Type 0
Relates W n m w = (v u : ℕ) → v < n → u < m → 0 < w v u → W v u

-- w couples amounts at n states with D times the weights p of m states over the denominator d: the equation 'at each u'
pub record Couples (W : ℕ → ℕ → Type 0) (n m d D : ℕ) (p : ℕ → ℕ) (w : ℕ → ℕ → ℕ) : Type 0 where
  pub related : Relates W n m w
  pub target : (u : ℕ) → u < m → d * sum n (λ v. w v u) ≡ p u * D

-- t meets the challenger q by a movement: it moves, and its ends are coupled by w with the challenger's. A rule may ask more of the flow
pub record MetBy (A : Automaton) (m : Movement) (More : Flow → Type 0) (W : ℕ → ℕ → Type 0) (q t : ℕ) : Type 0 where
  pub flow : Flow
  pub at_least_one : 1 ≤ flow.D
  pub moves : Moves A m flow.k (start t flow.D) (over_targets A flow.w)
  pub couples : Couples W A.states A.states (A.denominator q) flow.D (A.weight q) flow.w
  pub more : More flow

-- what a step rule asks of a flow besides, and nothing
abbrev pub Besides : Type 1
Besides = Automaton → (q t : ℕ) → Flow → Type 0

abbrev pub Nothing : Besides
Nothing A q t f = Unit {0}

-- a step rule says what a movement says, one for each challenger's action a and defender t
pub record ByMovement (met : StepRule) (movement : (a t : ℕ) → Movement) (More : Besides) : Type 1 where
  pub to : (A : Automaton) (W : ℕ → ℕ → Type 0) (q t : ℕ) → met A W q t → MetBy A (movement (A.action q) t) (More A q t) W q t
  pub from : (A : Automaton) (W : ℕ → ℕ → Type 0) (q t : ℕ) → MetBy A (movement (A.action q) t) (More A q t) W q t → met A W q t

-- a movement can do a transition of s with the action a once: in one layer, where no other is a step
pub record DoesOnce (m : Movement) (s a : ℕ) : Type 0 where
  pub layer : ℕ
  pub below : layer < m.count
  pub allows : (m.layer layer).allows s a
  pub others : (j : ℕ) → j < m.count → (j ≡ layer → ⊥) → (m.layer j).step ≡ true → ⊥

-- a movement whose layers may use transitions of any source
abbrev pub OfAnySource : Movement → Type 0
OfAnySource m = (i : ℕ) → i < m.count → (s v a : ℕ) → (m.layer i).allows s a → (m.layer i).allows v a
