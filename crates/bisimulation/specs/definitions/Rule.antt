-- What a step rule has so that a certificate for it names the largest relation. Document 01's own rule is `plain`; another rule is another
-- value of `Rule`.
use Rattle.std.specs.Prelude.{ℕ, ◌<◌, ◌≡◌, true, ℤ}
use Rattle.bisimulation.specs.definitions.Automaton.{Automaton, SoundAutomaton, SameProbabilities}
use Rattle.bisimulation.specs.definitions.StepRule.{StepRule}
use Rattle.bisimulation.specs.definitions.Pairs.{Pairs}

-- 'Its prices must satisfy ..': the conditions of a refutation by the challenger q against t, given the related pairs and the prices as they
-- follow each other in the record
abbrev pub PriceRule : Type 1
PriceRule = Automaton → Pairs → (q t : ℕ) → (ℕ → ℤ) → Type 0

-- weak duality: what is refuted is met for no relation inside the related pairs
abbrev pub WeakDuality : StepRule → PriceRule → Type 1
WeakDuality met refutes =
    (A : Automaton) → SoundAutomaton A → (R : Pairs) (q t : ℕ) (p : ℕ → ℤ) → q < A.transitions → t < A.states → refutes A R q t p
    → (W : ℕ → ℕ → Type 0) → ((v u : ℕ) → W v u → R v u ≡ true) → met A W q t → ⊥

-- a state meets its own transitions
abbrev pub MeetsOwn : StepRule → Type 1
MeetsOwn met =
    (A : Automaton) → SoundAutomaton A → (W : ℕ → ℕ → Type 0) → ((s : ℕ) → s < A.states → W s s)
    → (q : ℕ) → q < A.transitions → met A W q (A.source q)

-- what is met is met in whatever terms the fractions are written
abbrev pub MetRespelled : StepRule → Type 1
MetRespelled met =
    (A B : Automaton) → SoundAutomaton A → SoundAutomaton B → SameProbabilities A B
    → (W : ℕ → ℕ → Type 0) (q t : ℕ) → q < A.transitions → met A W q t → met B W q t

-- what is met for a relation is met for a wider one
abbrev pub MetWider : StepRule → Type 1
MetWider met =
    (A : Automaton) (W Wide : ℕ → ℕ → Type 0) → ((v u : ℕ) → W v u → Wide v u) → (q t : ℕ) → met A W q t → met A Wide q t

-- a step rule with its price conditions, and what is proved of them
pub record Rule : Type 1 where
  pub met : StepRule
  pub refutes : PriceRule
  pub duality : WeakDuality met refutes
  pub own : MeetsOwn met
  pub respelled : MetRespelled met
  pub wider : MetWider met
