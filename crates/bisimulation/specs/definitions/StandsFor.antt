-- Document 02, K3: an automaton whose transitions stand for those of another by blocks, each with the same action and probabilities, and of
-- which no two are the same.
use Rattle.std.specs.Prelude.{ℕ, ◌*◌, ◌<◌, ◌≡◌}
use Rattle.bisimulation.specs.definitions.Choice.{if_same}
use Rattle.bisimulation.specs.definitions.Sum.{sum}
use Rattle.bisimulation.specs.definitions.Automaton.{Automaton}

-- 'its weights added up by target block': what the transition r leads to the block c with
unfoldable pub weight_into : Automaton → (block : ℕ → ℕ) → (r c : ℕ) → ℕ
weight_into A block r c = sum A.states (λ v. if_same (block v) c (A.weight r v) 0)

-- the transition q of Q stands for r of A: it leaves the block of r's source, and 'action and probabilities agree as fractions'
pub record StandsFor (A Q : Automaton) (block : ℕ → ℕ) (q r : ℕ) : Type 0 where
  pub source : Q.source q ≡ block (A.source r)
  pub action : Q.action q ≡ A.action r
  pub probability : (c : ℕ) → c < Q.states → Q.weight q c * A.denominator r ≡ weight_into A block r c * Q.denominator q

-- every transition of A has one of Q that stands for it, and every one of Q stands for one of A
pub record StandForEachOther (A Q : Automaton) (block : ℕ → ℕ) : Type 0 where
  pub kept : (r : ℕ) → r < A.transitions → (q : ℕ) × (q < Q.transitions) × StandsFor A Q block q r
  pub comes : (q : ℕ) → q < Q.transitions → (r : ℕ) × (r < A.transitions) × StandsFor A Q block q r

-- no two transitions of one state have the same action and the same probabilities
pub record NoTwoSame (Q : Automaton) : Type 0 where
  pub apart : (q r : ℕ) → q < r → r < Q.transitions → Q.source q ≡ Q.source r → Q.action q ≡ Q.action r → ((c : ℕ) → c < Q.states → Q.weight q c * Q.denominator r ≡ Q.weight r c * Q.denominator q) → ⊥
