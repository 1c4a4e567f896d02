-- Document 02, K8: 'Put the merged model of an accepted certificate beside its original as in K1, without size limits. Call two states
-- linked when they belong to, or stand for, the same block.' No sizes enter.
use Rattle.std.specs.Prelude.{ℕ, ◌+◌, ◌-◌, ◌<◌, ◌≡◌, ◌↔◌}
use Rattle.bisimulation.specs.definitions.Choice.{if_less}
use Rattle.bisimulation.specs.definitions.Automaton.{Automaton}
use Rattle.bisimulation.specs.definitions.StandsFor.{StandForEachOther}

-- the block that an original state belongs to, and that a merged one, which follows them, stands for
unfoldable pub block_of : Automaton → (block : ℕ → ℕ) → ℕ → ℕ
block_of A block v = if_less v A.states (block v) (v - A.states)

-- 'Call two states linked when they belong to, or stand for, the same block'
pub record Linked (A Q : Automaton) (block : ℕ → ℕ) (v u : ℕ) : Type 0 where
  pub first : v < A.states + Q.states
  pub second : u < A.states + Q.states
  pub same : block_of A block v ≡ block_of A block u

-- Q is A merged by blocks: the block of each state is a state of Q and has its label, and the transitions stand for each other. Soundness of
-- the two, and that every state of Q has a member, is said elsewhere
pub record IsMerged (A Q : Automaton) (block : ℕ → ℕ) : Type 0 where
  pub below : (v : ℕ) → v < A.states → block v < Q.states
  pub label : (v : ℕ) → v < A.states → Q.label (block v) ≡ A.label v
  pub transitions : StandForEachOther A Q block

-- Same relates two original states exactly when they 'belong to .. the same block'
abbrev pub SharesBlocks : Automaton → (block : ℕ → ℕ) → (Same : ℕ → ℕ → Type 0) → Type 0
SharesBlocks A block Same = (v u : ℕ) → v < A.states → u < A.states → Same v u ↔ (block v ≡ block u)
