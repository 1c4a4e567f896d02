-- Document 01, 'The certificate': the blocks and the questions of the flows, for any step rule.
use Rattle.std.specs.Prelude.{ℕ, ◌<◌, ◌≡◌, ◌≢◌, true}
use Rattle.bisimulation.specs.definitions.Automaton.{Automaton}
use Rattle.bisimulation.specs.definitions.StepRule.{StepRule}
use Rattle.bisimulation.specs.definitions.Pairs.{Pairs}

-- 'Two states share a block exactly when they are still related', with 'sharing a block' as any relation on states
pub record SharedExactlyWhenLeft (A : Automaton) (R : Pairs) (Same : ℕ → ℕ → Type 0) : Type 0 where
  pub on_states : (s t : ℕ) → Same s t → (s < A.states) × (t < A.states)
  pub related : (s t : ℕ) → Same s t → R s t ≡ true
  pub shared : (s t : ℕ) → s < A.states → t < A.states → R s t ≡ true → Same s t

-- 'for each ordered pair (s,t) of different states in one block .. and for each transition of s': its question is met
pub record QuestionsMet (rule : StepRule) (A : Automaton) (Same : ℕ → ℕ → Type 0) : Type 0 where
  pub met : (s t : ℕ) → Same s t → s ≢ t → (q : ℕ) → q < A.transitions → A.source q ≡ s → rule A Same q t
