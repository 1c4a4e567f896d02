-- Demand 3 of an automaton: the largest relation that is symmetric, keeps labels and meets the step rule. Quoted is the product's third
-- demand: 'Whenever a certificate is accepted for an automaton, two states lie in one accepted block exactly when some symmetric relation
-- that links only equally labelled states and meets the step rule links them. Lying in one block is itself such a relation, the largest.'
use Rattle.std.specs.Prelude.{ℕ, ◌<◌, ◌≡◌, ◌↔◌, true}
use Rattle.bisimulation.specs.definitions.Automaton.{Automaton}
use Rattle.bisimulation.specs.definitions.StepRule.{StepRule, MeetsStepRule}
use Rattle.bisimulation.specs.definitions.Pairs.{Pairs}

-- a 'symmetric relation' on states 'that links only equally labelled states and meets the step rule'
pub record Bisimulation (rule : StepRule) (A : Automaton) (W : ℕ → ℕ → Type 0) : Type 0 where
  pub on_states : (s t : ℕ) → W s t → (s < A.states) × (t < A.states)
  pub symmetric : (s t : ℕ) → W s t → W t s
  pub keeps_labels : (s t : ℕ) → W s t → A.label s ≡ A.label t
  pub meets : MeetsStepRule rule A W

-- 'some symmetric relation that links only equally labelled states and meets the step rule links them'
pub record Bisimilar (rule : StepRule) (A : Automaton) (s t : ℕ) : Type 1 where
  pub W : ℕ → ℕ → Type 0
  pub bisimulation : Bisimulation rule A W
  pub linked : W s t

-- 'Lying in one block is itself such a relation, the largest', for any relation in the place of 'lying in one block'
pub record LargestBisimulation (rule : StepRule) (A : Automaton) (Same : ℕ → ℕ → Type 0) : Type 1 where
  pub itself : Bisimulation rule A Same
  pub largest : (W : ℕ → ℕ → Type 0) → Bisimulation rule A W → (s t : ℕ) → W s t → Same s t
  pub exactly : (s t : ℕ) → Same s t ↔ Bisimilar rule A s t

-- the same for relations that are sets of pairs, as those of a program are: a contract of a function can say it
pub record Links (W : Pairs) (s t : ℕ) : Type 0 where
  pub linked : W s t ≡ true

pub record BisimilarByPairs (rule : StepRule) (A : Automaton) (s t : ℕ) : Type 0 where
  pub W : Pairs
  pub bisimulation : Bisimulation rule A (Links W)
  pub linked : Links W s t

pub record LargestPairs (rule : StepRule) (A : Automaton) (Same : ℕ → ℕ → Type 0) : Type 0 where
  pub itself : Bisimulation rule A Same
  pub largest : (W : Pairs) → Bisimulation rule A (Links W) → (s t : ℕ) → Links W s t → Same s t
  pub exactly : (s t : ℕ) → Same s t ↔ BisimilarByPairs rule A s t
