-- Demand 3 of the files, as a statement over the definitions.
use Rattle.std.specs.Prelude.{ℕ, ◌<◌, ◌≡◌, List, length, get_or}
use Rattle.bisimulation.specs.definitions.StepRule.{StepRule}
use Rattle.bisimulation.specs.definitions.Largest.{LargestBisimulation, LargestPairs}
use Rattle.rules.specs.definitions.Model.{Model, automaton_of}
use Rattle.rules.specs.definitions.Reading.{model}
use Rattle.rules.specs.definitions.SoundModel.{Bytes}
use Rattle.rules.specs.definitions.Judging.{Reader, NameSameBlocks}
use Rattle.rules.specs.definitions.JudgedBy.{JudgedBy, AcceptedBy, AcceptedSpelled}

-- 'two states lie in one accepted block'
pub record InOneBlock (blocks : List ℕ) (s t : ℕ) : Type 0 where
  pub first : s < length blocks
  pub second : t < length blocks
  pub same : get_or blocks s 0 ≡ get_or blocks t 0

-- the bytes hold this model and nothing else
pub record HoldsModel (read : Reader) (bytes : List ℕ) (M : Model) : Type 0 where
  pub reads : read bytes ≡ model M (length bytes)

-- 'two states lie in one accepted block exactly when some symmetric relation that links only equally labelled states and meets the step
-- rule links them. Lying in one block is itself such a relation, the largest.'
pub record LargestBlocks (read : Reader) (rule : StepRule) (bytes blocks : List ℕ) : Type 1 where
  pub M : Model
  pub holds : HoldsModel read bytes M
  pub largest : LargestBisimulation rule (automaton_of M) (InOneBlock blocks)

-- demand 3 of what pairs are judged by, for all files of bytes: 'Whenever a certificate is accepted for an automaton, ..'; 'So any two accepted
-- certificates for one automaton name the same blocks, also where two model files spell its fractions differently': the second in whatever terms
pub record Demand3 (by : JudgedBy) : Type 1 where
  pub largest : (bytes C blocks : List ℕ) → Bytes bytes → Bytes C → AcceptedBy by bytes C blocks → LargestBlocks by.read (by.met bytes) bytes blocks
  pub one_answer : (bytes₁ C₁ blocks₁ bytes₂ C₂ blocks₂ : List ℕ) → Bytes bytes₁ → Bytes C₁ → Bytes bytes₂ → Bytes C₂ → AcceptedBy by bytes₁ C₁ blocks₁ → AcceptedSpelled by bytes₂ C₂ blocks₂ → (M₁ M₂ : Model) → HoldsModel by.read bytes₁ M₁ → HoldsModel by.spelled bytes₂ M₂ → by.one_automaton bytes₁ bytes₂ M₁ M₂ → NameSameBlocks blocks₁ blocks₂

-- the first clause for relations that are sets of pairs: what the contract of a call says of the blocks that it accepts
pub record LargestBlockPairs (read : Reader) (rule : StepRule) (bytes blocks : List ℕ) : Type 0 where
  pub M : Model
  pub holds : HoldsModel read bytes M
  pub largest : LargestPairs rule (automaton_of M) (InOneBlock blocks)
