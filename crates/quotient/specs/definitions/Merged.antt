-- What is promised of the merged model of an accepted certificate.
use Rattle.std.specs.Prelude.{ℕ, ◌≤◌, ◌<◌, ◌≡◌, List, length, get_or}
use Rattle.bisimulation.specs.definitions.StandsFor.{StandForEachOther, NoTwoSame}
use Rattle.rules.specs.definitions.Limits.{Limits}
use Rattle.rules.specs.definitions.Model.{Model, automaton_of, HoldOneAutomaton}
use Rattle.rules.specs.definitions.Reading.{read_whole}
use Rattle.rules.specs.definitions.SoundModel.{Each, Bytes, LowestTerms, SoundModel}
use Rattle.rules.specs.definitions.Certificate.{FileRule}
use Rattle.rules.specs.definitions.Judging.{AcceptedFor}
use Rattle.rules.specs.definitions.BlockCount.{block_count}
use Rattle.quotient.specs.definitions.Quotient.{quotient, merged_file}
use Rattle.rules.specs.definitions.Demand3.{HoldsModel}

-- the merged model of the model M that the bytes hold: sound, its file holds it and is no longer, its states are the blocks, each with its
-- members' label, its transitions stand for those of M, no two of them are the same, and K10: all are in lowest terms
pub record MergedModel (L : Limits) (bytes : List ℕ) (M : Model) (blocks : List ℕ) : Type 0 where
  pub sound : SoundModel L (quotient M blocks)
  pub holds : HoldsModel (read_whole L) (merged_file M blocks) (quotient M blocks)
  pub short : length (merged_file M blocks) ≤ length bytes
  pub states : length (quotient M blocks).labels ≡ block_count blocks
  pub below : (v : ℕ) → v < length M.labels → get_or blocks v 0 < block_count blocks
  pub label : (v : ℕ) → v < length M.labels → get_or (quotient M blocks).labels (get_or blocks v 0) 0 ≡ get_or M.labels v 0
  pub each : (b : ℕ) → b < block_count blocks → (v : ℕ) × (v < length M.labels) × (get_or blocks v 0 ≡ b)
  pub transitions : StandForEachOther (automaton_of M) (automaton_of (quotient M blocks)) (λ v. get_or blocks v 0)
  pub apart : NoTwoSame (automaton_of (quotient M blocks))
  pub lowest : Each LowestTerms (quotient M blocks).transitions

-- for what a step rule decides of a certificate file; all certificates accepted for model files that hold one automaton have one merged file
pub record Merges (L : Limits) (file : FileRule) : Type 0 where
  pub merged : (bytes C blocks : List ℕ) → Bytes bytes → Bytes C → AcceptedFor L (read_whole L) file bytes C blocks → (M : Model) → HoldsModel (read_whole L) bytes M → MergedModel L bytes M blocks
  pub one_file : (bytes₁ C₁ blocks₁ bytes₂ C₂ blocks₂ : List ℕ) → Bytes bytes₁ → Bytes C₁ → Bytes bytes₂ → Bytes C₂ → AcceptedFor L (read_whole L) file bytes₁ C₁ blocks₁ → AcceptedFor L (read_whole L) file bytes₂ C₂ blocks₂ → (M N : Model) → HoldsModel (read_whole L) bytes₁ M → HoldsModel (read_whole L) bytes₂ N → HoldOneAutomaton M N → merged_file M blocks₁ ≡ merged_file N blocks₂
