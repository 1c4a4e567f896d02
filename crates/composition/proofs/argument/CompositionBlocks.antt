-- What the two theorems say of files: states in one block of a certificate accepted for a model's file lie in one block of every certificate
-- accepted for the file after hiding, and beside any state of another model for the file of the composition.
use Rattle.std.specs.Prelude.{ℕ, ◌<◌, refl, List, length}
use Rattle.bisimulation.specs.definitions.StepRule.{Met}
use Rattle.bisimulation.specs.definitions.Largest.{LargestBisimulation}
use Rattle.bisimulation.specs.definitions.Composed.{state_at, LinkedBeside}
use Rattle.rules.specs.definitions.Limits.{Limits}
use Rattle.rules.specs.definitions.Model.{Model, model_bytes, automaton_of}
use Rattle.rules.specs.definitions.SoundModel.{Bytes, SoundModel, FitsWidths}
use Rattle.rules.specs.definitions.Accepted.{FileOf}
use Rattle.rules.specs.definitions.JudgedBy.{plain_pairs_at, AcceptedBy}
use Rattle.rules.specs.definitions.Demand3.{InOneBlock}
use Rattle.rules.proofs.argument.SoundModelLaws.{sound-bytes}
use Rattle.rules.proofs.argument.PlainRules.{plain_rules_at, whole_files}
use Rattle.rules.proofs.argument.Demand3Holds.{facts-of}
use Rattle.composition.specs.definitions.Composition.{composed, composed_file}
use Rattle.composition.specs.definitions.Hiding.{hidden, hidden_file}
use Rattle.composition.proofs.argument.HidingLaws.{hidden-sound}
use Rattle.composition.proofs.argument.ComposeAnswerLaws.{composed-bisimulation}
use Rattle.composition.proofs.argument.HideAnswerLaws.{hidden-bisimulation}

module _ (L : Limits) (widths : FitsWidths L) (few : L.refutations < 65536) where
  -- accepted blocks are the largest relation of the file's model
  accepted-largest : (bytes C blocks : List ℕ) → Bytes bytes → Bytes C → AcceptedBy (plain_pairs_at L) bytes C blocks → (M : Model) → FileOf L bytes M → LargestBisimulation Met (automaton_of M) (InOneBlock blocks)
  accepted-largest bytes C blocks b c a M f =
      (facts-of (plain_rules_at L widths few) bytes C blocks b c a M (record { reads = ((whole_files L widths).exactly bytes M b).1 f })).largest

  -- and of a sound model's own file
  own-largest : (M : Model) → SoundModel L M → (C blocks : List ℕ) → Bytes C → AcceptedBy (plain_pairs_at L) (model_bytes M) C blocks → LargestBisimulation Met (automaton_of M) (InOneBlock blocks)
  own-largest M ok C blocks c a = accepted-largest (model_bytes M) C blocks (sound-bytes L M widths ok) c a M (record { sound = ok; encoded = refl })

  -- states share a block of a certificate accepted for the model's file, the left one's in a composition
  module _ (bytes C blocks : List ℕ) (b : Bytes bytes) (c : Bytes C) (a : AcceptedBy (plain_pairs_at L) bytes C blocks) (M : Model) (f : FileOf L bytes M) where
    -- after hiding they still share one
    pub hidden-blocks : (set D shared : List ℕ) → Bytes D → AcceptedBy (plain_pairs_at L) (hidden_file set M) D shared → (s t : ℕ) → InOneBlock blocks s t → InOneBlock shared s t
    hidden-blocks set D shared d k s t h =
        (own-largest (hidden set M) (hidden-sound L set M f.sound) D shared d k).largest (InOneBlock blocks)
        (hidden-bisimulation set M (InOneBlock blocks) (accepted-largest bytes C blocks b c a M f).itself) s t h

    -- on the composition (s,e) and (t,e) do, for every state e of the right
    pub composed-blocks : (N : Model) → SoundModel L N → SoundModel L (composed M N) → (D shared : List ℕ) → Bytes D → AcceptedBy (plain_pairs_at L) (composed_file M N) D shared → (s t e : ℕ) → e < length N.labels → InOneBlock blocks s t → InOneBlock shared (state_at (length N.labels) s e) (state_at (length N.labels) t e)
    composed-blocks N g ok D shared d k s t e l h =
        (own-largest (composed M N) ok D shared d k).largest (LinkedBeside (length N.labels) (InOneBlock blocks))
        (composed-bisimulation L M N f.sound g (InOneBlock blocks) (accepted-largest bytes C blocks b c a M f).itself) _ _
        (record { s = s; t = t; e = e; state = l; first = refl; second = refl; linked = h })
