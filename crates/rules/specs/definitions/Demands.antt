-- The product's demands of a call that judges, by the rules of a pair of files and by what follows acceptance.
use Rattle.std.specs.Prelude.{ℕ, ◌≤◌, ◌≡◌, ◌↔◌, ◌⊎◌, List, length}
use Rattle.rules.specs.definitions.Model.{Model, automaton_of}
use Rattle.rules.specs.definitions.SoundModel.{Bytes}
use Rattle.rules.specs.definitions.Judging.{NameSameBlocks}
use Rattle.rules.specs.definitions.Accepted.{Among, Kept}
use Rattle.rules.specs.definitions.JudgedBy.{JudgedBy, AcceptedSpelled}
use Rattle.rules.specs.definitions.Answers.{Outcome, left_in, Follows, first_lent, pair_outcome}
use Rattle.rules.specs.definitions.Demand3.{HoldsModel, LargestBlockPairs}

-- a number that tells of acceptance: 0, or one that refuses after it
unfoldable pub Accepting : Follows → ℕ → Type 0
Accepting follows number = (number ≡ 0) ⊎ Among number follows.late

-- what a call that judges a pair keeps when it answers a number, with these bytes in the lent buffers before and after it
abbrev pub PairDemands : Type 1
PairDemands = (model certificate : List ℕ) → (before after : List (List ℕ)) → (number : ℕ) → Type 0

module _ (by : JudgedBy) where
  -- the bytes are the file of the sound model M, and the certificate keeps every rule for its automaton and names these blocks: `Accepted`, said
  -- of M
  pub record KeepsRulesOn (model certificate : List ℕ) (M : Model) (blocks : List ℕ) : Type 0 where
    pub file : by.is_file model M
    pub kept : Kept by.limits (by.says model) (by.file model).mark (automaton_of M) certificate blocks

  -- demand 3 of blocks: lying in one of them is the largest relation, and a certificate accepted for a model file that holds the same
  -- automaton, in whatever terms, has the same blocks
  pub record LargestOf (model blocks : List ℕ) : Type 0 where
    pub largest : LargestBlockPairs by.read (by.met model) model blocks
    pub one_answer : (other certificate₂ blocks₂ : List ℕ) → Bytes other → Bytes certificate₂ → AcceptedSpelled by other certificate₂ blocks₂ → (M N : Model) → HoldsModel by.read model M → HoldsModel by.spelled other N → by.one_automaton model other M N → NameSameBlocks blocks blocks₂

  module _ (follows : Follows) where
    -- what the call answers, and leaves in the lent buffers
    abbrev pub outcome_by : (model certificate : List ℕ) → (before : List (List ℕ)) → Outcome
    outcome_by model certificate before = pair_outcome by.limits by.read (by.file model) follows model certificate before

    -- what a call that answers this number keeps, with these bytes in the lent buffers before and after it
    pub record Demands (numbers : ℕ → Type 0) (model certificate : List ℕ) (before after : List (List ℕ)) (number : ℕ) : Type 0 where
      -- demand 1: the number is one of the call's
      pub known : numbers number
      -- demand 2: it tells of acceptance exactly when the certificate keeps every rule on a sound model, and a lent block buffer is long enough
      pub accepts : Accepting follows number ↔ ((M : Model) × (blocks : List ℕ) × KeepsRulesOn model certificate M blocks × (follows.block_room M ≤ length (first_lent before)))
      -- then number and buffers are what follows acceptance
      pub numbered : Accepting follows number → (M : Model) (blocks : List ℕ) → KeepsRulesOn model certificate M blocks → number ≡ (follows.outcome M blocks before).answer.number
      pub written : Accepting follows number → (M : Model) (blocks : List ℕ) → KeepsRulesOn model certificate M blocks → after ≡ left_in (follows.outcome M blocks before)
      -- demand 1: a refusal leaves the buffers as they were
      pub unwritten : (number ≡ 0 → ⊥) → after ≡ before
      -- demand 3, of the blocks for which the rules are kept; the clauses above say that the call's blocks are these
      pub largest : (M : Model) (blocks : List ℕ) → KeepsRulesOn model certificate M blocks → LargestOf model blocks
