-- Document 02, K8, of files: 'Level B users replace one model by the other. Put the merged model of an accepted certificate beside its
-- original as in K1, without size limits. Call two states linked when they belong to, or stand for, the same block. That relation is
-- symmetric, keeps labels and meets the step rule, after K3 as well.'
use Rattle.std.specs.Prelude.{ℕ, ◌+◌, ◌<◌, ◌≡◌, List, length, take, get_or}
use Rattle.bisimulation.specs.definitions.StepRule.{Met}
use Rattle.bisimulation.specs.definitions.Largest.{Bisimulation, BisimilarByPairs}
use Rattle.rules.specs.definitions.Limits.{current}
use Rattle.rules.specs.definitions.Model.{Model, automaton_of}
use Rattle.rules.specs.definitions.SoundModel.{Bytes, SoundModel}
use Rattle.quotient.specs.definitions.Quotient.{quotient}
use Rattle.rules.specs.definitions.JudgedBy.{JudgedBy, plain_pairs, AcceptedBy}
use Rattle.rules.specs.definitions.Answers.{first_written, first_lent}
use Rattle.quotient.specs.definitions.Merged.{MergedModel}
use Rattle.quotient.specs.definitions.ReduceAnswer.{writes_merged, ReduceNumber}
use Rattle.rules.specs.definitions.Demand3.{InOneBlock, HoldsModel}
use Rattle.rules.specs.definitions.Demands.{KeepsRulesOn, outcome_by, Demands}
use Rattle.joined.specs.definitions.Joined.{joined, joined_file}
use Rattle.joined.specs.definitions.AlikeAnswer.{Named, alike_says}
use Rattle.bisimulation.specs.definitions.Beside.{Linked}

-- 'Call two states linked when they belong to, or stand for, the same block': those of M belong to blocks, those of N, which follow them, stand
-- for blocks
abbrev pub LinkedBy : (M N : Model) → (blocks : List ℕ) → ℕ → ℕ → Type 0
LinkedBy M N blocks = Linked (automaton_of M) (automaton_of N) (λ v. get_or blocks v 0)

-- the state that stands for the block of s, by its joined number
abbrev pub stand_in : Model → (blocks : List ℕ) → ℕ → ℕ
stand_in M blocks s = length M.labels + get_or blocks s 0

-- the two as K1's alike is asked of them
abbrev pub with_stand_in : Model → (blocks : List ℕ) → ℕ → Named
with_stand_in M blocks s = record { first_count = length M.labels; first_state = s; second_state = stand_in M blocks s }

module _ (by : JudgedBy) where
  -- N may be used for M, whose states belong to these blocks
  pub record Replaces (M N : Model) (blocks : List ℕ) : Type 0 where
    -- 'That relation is symmetric, keeps labels and meets the step rule', on N 'beside its original as in K1, without size limits'
    pub linked : Bisimulation (Met) (automaton_of (joined M N)) (LinkedBy M N blocks)
    -- each state of N stands for a block
    pub stands : (b : ℕ) → b < length N.labels → (s : ℕ) × (s < length M.labels) × (get_or blocks s 0 ≡ b)
    -- each state of M and the one that stands for its block are linked by some such relation
    pub bisimilar : (s : ℕ) → s < length M.labels → BisimilarByPairs (Met) (automaton_of (joined M N)) s (stand_in M blocks s)
    -- for every certificate accepted for the joined file, where it is within the limits, they lie in one block, and K1's alike says yes of them
    pub one_block : SoundModel by.limits (joined M N) → (certificate shared : List ℕ) → Bytes certificate → AcceptedBy by (joined_file M N) certificate shared → (s : ℕ) → s < length M.labels → InOneBlock shared s (stand_in M blocks s)
    pub alike : SoundModel by.limits (joined M N) → (certificate shared : List ℕ) → Bytes certificate → AcceptedBy by (joined_file M N) certificate shared → (s : ℕ) → s < length M.labels → alike_says by (with_stand_in M blocks s) (joined_file M N) certificate ≡ 1

  -- the theorem of files: the merged model of every accepted certificate may be used for its original. It holds for document 01's step rule at
  -- any limits that the files' fields have room for (`merged-replaces`)
  abbrev pub MergedReplaces : Type 0
  MergedReplaces = (bytes C blocks : List ℕ) → Bytes bytes → Bytes C → AcceptedBy by bytes C blocks → (M : Model) → HoldsModel by.read bytes M → Replaces M (quotient M blocks) blocks

  -- these bytes hold such a model
  pub record HoldsReplacement (bytes : List ℕ) (M : Model) (blocks : List ℕ) : Type 0 where
    pub N : Model
    pub holds : HoldsModel by.read bytes N
    pub replaces : Replaces M N blocks

-- what the call that reduces keeps. `judging` says that there are M and blocks where it answers 0 or 23, and the length written is the outcome's
pub record ReduceDemands (model certificate : List ℕ) (before after : List (List ℕ)) (number : ℕ) : Type 0 where
  -- the demands of a call that judges
  pub judging : Demands plain_pairs writes_merged (ReduceNumber current.terms) model certificate before after number
  -- the merged model of the accepted blocks is what is promised of one, and may be used for the original: at 0, and at 23, which is an acceptance
  pub merged : (M : Model) (blocks : List ℕ) → KeepsRulesOn plain_pairs model certificate M blocks → MergedModel current model M blocks
  pub replaces : (M : Model) (blocks : List ℕ) → KeepsRulesOn plain_pairs model certificate M blocks → Replaces plain_pairs M (quotient M blocks) blocks
  -- where it answers 0, the bytes that it wrote hold a model that may be used for the original
  pub holds : number ≡ 0 → (M : Model) (blocks : List ℕ) → KeepsRulesOn plain_pairs model certificate M blocks → HoldsReplacement plain_pairs (take (first_written (outcome_by plain_pairs writes_merged model certificate before)) (first_lent after)) M blocks
