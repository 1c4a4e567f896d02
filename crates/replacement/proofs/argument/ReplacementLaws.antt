-- The merged model may be used for its original, and the call that reduces keeps what it promises of it. Of how merged transitions are written
-- one fact is used, that they and the original ones stand for each other; beside it, that the merged model is sound, is read back, and has a
-- state for each block with its members' label.
use Rattle.std.specs.Prelude.{ℕ, ◌<◌, ◌≡◌, refl, length, get_or}
use Rattle.std.proofs.Math.Path.{sym, ap}
use Rattle.std.proofs.Common.{◌∙◌, subst, inl, arith}
use mathlib.Core.List.{List, [], ◌∷◌}
use Rattle.std.proofs.Math.ListN.{take}
use Rattle.std.proofs.Math.Seq.{take-append_seam}
use Rattle.bisimulation.specs.definitions.Automaton.{SoundAutomaton}
use Rattle.bisimulation.specs.definitions.StepRule.{Met, MeetsStepRule}
use Rattle.bisimulation.specs.definitions.Largest.{BisimilarByPairs}
use Rattle.rules.specs.definitions.Limits.{Limits, current}
use Rattle.rules.specs.definitions.Model.{Model, automaton_of}
use Rattle.rules.specs.definitions.SoundModel.{Bytes, SoundModel, FitsWidths}
use Rattle.quotient.specs.definitions.Quotient.{quotient, merged_file}
use Rattle.quotient.specs.definitions.Merged.{MergedModel}
use Rattle.rules.specs.definitions.Accepted.{FileOf}
use Rattle.rules.specs.definitions.JudgedBy.{plain_pairs, AcceptedBy}
use Rattle.rules.specs.definitions.Answers.{Outcome, left_in, first_written, filled_with, filled_each, filled, files_outcome, first_lent}
use Rattle.quotient.specs.definitions.ReduceAnswer.{writes_merged, ReduceNumber}
use Rattle.rules.specs.definitions.Demand3.{InOneBlock, HoldsModel}
use Rattle.rules.specs.definitions.Demands.{KeepsRulesOn, outcome_by, Accepting, Demands}
use Rattle.rules.proofs.argument.AnyRule.{PairRules, pairs_of}
use Rattle.rules.proofs.argument.SoundModelLaws.{sound-automaton, sound-bytes, current-fit}
use Rattle.rules.proofs.argument.AnswerLaws.{file-whole, file-fits}
use Rattle.rules.proofs.argument.PairOutcome.{outcome-followed}
use Rattle.rules.proofs.argument.AcceptedExactly.{accepted-exactly}
use Rattle.rules.proofs.argument.Demand3Holds.{AcceptedFacts, facts-of, one-model, largest-block-pairs}
use Rattle.rules.proofs.argument.DemandsHold.{accepted-of, kept_of, holds_of}
use Rattle.quotient.proofs.argument.ReduceAnswerLaws.{merged-follow-today}
use Rattle.rules.proofs.argument.PlainRules.{whole_rules, plain_certificates, plain_rules}
use Rattle.quotient.proofs.argument.QuotientHolds.{merges, plain-merges}
use Rattle.joined.specs.definitions.Joined.{joined, joined_file}
use Rattle.joined.proofs.argument.JoinedLaws.{joined-automaton, joined-states}
use Rattle.joined.specs.definitions.AlikeAnswer.{alike_says}
use Rattle.joined.proofs.argument.AlikeAnswerLaws.{says-alike}
use Rattle.bisimulation.specs.definitions.Joined.{IsJoined}
use Rattle.bisimulation.specs.definitions.Beside.{IsMerged, SharesBlocks}
use Rattle.bisimulation.proofs.argument.BesideLaws.{linked_bisimulation, stand_in_bisimilar}
use Rattle.replacement.specs.definitions.Replacement.{stand_in, with_stand_in, Replaces, MergedReplaces, HoldsReplacement, ReduceDemands}

module _ (L : Limits) (widths : FitsWidths L) (few : L.refutations < 65536) where
  abbrev by : PairRules
  by = whole_rules L widths few plain_certificates

  -- where the joined file is within the limits, every certificate accepted for it tells of two bisimilar states
  module _ (M N : Model) (blocks : List ℕ) (sound : SoundModel L (joined M N)) (C shared : List ℕ) (c : Bytes C) (a : AcceptedBy (pairs_of by) (joined_file M N) C shared) (s : ℕ) (l : s < length M.labels) (below : get_or blocks s 0 < length N.labels) (bisimilar : BisimilarByPairs Met (automaton_of (joined M N)) s (stand_in M blocks s)) where
    b : Bytes (joined_file M N)
    b = sound-bytes L (joined M N) widths sound

    is-file : FileOf L (joined_file M N) (joined M N)
    is-file = record { sound = sound; encoded = refl }

    holds : HoldsModel by.models.read (joined_file M N) (joined M N)
    holds = record { reads = (by.models.exactly (joined_file M N) (joined M N) b).1 is-file }

    -- in one block
    in-one-block : InOneBlock shared s (stand_in M blocks s)
    in-one-block =
        let largest = largest-block-pairs by (joined_file M N) C shared b c a in
        let one = one-model by (joined_file M N) (joined M N) largest.M holds largest.holds in
        (largest.largest.exactly s (stand_in M blocks s)).1 (subst (λ (J : Model). BisimilarByPairs Met (automaton_of J) s (stand_in M blocks s)) one bisimilar)

    -- yes
    said-yes : alike_says (pairs_of by) (with_stand_in M blocks s) (joined_file M N) C ≡ 1
    said-yes =
        let said = says-alike by (joined_file M N) C b c (with_stand_in M blocks s) _ refl in
        let kept = kept_of by (joined_file M N) C shared b (joined M N) holds ((accepted-exactly by (joined_file M N) C shared b c).0 a) in
        let parted =
        (said.parted (joined M N) shared kept).1
        (record { count = omega (arith, joined-states M N); first = l; second = omega arith; inside = omega (arith, below, joined-states M N) }) in
        (said.exactly parted (joined M N) is-file).1 bisimilar

  -- the theorem of files
  module _ (bytes C blocks : List ℕ) (b : Bytes bytes) (c : Bytes C) (a : AcceptedBy (pairs_of by) bytes C blocks) (M : Model) (h : HoldsModel by.models.read bytes M) where
    abbrev N : Model
    N = quotient M blocks

    abbrev block : ℕ → ℕ
    block v = get_or blocks v 0

    m : MergedModel L bytes M blocks
    m = (merges L widths few plain_certificates).merged bytes C blocks b c a M h

    facts : AcceptedFacts by bytes M blocks
    facts = facts-of by bytes C blocks b c a M h

    below : (s : ℕ) → s < length M.labels → block s < length N.labels
    below s l = omega (arith, m.below s l, m.states)

    -- the merged model is one in the terms of automata, and 'in one block' is what its blocks share
    merged : IsMerged (automaton_of M) (automaton_of N) block
    unfolding automaton_of
    merged = record { below = below; label = m.label; transitions = m.transitions }

    shares : SharesBlocks (automaton_of M) block (InOneBlock blocks)
    unfolding automaton_of
    shares v u l k = (λ e. e.same, λ e. record { first = omega (arith, facts.whole); second = omega (arith, facts.whole); same = e })

    sound_a : SoundAutomaton (automaton_of M)
    sound_a = sound-automaton L M facts.sound

    sound_q : SoundAutomaton (automaton_of N)
    sound_q = sound-automaton L N m.sound

    beside : IsJoined (automaton_of M) (automaton_of N) (automaton_of (joined M N))
    beside = joined-automaton M N facts.sound.transitions

    meets : MeetsStepRule Met (automaton_of M) (InOneBlock blocks)
    meets = facts.largest.itself.meets

    each : (s : ℕ) → s < length M.labels → BisimilarByPairs Met (automaton_of (joined M N)) s (stand_in M blocks s)
    unfolding automaton_of
    each s l = stand_in_bisimilar (automaton_of M) (automaton_of N) (automaton_of (joined M N)) block sound_a sound_q beside merged (InOneBlock blocks) shares meets s l

    replaces : Replaces (pairs_of by) M N blocks
    replaces =
        record {
          linked = linked_bisimulation (automaton_of M) (automaton_of N) (automaton_of (joined M N)) block sound_a sound_q beside merged (InOneBlock blocks) shares meets;
          stands = λ b l. m.each b (omega (arith, m.states));
          bisimilar = each;
          one_block = λ sound D shared d e s l. in-one-block M N blocks sound D shared d e s l (below s l) (each s l);
          alike = λ sound D shared d e s l. said-yes M N blocks sound D shared d e s l (below s l) (each s l);
        }

  pub merged-replaces : MergedReplaces (pairs_of by)
  merged-replaces = replaces

-- the call that reduces keeps its demands where it keeps those of a call that judges
module _ (model certificate lent : List ℕ) (after : List (List ℕ)) (number : ℕ) (b : Bytes model) (c : Bytes certificate) (e : number ≡ (outcome_by plain_pairs writes_merged model certificate (lent ∷ [])).answer.number) (d : Demands plain_pairs writes_merged (ReduceNumber current.terms) model certificate (lent ∷ []) after number) where
  abbrev before : List (List ℕ)
  before = lent ∷ []

  abbrev o : Outcome
  o = outcome_by plain_pairs writes_merged model certificate before

  module _ (M : Model) (blocks : List ℕ) (k : KeepsRulesOn plain_pairs model certificate M blocks) where
    abbrev file : List ℕ
    file = merged_file M blocks

    accepted : AcceptedBy plain_pairs model certificate blocks
    accepted = (accepted-exactly plain_rules model certificate blocks b c).1 (accepted-of plain_rules model certificate blocks b M k)

    read : HoldsModel plain_pairs.read model M
    read = holds_of plain_rules model certificate blocks b M k

    merged-model : MergedModel current model M blocks
    merged-model = plain-merges.merged model certificate blocks b c accepted M read

    used-for : Replaces plain_pairs M (quotient M blocks) blocks
    used-for = merged-replaces current current-fit (omega arith) model certificate blocks b c accepted M read

    followed : files_outcome 23 (file ∷ []) before ≡ o
    followed = outcome-followed plain_rules writes_merged merged-follow-today model certificate before blocks read.reads accepted.answers (omega arith)

    module _ (z : number ≡ 0) where
      whole : filled (file ∷ []) before ≡ o
      whole = file-whole 23 file lent (file-fits 23 file lent (λ w. omega (arith, w)) (ap (λ (x : Outcome). x.answer.number) followed ∙ sym e ∙ z)) ∙ followed

      -- the bytes written are the merged file
      abbrev written : List ℕ
      written = take (first_written o) (first_lent after)

      wrote : written ≡ file
      unfolding filled filled_each filled_with Accepting
      wrote =
          ap (λ (x : Outcome). take (first_written x) (first_lent after)) (sym whole)
          ∙ ap (λ (l : List (List ℕ)). take (length file) (first_lent l)) (d.written (inl z) M blocks k ∙ ap left_in (followed ∙ sym whole))
          ∙ take-append_seam file _

      replacement : HoldsReplacement plain_pairs written M blocks
      replacement =
          record {
            N = quotient M blocks;
            holds = subst (λ (s : List ℕ). HoldsModel plain_pairs.read s (quotient M blocks)) (sym wrote) merged-model.holds;
            replaces = used-for;
          }

  pub reduce-demands : ReduceDemands model certificate before after number
  reduce-demands = record { judging = d; merged = merged-model; replaces = used-for; holds = λ z M blocks k. replacement M blocks k z }
