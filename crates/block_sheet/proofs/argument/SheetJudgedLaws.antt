-- What the call that writes the sheet answers: the pairs still related share a block, so the sheet is that of the accepted blocks.
use Prim.Native.Nat.{ℕ, zero, suc, ◌+◌, ◌*◌, ◌≤◌, ◌<◌}
use Rattle.std.specs.Prelude.{◌≡◌, refl, Bool, true, false, eqb, length, get_or}
use Rattle.std.proofs.Common.{sym, ◌∙◌, eq-eqb, ne_eqb, arith}
use Rattle.std.proofs.Math.Path.{ap, subst}
use mathlib.Core.List.{List, [], ◌∷◌}
use Rattle.bisimulation.proofs.argument.ChoiceLaws.{past_less, false-not}
use Rattle.bisimulation.specs.definitions.Automaton.{Automaton}
use Rattle.bisimulation.specs.definitions.Pairs.{Pairs, equal_labels}
use Rattle.rules.specs.definitions.Limits.{Limits, current}
use Rattle.rules.specs.definitions.Model.{automaton_of}
use Rattle.rules.specs.definitions.SoundModel.{Bytes, FitsWidths}
use Rattle.rules.specs.definitions.Faults.{fault}
use Rattle.rules.specs.definitions.Reading.{Reading}
use Rattle.rules.specs.definitions.Certificate.{FileRule, refutation_count, pairs_after, after_refutation, same_block, blocks_at, after_flow}
use Rattle.rules.specs.definitions.Judging.{accepted, refused_in, Question, questions, judge_flows, judge_blocks, judge_refutations, judge_certificate, judge_reading, judge}
use Rattle.rules.specs.definitions.Accepted.{GoodBlocks}
use Rattle.rules.specs.definitions.BlockCount.{block_count}
use Rattle.rules.specs.definitions.JudgedBy.{plain_pairs_at, plain_pairs}
use Rattle.rules.specs.definitions.PlainRule.{plain_rule}
use Rattle.rules.specs.definitions.Answers.{files_outcome}
use Rattle.rules.specs.definitions.Demands.{outcome_by}
use Rattle.rules.proofs.argument.AnyRule.{PairRules, pairs_of}
use Rattle.rules.proofs.argument.SoundModelLaws.{current-fit}
use Rattle.rules.proofs.argument.BlocksRecord.{blocks-good}
use Rattle.rules.proofs.argument.CertificateKept.{not-refused, none-refused}
use Rattle.rules.proofs.argument.LargestBlocks.{Numbered}
use Rattle.rules.proofs.argument.Demand3Holds.{holds_read, facts-of}
use Rattle.rules.proofs.argument.PairOutcome.{FollowsLaws}
use Rattle.rules.proofs.argument.JudgedFirst.{Found, found-outcome}
use Rattle.rules.proofs.argument.DemandsHold.{file-follow, file-late, late-numbered}
use Rattle.rules.proofs.argument.PlainRules.{plain_rules_at, plain_rules}
use Rattle.block_sheet.specs.definitions.Sheet.{members, size_column, sheet}
use Rattle.block_sheet.proofs.argument.SheetLaws.{SharedAsRelated, size-members, some-member, sheet-same, sheet-most}
use Rattle.block_sheet.specs.definitions.SheetAnswer.{related_after, still_related, sheet_file, writes_sheet, SheetNumber}

-- judging accepts the blocks of the record that it read, and they are good for the pairs left
module _ (L : Limits) (rule : FileRule) (A : Automaton) (C named : List ℕ) where
  flows-named : (R : Pairs) (blocks : List ℕ) (xs : List Question) (at : ℕ) → accepted named ≡ judge_flows L rule A C R blocks xs at → named ≡ blocks
  unfolding judge_flows
  flows-named R blocks [] at e =
      let q = (past_less (refused_in (fault 22) 2 at) (accepted blocks) at (length C) (not-refused named (fault 22) 2 at) e).1 in cc
  flows-named R blocks (x ∷ xs) at e = flows-named R blocks xs (after_flow C at) (none-refused named _ at _ e).1

  blocks-named : (R : Pairs) (at : ℕ) → accepted named ≡ judge_blocks L rule A C R at → GoodBlocks A R named
  unfolding judge_blocks
  blocks-named R at e =
      let p = none-refused named _ at _ e in
      subst (GoodBlocks A R) (sym (flows-named R (blocks_at A C at) (questions A (blocks_at A C at)) (at + 2 + A.states) p.1)) (blocks-good A C R at p.0)

  refutations-named : (left : ℕ) (R : Pairs) (at : ℕ) → accepted named ≡ judge_refutations L rule A C left R at → GoodBlocks A (related_after rule A C left R at) named
  unfolding judge_refutations related_after
  refutations-named zero R at e = blocks-named R at e
  refutations-named (suc left) R at e = refutations-named left (pairs_after A C R at) (after_refutation rule A C at) (none-refused named _ at _ e).1

  pub accepted-good : accepted named ≡ judge_certificate L rule A C → GoodBlocks A (still_related rule A C) named
  unfolding judge_certificate still_related
  accepted-good e = refutations-named (refutation_count C) (equal_labels A) 4 (none-refused named _ 0 _ e).1

-- blocks that are good for pairs: two states share a block exactly when they are related
good-shared : (A : Automaton) (R : Pairs) (blocks : List ℕ) → GoodBlocks A R blocks → SharedAsRelated R blocks
unfolding same_block
good-shared A R blocks good = record { pair = λ v u h l. go v u h l (R v u) refl }
  where
    go : (v u : ℕ) → v < length blocks → u < length blocks → (t : Bool) → R v u ≡ t → R v u ≡ eqb (get_or blocks v 0) (get_or blocks u 0)
    go v u h l true q = q ∙ sym (eq-eqb _ _ ((good.as_related v u (omega (arith, good.whole)) (omega (arith, good.whole))).1 q))
    go v u h l false q =
        q ∙ sym (ne_eqb _ _ (λ e. false-not (sym q ∙ (good.as_related v u (omega (arith, good.whole)) (omega (arith, good.whole))).0 e)))

-- what follows acceptance, and its numbers
pub sheet-follow : (L : Limits) (widths : FitsWidths L) (few : L.refutations < 65536) (C : List ℕ) → FollowsLaws (plain_rules_at L widths few) (writes_sheet plain_rule C)
sheet-follow L widths few C = file-follow L widths few 28 (sheet_file plain_rule C) (omega arith) (λ z. omega (arith, z))

pub sheet-numbered : (M C : List ℕ) (before : List (List ℕ)) → SheetNumber (outcome_by plain_pairs (writes_sheet plain_rule C) M C before).answer.number
sheet-numbered M C before = late-numbered M C before (writes_sheet plain_rule C) (sheet-follow plain_rules.limits plain_rules.widths plain_rules.refutations C) (λ N. refl)

module _ (by : PairRules) (M C : List ℕ) (b : Bytes M) (c : Bytes C) where
  -- an accepted pair
  module _ (a : Found by M C) where
    abbrev related : Pairs
    related = still_related (by.rule M).file (automaton_of a.N) C

    good : GoodBlocks (automaton_of a.N) related a.blocks
    unfolding judge judge_reading
    good =
        accepted-good by.limits (by.rule M).file (automaton_of a.N) C a.blocks
        (sym a.judged ∙ ap (λ (r : Reading). judge_reading by.limits (by.rule M).file r C) a.reads)

    -- test 18: the pairs still related are those that share an accepted block
    pub found-shared : SharedAsRelated related a.blocks
    found-shared = good-shared (automaton_of a.N) related a.blocks good

    -- its blocks: one for each state, at least one and no more than the limit, numbered by first appearance
    pub record Whole : Type 0 where
      pub size : length a.blocks ≡ length a.N.labels
      pub some : 1 ≤ length a.blocks
      pub few : length a.blocks ≤ by.limits.states
      pub numbered : Numbered (length a.blocks) a.blocks

    pub found-whole : Whole
    found-whole =
        let f = facts-of by M C a.blocks b c (record { answers = a.judged }) a.N (holds_read by M b a.reads) in
        record {
          size = f.whole;
          some = omega (arith, f.whole, f.sound.some_state);
          few = omega (arith, f.whole, f.sound.states);
          numbered = subst (λ (n : ℕ). Numbered n a.blocks) (sym f.whole) f.numbered;
        }

    -- so the size column is the number of a block's members
    pub found-sizes : (k : ℕ) → k < block_count a.blocks → size_column related a.blocks k ≡ length (members a.blocks k)
    found-sizes k h = size-members related a.blocks found-shared k (some-member a.blocks found-whole.numbered found-whole.some k h)

    -- and the sheet is that of the blocks
    pub found-sheet : sheet_file (by.rule M).file C a.N a.blocks ≡ sheet (same_block a.blocks) a.blocks
    unfolding sheet_file
    found-sheet = sheet-same related a.blocks found-shared found-whole.numbered found-whole.some

    -- which is written where there is room for it
    pub found-sheeted : (before : List (List ℕ)) → files_outcome 28 (sheet (same_block a.blocks) a.blocks ∷ []) before ≡ outcome_by (pairs_of by) (writes_sheet (by.rule M).file C) M C before
    found-sheeted before =
        ap (λ (l : List ℕ). files_outcome 28 (l ∷ []) before) (sym found-sheet)
        ∙ found-outcome by M C (writes_sheet (by.rule M).file C) before (λ N end e. omega arith) a

-- 28 only for a buffer shorter than a line of 73 bytes for each of the most states
pub sheet-short : (L : Limits) (widths : FitsWidths L) (few : L.refutations < 65536) (M C buffer : List ℕ) → Bytes M → Bytes C → (outcome_by (plain_pairs_at L) (writes_sheet plain_rule C) M C (buffer ∷ [])).answer.number ≡ 28 → length buffer < 73 * L.states
unfolding sheet_file
sheet-short L widths few M C buffer b c =
    let by = plain_rules_at L widths few in
    file-late by 28 (sheet_file plain_rule C) (sheet-follow L widths few C) (λ z. omega (arith, z)) M C buffer (73 * L.states)
    (λ a. omega (arith, sheet-most (still_related plain_rule (automaton_of a.N) C) a.blocks, (found-whole by M C b c a).few))

-- of less than 9,344 bytes
pub sheet-short-today : (M C buffer : List ℕ) → Bytes M → Bytes C → (outcome_by plain_pairs (writes_sheet plain_rule C) M C (buffer ∷ [])).answer.number ≡ 28 → length buffer < 9344
sheet-short-today = sheet-short current current-fit (omega arith)
