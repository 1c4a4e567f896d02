-- What follows acceptance in the call that reduces, and which numbers it answers.
use Rattle.std.specs.Prelude.{ℕ, ◌≤◌, ◌<◌, ◌⊎◌, ◌≡◌, List, [], ◌∷◌, length}
use Rattle.std.proofs.Common.{inl, inr, ⊎_elim, arith}
use Rattle.rules.specs.definitions.Limits.{Limits, current, longest_model}
use Rattle.rules.specs.definitions.Reading.{ReadNumber}
use Rattle.rules.specs.definitions.SoundModel.{Bytes, FitsWidths}
use Rattle.rules.specs.definitions.JudgedBy.{plain_pairs_at, plain_pairs}
use Rattle.rules.specs.definitions.Demands.{outcome_by}
use Rattle.rules.proofs.argument.PairOutcome.{FollowsLaws, outcome-number}
use Rattle.rules.proofs.argument.SoundModelLaws.{current-fit}
use Rattle.rules.proofs.argument.ReadingLaws.{read_low}
use Rattle.rules.proofs.argument.LengthLaws.{sound-within, longest-file}
use Rattle.rules.proofs.argument.PlainRules.{plain_certificates, plain_rules_at, plain_rules}
use Rattle.rules.proofs.argument.Demand3Holds.{holds_read}
use Rattle.rules.proofs.argument.DemandsHold.{one-late, plain-refusal, file-follow, file-late}
use Rattle.quotient.specs.definitions.Quotient.{quotient, merged_file}
use Rattle.quotient.specs.definitions.ReduceAnswer.{writes_merged, ReduceNumber}
use Rattle.quotient.proofs.argument.QuotientHolds.{merges}

-- the merged file is written, with 23 where there is no room for it
pub merged-follow : (L : Limits) (widths : FitsWidths L) (few : L.refutations < 65536) → FollowsLaws (plain_rules_at L widths few) writes_merged
merged-follow L widths few = file-follow L widths few 23 merged_file (omega arith) (λ z. omega (arith, z))

pub merged-follow-today : FollowsLaws plain_rules writes_merged
merged-follow-today = merged-follow plain_rules.limits plain_rules.widths plain_rules.refutations

-- the call that reduces answers a number of reading, or one of 11 to 23
pub reduce-numbered : (M C : List ℕ) (before : List (List ℕ)) → ReduceNumber current.terms (outcome_by plain_pairs writes_merged M C before).answer.number
unfolding ReduceNumber
reduce-numbered M C before =
    outcome-number plain_rules writes_merged merged-follow-today M C before (λ k. ReadNumber current.terms k ⊎ ((11 ≤ k) × (k ≤ 23))) (inl (read_low current.terms 0 (omega arith)))
    (λ k z. inr (omega (arith, one-late z), omega (arith, one-late z)))
    (λ k h. ⊎_elim inl (λ x. inr (x.0, omega (arith, x.1))) (plain-refusal plain_rules.limits plain_rules.widths plain_rules.refutations k h)) (λ N h. absurd (omega arith))

-- 23 only for a buffer shorter than the longest model
pub merged-short : (L : Limits) (widths : FitsWidths L) (few : L.refutations < 65536) (M C buffer : List ℕ) → Bytes M → Bytes C → (outcome_by (plain_pairs_at L) writes_merged M C (buffer ∷ [])).answer.number ≡ 23 → length buffer < longest_model L
unfolding merged_file
merged-short L widths few M C buffer b c =
    let by = plain_rules_at L widths few in
    file-late by 23 merged_file (merged-follow L widths few) (λ z. omega (arith, z)) M C buffer (longest_model L)
    (λ a.
    longest-file L (quotient a.N a.blocks)
    (sound-within L (quotient a.N a.blocks) ((merges L widths few plain_certificates).merged M C a.blocks b c (record { answers = a.judged }) a.N (holds_read by M b a.reads)).sound))

-- of less than 8,072 bytes
pub merged-short-today : (M C buffer : List ℕ) → Bytes M → Bytes C → (outcome_by plain_pairs writes_merged M C (buffer ∷ [])).answer.number ≡ 23 → length buffer < 8072
merged-short-today = merged-short current current-fit (omega arith)
