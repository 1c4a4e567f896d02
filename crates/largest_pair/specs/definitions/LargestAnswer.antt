-- Document 02, K13: what the call that writes the pair with the most flow records answers, and what it leaves in the lent buffers.
use Rattle.std.specs.Prelude.{ℕ, ◌+◌, ◌*◌, ◌≤◌, ◌≡◌, ◌↔◌, ◌⊎◌, Bool, true, false, List, [], ◌∷◌, ◌++◌, length, take, drop}
use Rattle.bisimulation.specs.definitions.Choice.{if_less, if_true}
use Rattle.rules.specs.definitions.Limits.{Limits, current}
use Rattle.rules.specs.definitions.Model.{Model}
use Rattle.rules.specs.definitions.BlockCount.{block_count}
use Rattle.rules.specs.definitions.Answers.{Outcome, first_written, second_written, answer_without_place, unwritten, files_outcome}
use Rattle.rules.specs.definitions.JudgedBy.{JudgedBy, plain_pairs, stored_pairs, AcceptedBy}
use Rattle.rules.specs.definitions.Demands.{KeepsRulesOn}
use Rattle.largest_pair.specs.definitions.LargestPair.{largest_model_file, largest_certificate_file}
use Rattle.largest_pair.specs.definitions.FewFlows.{most_flows, flow_records, FewFlows}

-- '40, n or T outside the limits': n is at least 1, T may be 0
unfoldable pub outside_limits : Limits → (n T : ℕ) → Bool
outside_limits L n T =
    if_less n 1 true
    (if_less L.states n true
    (if_less L.transitions T true
    false))

-- 40; '41, either buffer too short'; else both files are written
unfoldable pub largest_outcome : Limits → (n T : ℕ) → (model_buffer certificate_buffer : List ℕ) → Outcome
largest_outcome L n T model_buffer certificate_buffer =
    let before = model_buffer ∷ certificate_buffer ∷ [] in
    if_true (outside_limits L n T) (unwritten (answer_without_place 40) before)
    (files_outcome 41 (largest_model_file n T ∷ largest_certificate_file n T ∷ []) before)

-- its numbers
unfoldable pub LargestNumber : ℕ → Type 0
LargestNumber k = (k ≡ 0) ⊎ ((40 ≤ k) × (k ≤ 41))

-- 'every n and T in the limits'
pub record WithinLimits (L : Limits) (n T : ℕ) : Type 0 where
  pub some : 1 ≤ n
  pub states : n ≤ L.states
  pub transitions : T ≤ L.transitions

-- 'The pair is accepted': one of n states and T transitions, with 'one block' and 'T times (n-1) flow records'
pub record ReachesMost (by : JudgedBy) (n T : ℕ) (model certificate : List ℕ) : Type 0 where
  pub blocks : List ℕ
  pub accepted : AcceptedBy by model certificate blocks
  pub one_block : block_count blocks ≡ 1
  pub M : Model
  pub states : length M.labels ≡ n
  pub transitions : length M.transitions ≡ T
  pub keeps : KeepsRulesOn by model certificate M blocks
  pub reaches : flow_records keeps ≡ most_flows n T

-- its demands, with these bytes in the lent buffers before and after it
pub record LargestDemands (n T : ℕ) (model_before certificate_before model_after certificate_after : List ℕ) (number : ℕ) : Type 0 where
  -- demand 1: the number is one of the call's
  pub known : LargestNumber number
  -- how long the files are
  pub model_length : length (largest_model_file n T) ≡ 8 + n + 10 * T
  pub certificate_length : length (largest_certificate_file n T) ≡ 6 + n + 16 * most_flows n T
  -- it is 40 exactly when n or T is outside the limits, and 0 exactly when both are inside and both buffers are long enough
  pub outside : (number ≡ 40) ↔ (WithinLimits current n T → ⊥)
  pub whole : (number ≡ 0) ↔ (WithinLimits current n T × (8 + n + 10 * T ≤ length model_before) × (6 + n + 16 * most_flows n T ≤ length certificate_before))
  -- then both are written, and later bytes stay
  pub model_written : number ≡ 0 → model_after ≡ largest_model_file n T ++ drop (length (largest_model_file n T)) model_before
  pub certificate_written : number ≡ 0 → certificate_after ≡ largest_certificate_file n T ++ drop (length (largest_certificate_file n T)) certificate_before
  -- the bytes that it wrote are accepted by the rules that stand, with one block and so many flow records
  pub reaches : number ≡ 0 → ReachesMost plain_pairs n T (take (first_written (largest_outcome current n T model_before certificate_before)) model_after) (take (second_written (largest_outcome current n T model_before certificate_before)) certificate_after)
  -- and no accepted certificate has more for its n and T, by these rules and by those without 34
  pub most : FewFlows plain_pairs
  pub stored_most : FewFlows stored_pairs
  -- demand 1: a refusal leaves both buffers as they were
  pub unwritten : (number ≡ 0 → ⊥) → (model_after ≡ model_before) × (certificate_after ≡ certificate_before)
