-- Records of transitions in a buffer, and whether the last is the same as one before it.
use Rattle.std.specs.Prelude.{ℕ, ◌+◌, ◌*◌, ◌-◌, ◌≤◌, ◌≡◌, Bool, true, false, List, eqb, length, take, drop}
use Rattle.bisimulation.specs.definitions.Choice.{all_below}
use Rattle.rules.specs.definitions.Bytes.{byte_at}
use Rattle.rules.specs.definitions.Model.{Transition, transition_bytes, transitions_bytes}
use Rattle.rules.specs.definitions.Reading.{entry_count_at, after_transition}
use Rattle.rules.specs.definitions.SoundModel.{Each, TransitionRules, LowestTerms}
use Rattle.quotient.specs.definitions.Quotient.{is_among}

-- the records of `kept` stand from `start` to `at`, and that of `last` from there to `next`; all are transitions of k states and m actions, in
-- lowest terms
pub record StandAs (s : List ℕ) (start at next k m : ℕ) (kept : List Transition) (last : Transition) : Type 0 where
  pub first : start ≤ at
  pub second : at ≤ next
  pub inside : next ≤ length s
  pub records : take (at - start) (drop start s) ≡ transitions_bytes kept
  pub record-bytes : take (next - at) (drop at s) ≡ transition_bytes last
  pub rules : TransitionRules k m last
  pub alike : Each (TransitionRules k m) kept
  pub lowest : LowestTerms last
  pub all_lowest : Each LowestTerms kept

-- some records stand so
pub record Stand (s : List ℕ) (start at : ℕ) : Type 0 where
  pub next : ℕ
  pub states : ℕ
  pub actions : ℕ
  pub kept : List Transition
  pub last : Transition
  pub stands : StandAs s start at next states actions kept last

-- the answer says whether the last is the same as one of those before it
pub record IsRepeated (s : List ℕ) (start at : ℕ) (r : Bool) : Type 0 where
  pub tells : (next k m : ℕ) (kept : List Transition) (last : Transition) → StandAs s start at next k m kept last → r ≡ is_among k last kept

-- the bytes from two places on are the same, so many of them
unfoldable pub same_bytes : List ℕ → (first second count : ℕ) → Bool
same_bytes s first second count = all_below count (λ i. eqb (byte_at s (first + i)) (byte_at s (second + i)))

-- the records at two places are the same bytes from the action on
unfoldable pub same_record : List ℕ → (first second : ℕ) → Bool
same_record s first second = same_bytes s (first + 3) (second + 3) (4 + 3 * entry_count_at s first)

-- a record that lies before the one at `at`, which has so many entries
pub record CanPass (s : List ℕ) (at count place : ℕ) : Type 0 where
  pub inside : at + 7 + 3 * count ≤ length s
  pub counted : count ≡ entry_count_at s at
  pub before : after_transition s place ≤ at

-- the place after the record, or its own where the two are the same
pub record Passed (s : List ℕ) (at place next : ℕ) : Type 0 where
  pub same : next ≡ place → same_record s at place ≡ true
  pub other : (next ≡ place → ⊥) → (next ≡ after_transition s place) × (same_record s at place ≡ false)
