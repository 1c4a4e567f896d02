-- What the call that joins answers, case by case: each number, each file, and the bytes of the lent buffer.
use Rattle.std.specs.Prelude.{ℕ, ◌≡◌, refl, List, [], ◌∷◌, ◌++◌, length, take, drop, replicate}
use Rattle.bisimulation.specs.definitions.Choice.{if_less, if_same, if_true}
use Rattle.numbers.specs.definitions.Divisor.{divisor_within, divisor, divisor_of}
use Rattle.rules.specs.definitions.LowestTerms.{divisor_in}
use Rattle.rules.specs.definitions.Limits.{any_terms, lowest_terms, Limits, limits, with_terms}
use Rattle.rules.specs.definitions.Bytes.{byte_at, two_at, two_bytes}
use Rattle.rules.specs.definitions.Model.{Model, head_bytes, labels_bytes, entries_bytes, transition_bytes, transitions_bytes, model_bytes}
use Rattle.rules.specs.definitions.Faults.{fault, first_of, open_fault}
use Rattle.rules.specs.definitions.Reading.{states_of, actions_of, count_of, range_fault, head_fault, label_fault, labels_fault, source_at, action_at, denominator_at, entry_count_at, after_transition, fixed_fault, fixed_fault_at, entries_fault, terms_fault, transition_fault, refuse_at, scan_transitions, scan_model, refuse_bytes_left, scan_whole, entries_at, transition_at, transitions_at, model_at, reading_of, read_whole}
use Rattle.rules.specs.definitions.SoundModel.{Each, sum_over}
use Rattle.rules.specs.definitions.Answers.{Outcome, refusal_in, answer_without_place, unwritten, filled_with, filled_each, filled, room_for, files_outcome}
use Rattle.rules.specs.definitions.Made.{passes_limit, made_outcome, readings_outcome, two_outcome}
use Rattle.rules.proofs.cases.MoreCases.{outcome_of}
use Rattle.bisimulation.specs.definitions.Joined.{larger}
use Rattle.joined.specs.definitions.Joined.{raised_entry, raised_transition, joined, joined_file}
use Rattle.joined.specs.definitions.JoinAnswer.{join_outcome}
use Rattle.joined.proofs.cases.JoinedCases.{first_model, second_model}

-- limits, two files, the lent buffer before, and what joining answers and leaves in the buffer
pub record JoinCase : Type 0 where
  pub within : Limits
  pub first : List ℕ
  pub second : List ℕ
  pub before : List ℕ
  pub expected : Outcome

-- the two small models of `JoinedCases`, 20 and 23 bytes, and what both are as one, 35
abbrev first_file : List ℕ
first_file = model_bytes first_model

abbrev second_file : List ℕ
second_file = model_bytes second_model

abbrev both : List ℕ
both = joined_file first_model second_model

-- so many states with label 0 and no transitions
unfoldable pub still : ℕ → List ℕ
still n = model_bytes (record { actions = 1; labels = replicate n 0; transitions = [] })

abbrev few : (transitions entries : ℕ) → Limits
few transitions entries = record { states = 128; actions = 32; transitions = transitions; entries = entries; refutations = 8128; label = 63; terms = any_terms }

abbrev lowest : Limits
lowest = with_terms lowest_terms limits

unfoldable pub join_cases : List JoinCase
join_cases =
    -- a buffer of 37 bytes: the first 35 are the file, and the last 2 stay
    record { within = limits; first = first_file; second = second_file; before = replicate 35 7 ++ (9 ∷ 8 ∷ []); expected = outcome_of 0 0 0 0 0 35 (both ++ (9 ∷ 8 ∷ [])) }
    -- an exact fit, and one byte less: 26, without a place, and nothing written
    ∷ record { within = limits; first = first_file; second = second_file; before = replicate 35 7; expected = outcome_of 0 0 0 0 0 35 both }
    ∷ record { within = limits; first = first_file; second = second_file; before = replicate 34 7; expected = outcome_of 26 0 0 0 0 0 (replicate 34 7) }
    -- both files cut in their last record: the first is at fault
    ∷ record { within = limits; first = take 19 first_file; second = take 22 second_file; before = 7 ∷ []; expected = outcome_of 1 1 10 10 9 0 (7 ∷ []) }
    -- the second alone: file 3, with place and stretch in it
    ∷ record { within = limits; first = first_file; second = take 22 second_file; before = 7 ∷ []; expected = outcome_of 1 3 10 10 12 0 (7 ∷ []) }
    -- 128 states and 1 more, and no buffer: 25 comes before 26; 127 and 1 are 26
    ∷ record { within = limits; first = still 128; second = still 1; before = []; expected = outcome_of 25 0 0 0 0 0 [] }
    ∷ record { within = limits; first = still 127; second = still 1; before = []; expected = outcome_of 26 0 0 0 0 0 [] }
    -- two transitions and three entries, at their limits and past them
    ∷ record { within = few 2 3; first = first_file; second = second_file; before = []; expected = outcome_of 26 0 0 0 0 0 [] }
    ∷ record { within = few 1 3; first = first_file; second = second_file; before = []; expected = outcome_of 25 0 0 0 0 0 [] }
    ∷ record { within = few 2 2; first = first_file; second = second_file; before = []; expected = outcome_of 25 0 0 0 0 0 [] }
    -- in lowest terms the first model, with 2/2, is 34 as file 1 and as file 3, with place and stretch in it, before 25; the second model is sound
    ∷ record { within = lowest; first = first_file; second = first_file; before = 7 ∷ []; expected = outcome_of 34 1 10 10 10 0 (7 ∷ []) }
    ∷ record { within = lowest; first = second_file; second = first_file; before = 7 ∷ []; expected = outcome_of 34 3 10 10 10 0 (7 ∷ []) }
    ∷ record { within = lowest; first = still 128; second = first_file; before = []; expected = outcome_of 34 3 10 10 10 0 [] }
    ∷ record { within = lowest; first = second_file; second = second_file; before = replicate 38 7; expected = outcome_of 0 0 0 0 0 38 (joined_file second_model second_model) }
    ∷ []

pub join-cases : Each (λ (c : JoinCase). join_outcome c.within (read_whole c.within) c.first c.second c.before ≡ c.expected) join_cases
unfolding if_less if_same if_true byte_at two_at two_bytes head_bytes labels_bytes entries_bytes transition_bytes transitions_bytes model_bytes first_of open_fault states_of actions_of count_of range_fault head_fault label_fault labels_fault source_at action_at denominator_at entry_count_at after_transition fixed_fault fixed_fault_at entries_fault divisor_within divisor divisor_of divisor_in terms_fault transition_fault refuse_at scan_transitions scan_model refuse_bytes_left scan_whole entries_at transition_at transitions_at model_at reading_of read_whole Each sum_over refusal_in answer_without_place unwritten filled_with filled_each filled room_for files_outcome raised_entry raised_transition larger joined passes_limit made_outcome readings_outcome two_outcome first_model second_model still join_cases
join-cases = (refl, (refl, (refl, (refl, (refl, (refl, (refl, (refl, (refl, (refl, (refl, (refl, (refl, (refl, tt))))))))))))))
