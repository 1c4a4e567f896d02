-- What the call that composes answers, case by case: each number, each file, and the bytes of the lent buffer.
use Rattle.std.specs.Prelude.{ℕ, ◌+◌, ◌≡◌, refl, List, [], ◌∷◌, ◌++◌, length, take, drop, replicate}
use Rattle.bisimulation.specs.definitions.Choice.{if_less, if_same, if_true}
use Rattle.bisimulation.specs.definitions.Joined.{larger}
use Rattle.bisimulation.specs.definitions.Composed.{state_at, highest, pair_label}
use Rattle.numbers.specs.definitions.Divisor.{divisor_within, divisor, divisor_of}
use Rattle.rules.specs.definitions.LowestTerms.{divisor_in}
use Rattle.rules.specs.definitions.Limits.{lowest_terms, Limits, current}
use Rattle.rules.specs.definitions.Bytes.{byte_at, two_at, two_bytes}
use Rattle.rules.specs.definitions.Model.{Model, head_bytes, labels_bytes, entries_bytes, transition_bytes, transitions_bytes, model_bytes, automaton_of}
use Rattle.rules.specs.definitions.Faults.{fault, first_of, open_fault}
use Rattle.rules.specs.definitions.Reading.{states_of, actions_of, count_of, range_fault, head_fault, label_fault, labels_fault, source_at, action_at, denominator_at, entry_count_at, after_transition, fixed_fault, fixed_fault_at, entries_fault, terms_fault, transition_fault, refuse_at, scan_transitions, scan_model, refuse_bytes_left, scan_whole, entries_at, transition_at, transitions_at, model_at, reading_of, read_whole}
use Rattle.rules.specs.definitions.SoundModel.{Each, sum_over}
use Rattle.rules.specs.definitions.Answers.{Outcome, refusal_in, answer_without_place, unwritten, filled_with, filled_each, filled, room_for, files_outcome}
use Rattle.rules.specs.definitions.Made.{passes_limit, made_outcome, readings_outcome, two_outcome}
use Rattle.rules.proofs.cases.MoreCases.{outcome_of}
use Rattle.composition.specs.definitions.Composition.{gathered, shared_below, is_shared, partner_move, left_move, right_move, moves_from, moves_of, pair_entry, pair_entries, pair_transition, still, moved, composed}
use Rattle.composition.specs.definitions.ComposeAnswer.{long_denominator, passes_composed, compose_outcome}
use Rattle.composition.proofs.cases.CompositionCases.{step, to, left_model, right_model, side_by_side_bytes}

-- limits, two files, the lent buffer before, and what composing answers and leaves in the buffer
pub record ComposeCase : Type 0 where
  pub within : Limits
  pub left : List ℕ
  pub right : List ℕ
  pub before : List ℕ
  pub expected : Outcome

-- the two models of `CompositionCases`, 53 and 43 bytes
abbrev left_file : List ℕ
left_file = model_bytes left_model

abbrev right_file : List ℕ
right_file = model_bytes right_model

-- one state with a label, and no transitions
unfoldable pub labelled : ℕ → List ℕ
labelled label = model_bytes (record { actions = 1; labels = label ∷ []; transitions = [] })

-- so many states with label 0 and no transitions
unfoldable pub standing : ℕ → List ℕ
standing n = model_bytes (record { actions = 1; labels = replicate n 0; transitions = [] })

-- two states, and an action from 0 to both, with these weights
unfoldable pub parted : (action first second : ℕ) → List ℕ
parted action first second =
    model_bytes (record { actions = 2; labels = 0 ∷ 0 ∷ []; transitions = step 0 action (first + second) (to 0 first ∷ to 1 second ∷ []) ∷ [] })

-- few transitions and entries
abbrev few : (transitions entries : ℕ) → Limits
few transitions entries =
    record { states = 128; actions = 32; transitions = transitions; entries = entries; refutations = 8128; label = 63; terms = lowest_terms }

abbrev one : (within : Limits) → (left right before : List ℕ) → (expected : Outcome) → ComposeCase
one within left right before expected = record { within = within; left = left; right = right; before = before; expected = expected }

-- a number without a place, and an empty buffer
abbrev without : ℕ → Outcome
without number = outcome_of number 0 0 0 0 0 []

unfoldable pub compose_cases : List ComposeCase
compose_cases =
    -- a buffer of 129 bytes: the first 127 are the file, and the last 2 stay
    one current left_file right_file (replicate 127 7 ++ (9 ∷ 8 ∷ [])) (outcome_of 0 0 0 0 0 127 (side_by_side_bytes ++ (9 ∷ 8 ∷ [])))
    -- an exact fit, and one byte less: 38, without a place, and nothing written
    ∷ one current left_file right_file (replicate 127 7) (outcome_of 0 0 0 0 0 127 side_by_side_bytes)
    ∷ one current left_file right_file (replicate 126 7) (outcome_of 38 0 0 0 0 0 (replicate 126 7))
    -- both files cut in their last record: the left is at fault
    ∷ one current (take 52 left_file) (take 42 right_file) (7 ∷ []) (outcome_of 1 1 43 43 9 0 (7 ∷ []))
    -- the right alone: file 3, with place and stretch in it; and a byte left there
    ∷ one current left_file (take 42 right_file) (7 ∷ []) (outcome_of 1 3 33 33 9 0 (7 ∷ []))
    ∷ one current left_file (right_file ++ (0 ∷ [])) (7 ∷ []) (outcome_of 9 3 43 43 1 0 (7 ∷ []))
    -- terms that are not lowest: 34, as file 1 and as file 3, before the four entries pass a limit
    ∷ one (few 1 3) (parted 1 2 2) (parted 1 2 2) [] (outcome_of 34 1 10 10 13 0 [])
    ∷ one (few 1 3) (parted 1 1 1) (parted 1 2 2) [] (outcome_of 34 3 10 10 13 0 [])
    ∷ one (few 1 3) (parted 1 1 1) (parted 1 1 1) [] (without 37)
    -- labels up to 63: 38 for want of a buffer; up to 64: 37, before 38
    ∷ one current (labelled 7) (labelled 7) [] (without 38)
    ∷ one current (labelled 4) (labelled 12) [] (without 37)
    ∷ one current (labelled 63) (labelled 0) [] (without 38)
    ∷ one current (labelled 32) (labelled 1) [] (without 37)
    -- 16 times 8 states, and 43 times 3
    ∷ one current (standing 16) (standing 8) [] (without 38)
    ∷ one current (standing 43) (standing 3) [] (without 37)
    -- d is 255 times 257, and 256 times 256; where both are alone it is 256
    ∷ one current (parted 1 1 254) (parted 1 1 256) [] (without 38)
    ∷ one current (parted 1 1 255) (parted 1 1 255) [] (without 37)
    ∷ one current (parted 0 1 255) (parted 0 1 255) [] (without 38)
    -- ten transitions and fifteen entries, at their limits and past them
    ∷ one (few 10 15) left_file right_file [] (without 38)
    ∷ one (few 9 15) left_file right_file [] (without 37)
    ∷ one (few 10 14) left_file right_file [] (without 37)
    ∷ []

pub compose-cases : Each (λ (c : ComposeCase). compose_outcome c.within (read_whole c.within) c.left c.right c.before ≡ c.expected) compose_cases
unfolding if_less if_same if_true byte_at two_at two_bytes head_bytes labels_bytes entries_bytes transition_bytes transitions_bytes model_bytes automaton_of first_of open_fault states_of actions_of count_of range_fault head_fault label_fault labels_fault source_at action_at denominator_at entry_count_at after_transition fixed_fault fixed_fault_at entries_fault divisor_within divisor divisor_of divisor_in terms_fault transition_fault refuse_at scan_transitions scan_model refuse_bytes_left scan_whole entries_at transition_at transitions_at model_at reading_of read_whole Each sum_over refusal_in answer_without_place unwritten filled_with filled_each filled room_for files_outcome passes_limit made_outcome readings_outcome two_outcome larger state_at highest pair_label gathered shared_below is_shared partner_move left_move right_move moves_from moves_of pair_entry pair_entries pair_transition still moved composed long_denominator passes_composed left_model right_model side_by_side_bytes labelled standing parted compose_cases
compose-cases = (refl, (refl, (refl, (refl, (refl, (refl, (refl, (refl, (refl, (refl, (refl, (refl, (refl, (refl, (refl, (refl, (refl, (refl, (refl, (refl, (refl, tt)))))))))))))))))))))
