-- A small model with actions hidden, and what the call that hides answers, case by case.
use Rattle.std.specs.Prelude.{ℕ, ◌≡◌, refl, List, [], ◌∷◌, ◌++◌, map, length, take, drop, replicate}
use Rattle.bisimulation.specs.definitions.Choice.{if_less, if_same, if_true}
use Rattle.bisimulation.specs.definitions.Hidden.{hidden_action}
use Rattle.numbers.specs.definitions.Divisor.{divisor_within, divisor, divisor_of}
use Rattle.rules.specs.definitions.LowestTerms.{divisor_in}
use Rattle.rules.specs.definitions.Limits.{current}
use Rattle.rules.specs.definitions.Bytes.{byte_at, two_at, two_bytes}
use Rattle.rules.specs.definitions.Model.{Model, head_bytes, labels_bytes, entries_bytes, transition_bytes, transitions_bytes, model_bytes}
use Rattle.rules.specs.definitions.Faults.{fault, first_of, open_fault}
use Rattle.rules.specs.definitions.Reading.{states_of, actions_of, count_of, range_fault, head_fault, label_fault, labels_fault, source_at, action_at, denominator_at, entry_count_at, after_transition, fixed_fault, fixed_fault_at, entries_fault, terms_fault, transition_fault, refuse_at, scan_transitions, scan_model, refuse_bytes_left, scan_whole, entries_at, transition_at, transitions_at, model_at, reading_of, read_whole}
use Rattle.rules.specs.definitions.SoundModel.{Each}
use Rattle.rules.specs.definitions.Answers.{Outcome, refusal_in, answer_without_place, unwritten, filled_with, filled_each, filled, room_for, files_outcome}
use Rattle.rules.proofs.cases.MoreCases.{outcome_of}
use Rattle.composition.specs.definitions.Hiding.{member_of, hidden_transition, hidden}
use Rattle.composition.specs.definitions.HideAnswer.{hide_reading, hide_outcome}
use Rattle.composition.proofs.cases.CompositionCases.{step, to}

-- two states, four actions: an internal step, and actions 1, 2 and 3, which come to these. With 2 hidden the third is as the first, and is kept
unfoldable pub with_actions : (first second third : ℕ) → Model
with_actions first second third =
    record {
      actions = 4;
      labels = 5 ∷ 6 ∷ [];
      transitions =
          step 0 0 1 (to 1 1 ∷ [])
          ∷ step 0 first 3 (to 0 1 ∷ to 1 2 ∷ [])
          ∷ step 0 second 1 (to 1 1 ∷ [])
          ∷ step 1 third 1 (to 1 1 ∷ [])
          ∷ [];
    }

-- a set, and what actions 1, 2 and 3 come to
pub record HidingCase : Type 0 where
  pub set : List ℕ
  pub first : ℕ
  pub second : ℕ
  pub third : ℕ

abbrev hides : List ℕ → (first second third : ℕ) → HidingCase
hides set first second third = record { set = set; first = first; second = second; third = third }

unfoldable pub hiding_cases : List HidingCase
hiding_cases =
    -- the empty set, and members that are 0 or not below the action count, change nothing
    hides [] 1 2 3
    ∷ hides (0 ∷ 4 ∷ 255 ∷ []) 1 2 3
    -- one of them, the others keep their numbers; with repeats, in any order, beside members that change nothing
    ∷ hides (1 ∷ []) 0 2 3
    ∷ hides (3 ∷ 0 ∷ 2 ∷ 3 ∷ 4 ∷ 2 ∷ []) 1 0 0
    ∷ hides (3 ∷ 2 ∷ 1 ∷ []) 0 0 0
    ∷ []

pub hiding-cases : Each (λ (c : HidingCase). hidden c.set (with_actions 1 2 3) ≡ with_actions c.first c.second c.third) hiding_cases
unfolding if_same if_true hidden_action Each member_of hidden_transition hidden with_actions hiding_cases
hiding-cases = (refl, (refl, (refl, (refl, (refl, tt)))))

-- a file, a set, the lent buffer before, and what hiding answers and leaves in the buffer
pub record HideCase : Type 0 where
  pub file : List ℕ
  pub set : List ℕ
  pub before : List ℕ
  pub expected : Outcome

-- 53 bytes
abbrev actions_file : List ℕ
actions_file = model_bytes (with_actions 1 2 3)

-- action 2 hidden, byte by byte
unfoldable pub two_hidden : List ℕ
two_hidden =
    0x50 ∷ 0x41 ∷ 2 ∷ 4 ∷ 0 ∷ 4
    ∷ 0x4C ∷ 0x42 ∷ 5 ∷ 6
    ∷ 0x54 ∷ 0x52 ∷ 0 ∷ 0 ∷ 0 ∷ 1 ∷ 1 ∷ 1 ∷ 0 ∷ 1
    ∷ 0x54 ∷ 0x52 ∷ 0 ∷ 1 ∷ 0 ∷ 3 ∷ 2 ∷ 0 ∷ 0 ∷ 1 ∷ 1 ∷ 0 ∷ 2
    ∷ 0x54 ∷ 0x52 ∷ 0 ∷ 0 ∷ 0 ∷ 1 ∷ 1 ∷ 1 ∷ 0 ∷ 1
    ∷ 0x54 ∷ 0x52 ∷ 1 ∷ 3 ∷ 0 ∷ 1 ∷ 1 ∷ 1 ∷ 0 ∷ 1
    ∷ []

abbrev one : (file set before : List ℕ) → (expected : Outcome) → HideCase
one file set before expected = record { file = file; set = set; before = before; expected = expected }

unfoldable pub hide_cases : List HideCase
hide_cases =
    -- a buffer of 55 bytes: the first 53 are the file, and the last 2 stay
    one actions_file (2 ∷ []) (replicate 53 7 ++ (9 ∷ 8 ∷ [])) (outcome_of 0 0 0 0 0 53 (two_hidden ++ (9 ∷ 8 ∷ [])))
    -- an exact fit, and nothing hidden: the model's own bytes
    ∷ one actions_file (0 ∷ 4 ∷ 255 ∷ []) (replicate 53 7) (outcome_of 0 0 0 0 0 53 actions_file)
    -- one byte too short: 38, without a place, and nothing written
    ∷ one actions_file (2 ∷ []) (replicate 52 7) (outcome_of 38 0 0 0 0 0 (replicate 52 7))
    -- a file cut in its last record, before 38: the model is file 1
    ∷ one (take 52 actions_file) (2 ∷ []) (7 ∷ []) (outcome_of 1 1 43 43 9 0 (7 ∷ []))
    -- a byte left, and terms that are not lowest
    ∷ one (actions_file ++ (0 ∷ [])) [] [] (outcome_of 9 1 53 53 1 0 [])
    ∷ one (take 10 actions_file ++ (0x54 ∷ 0x52 ∷ 0 ∷ 0 ∷ 0 ∷ 2 ∷ 1 ∷ 1 ∷ 0 ∷ 2 ∷ [])) [] [] (outcome_of 34 1 10 10 10 0 [])
    ∷ []

pub hide-cases : Each (λ (c : HideCase). hide_outcome (read_whole current) c.file c.set c.before ≡ c.expected) hide_cases
unfolding if_less if_same if_true byte_at two_at two_bytes head_bytes labels_bytes entries_bytes transition_bytes transitions_bytes model_bytes first_of open_fault states_of actions_of count_of range_fault head_fault label_fault labels_fault source_at action_at denominator_at entry_count_at after_transition fixed_fault fixed_fault_at entries_fault divisor_within divisor divisor_of divisor_in terms_fault transition_fault refuse_at scan_transitions scan_model refuse_bytes_left scan_whole entries_at transition_at transitions_at model_at reading_of read_whole Each refusal_in answer_without_place unwritten filled_with filled_each filled room_for files_outcome hidden_action member_of hidden_transition hidden hide_reading hide_outcome with_actions two_hidden hide_cases
hide-cases = (refl, (refl, (refl, (refl, (refl, (refl, tt))))))
