-- What the call that compares two states answers and says, case by case.
use Rattle.std.specs.Prelude.{ℕ, ◌≡◌, refl, List, [], ◌∷◌, ◌++◌, length, take, drop}
use Rattle.bisimulation.specs.definitions.Choice.{if_less, if_same, if_true, all_below}
use Rattle.bisimulation.specs.definitions.Pairs.{equal_labels}
use Rattle.rules.specs.definitions.Bytes.{byte_at, two_at}
use Rattle.rules.specs.definitions.Model.{automaton_of}
use Rattle.rules.specs.definitions.Faults.{fault, first_of, open_fault}
use Rattle.rules.specs.definitions.Reading.{states_of, actions_of, count_of, range_fault, head_fault, label_fault, labels_fault, scan_transitions, refuse_at, scan_model, refuse_bytes_left, scan_whole, transitions_at, model_at, reading_of, read_whole}
use Rattle.rules.specs.definitions.Certificate.{refutation_count, certificate_head_fault, blocks_at, numbered_fault, same_block, agree, pairs_fault, blocks_fault}
use Rattle.rules.specs.definitions.Judging.{refuse_record_at, questions_of_pair, questions_of_state, questions_from, questions, judge_flows, judge_blocks, judge_refutations, judge_certificate, judge_reading, judge}
use Rattle.rules.specs.definitions.SoundModel.{Each}
use Rattle.rules.specs.definitions.JudgedBy.{plain_pairs}
use Rattle.rules.specs.definitions.Answers.{Outcome, refusal_in, answer_without_place, file_of, judgement_answer, unwritten, judged_outcome, read_outcome, pair_outcome}
use Rattle.rules.specs.definitions.Demands.{outcome_by}
use Rattle.rules.proofs.cases.MoreCases.{answer_at, blocks_only}
use Rattle.joined.specs.definitions.AlikeAnswer.{Named, parts_number, tests_parts, alike_judged, alike_read, alike_says}

-- the first's count and the two states, and the number for a model of 4 states
pub record PartsCase : Type 0 where
  pub named : Named
  pub number : ℕ

abbrev parts : (first_count first_state second_state number : ℕ) → PartsCase
parts first_count first_state second_state number =
    record { named = record { first_count = first_count; first_state = first_state; second_state = second_state }; number = number }

unfoldable pub parts_cases : List PartsCase
parts_cases =
    parts 2 1 2 0
    ∷ parts 1 0 3 0
    ∷ parts 3 2 3 0
    -- the first's count above n, 0, and n
    ∷ parts 5 0 4 27
    ∷ parts 0 0 0 27
    ∷ parts 4 0 3 27
    ∷ parts 4 0 4 27
    -- a state of the second part as one of the first, and the other way round
    ∷ parts 2 2 3 27
    ∷ parts 2 0 1 27
    -- a state that the model lacks
    ∷ parts 2 0 4 27
    ∷ []

-- two states with these labels and no transitions; and so many bytes of a certificate without refutations and flows
pub record AlikeCase : Type 0 where
  pub labels : List ℕ
  pub blocks : List ℕ
  pub size : ℕ
  pub named : Named
  pub expected : Outcome
  pub says : ℕ

unfoldable pub alike_model : List ℕ → List ℕ
alike_model labels = 0x50 ∷ 0x41 ∷ 2 ∷ 1 ∷ 0 ∷ 0 ∷ 0x4C ∷ 0x42 ∷ labels

abbrev one : (labels blocks : List ℕ) (size second_state number file place length says : ℕ) → AlikeCase
one labels blocks size second_state number file place length says =
    record {
      labels = labels;
      blocks = blocks;
      size = size;
      named = record { first_count = 1; first_state = 0; second_state = second_state };
      expected = record { answer = answer_at number file place place length; lent = [] };
      says = says;
    }

unfoldable pub alike_cases : List AlikeCase
alike_cases =
    -- yes; and no, of states with other labels
    one (5 ∷ 5 ∷ []) (0 ∷ 0 ∷ []) 8 1 0 0 0 0 1
    ∷ one (5 ∷ 6 ∷ []) (0 ∷ 1 ∷ []) 8 1 0 0 0 0 0
    -- 27, though the two share a block: no
    ∷ one (5 ∷ 5 ∷ []) (0 ∷ 0 ∷ []) 8 0 27 0 0 0 0
    -- a certificate that is cut, and a state that is not in its part: 11 at 4, and no
    ∷ one (5 ∷ 5 ∷ []) (0 ∷ 0 ∷ []) 7 0 11 2 4 3 0
    -- a label above 63: 4 at 6 of the model, and no
    ∷ one (5 ∷ 64 ∷ []) (0 ∷ 0 ∷ []) 8 1 4 1 6 4 0
    ∷ []

pub alike-cases : Each (λ (c : PartsCase). parts_number 4 c.named ≡ c.number) parts_cases × Each (λ (c : AlikeCase). outcome_by plain_pairs (tests_parts c.named) (alike_model c.labels) (take c.size (blocks_only c.blocks)) [] ≡ c.expected) alike_cases × Each (λ (c : AlikeCase). alike_says plain_pairs c.named (alike_model c.labels) (take c.size (blocks_only c.blocks)) ≡ c.says) alike_cases
unfolding if_less if_same if_true all_below equal_labels byte_at two_at automaton_of open_fault first_of states_of actions_of count_of range_fault head_fault label_fault labels_fault scan_transitions refuse_at scan_model refuse_bytes_left scan_whole transitions_at model_at reading_of read_whole refutation_count certificate_head_fault blocks_at numbered_fault same_block agree pairs_fault blocks_fault refuse_record_at questions_of_pair questions_of_state questions_from questions judge_flows judge_blocks judge_refutations judge_certificate judge_reading judge Each refusal_in answer_without_place file_of judgement_answer unwritten judged_outcome read_outcome pair_outcome blocks_only parts_number alike_judged alike_read alike_says parts_cases alike_model alike_cases
alike-cases = (
  (refl, (refl, (refl, (refl, (refl, (refl, (refl, (refl, (refl, (refl, tt)))))))))),
  (refl, (refl, (refl, (refl, (refl, tt))))),
  (refl, (refl, (refl, (refl, (refl, tt))))),
)
