-- Cases of the merged model and of the call that writes it, computed one by one.
use Rattle.std.specs.Prelude.{ℕ, ◌≡◌, refl, List, [], ◌∷◌, ◌++◌, length, take, drop}
use Rattle.bisimulation.specs.definitions.Choice.{if_less, if_same, if_true, all_below, both}
use Rattle.bisimulation.specs.definitions.Sum.{sum, sumℤ}
use Rattle.bisimulation.specs.definitions.StepRule.{arriving, leaving, over_targets, over_sources, before_move, after_move, internal_move, at_target}
use Rattle.bisimulation.specs.definitions.Prices.{price_at, price_of_targets}
use Rattle.bisimulation.specs.definitions.Pairs.{equal_labels, is_pair, removed}
use Rattle.rules.specs.definitions.Limits.{limits}
use Rattle.rules.specs.definitions.Bytes.{byte_at, two_at, three_at, four_at, signed_at, two_bytes}
use Rattle.rules.specs.definitions.Model.{Entry, Transition, Model, weight_of, automaton_of, head_bytes, labels_bytes, entries_bytes, transition_bytes, transitions_bytes, model_bytes}
use Rattle.numbers.specs.definitions.Divisor.{divisor_within, divisor, divisor_of}
use Rattle.rules.specs.definitions.LowestTerms.{divisor_in, divided_entry, in_lowest}
use Rattle.rules.specs.definitions.Reading.{states_of, actions_of, count_of, range_fault, head_fault, label_fault, labels_fault, source_at, action_at, denominator_at, entry_count_at, after_transition, fixed_fault, fixed_fault_at, entries_fault, terms_fault, transition_fault, refuse_at, scan_transitions, scan_model, refuse_bytes_left, scan_whole, entries_at, transition_at, transitions_at, model_at, reading_of, read_whole, place_of, first_not_below, run_first, run_past, run_start, run_end}
use Rattle.rules.specs.definitions.Certificate.{refutation_count, certificate_head_fault, challenger_at, defender_at, prices_at, after_refutation, pair_fault, refutation_fault, pairs_after, blocks_at, numbered_fault, same_block, agree, pairs_fault, blocks_fault, k_count_at, after_k, w_count_at, after_flow, k_of, w_of, flow_at, k_fault, w_fault, flow_fault}
use Rattle.rules.specs.definitions.Faults.{fault, first_of, open_fault}
use Rattle.rules.specs.definitions.PlainRule.{by_kind, plain_price_count, price_condition, all_with_action, all_related, below, last_fault, internal_prices_fault, external_prices_fault, plain_prices_fault, internal_in_question, external_in_question, plain_in_question, break_from, first_break, internal_equations_fault, external_equations_fault, plain_equations_fault, plain_rule}
use Rattle.rules.specs.definitions.Judging.{Judgement, accepted, refused_in, refuse_record_at, questions_of_pair, questions_of_state, questions_from, questions, judge_flows, judge_blocks, judge_refutations, judge_certificate, judge_reading, judge}
use Rattle.rules.specs.definitions.BlockCount.{block_count}
use Rattle.quotient.specs.definitions.Quotient.{label_of_block, block_labels, weight_to_block, block_entries, added_up, merged_transition, from_block, same_transition, is_among, distinct, by_block, quotient, merged_file}
use Rattle.rules.specs.definitions.SoundModel.{Each}
use Rattle.rules.proofs.cases.Cases.{model_s, certificate_s}
use Rattle.rules.proofs.cases.MoreCases.{OutcomeCase, outcome_of}
use Rattle.rules.specs.definitions.Answers.{refusal_in, answer_without_place, file_of, judgement_answer, unwritten, filled_with, filled_each, filled, judged_outcome, read_outcome, pair_outcome, room_for, files_outcome}
use Rattle.quotient.specs.definitions.ReduceAnswer.{writes_merged}

-- S merged: states 0 and 1 are one
unfoldable pub merged_s : List ℕ
merged_s =
    0x50 ∷ 0x41 ∷ 2 ∷ 2 ∷ 0 ∷ 2
    ∷ 0x4C ∷ 0x42 ∷ 0 ∷ 0
    ∷ 0x54 ∷ 0x52 ∷ 0 ∷ 1 ∷ 0 ∷ 1 ∷ 1 ∷ 1 ∷ 0 ∷ 1
    ∷ 0x54 ∷ 0x52 ∷ 0 ∷ 0 ∷ 0 ∷ 1 ∷ 1 ∷ 0 ∷ 0 ∷ 1 ∷ []

-- a certificate for model S, the lent buffer before, and what reducing answers and leaves in the buffer
unfoldable pub reduce_cases : List OutcomeCase
reduce_cases =
    -- S with a buffer of 32 bytes: the first 30 are the file, and the last 2 stay
    record { certificate = certificate_s; before = merged_s ++ (9 ∷ 8 ∷ []); expected = outcome_of 0 0 0 0 0 30 (merged_s ++ (9 ∷ 8 ∷ [])) }
    -- with one of 30 other bytes: an exact fit
    ∷ record { certificate = certificate_s; before = take 30 certificate_s; expected = outcome_of 0 0 0 0 0 30 merged_s }
    -- with one of 29: 23, without a place, and nothing written
    ∷ record { certificate = certificate_s; before = take 29 certificate_s; expected = outcome_of 23 0 0 0 0 0 (take 29 certificate_s) }
    -- C10, the last byte gone, and no buffer: 11 comes before 23
    ∷ record { certificate = take 124 certificate_s; before = []; expected = outcome_of 11 2 109 109 15 0 [] }
    ∷ []

-- states 0 and 2 with label 5 are one block, 1 and 3 with label 6 the other
unfoldable pub four_states : Model
four_states =
    record {
      actions = 2;
      labels = 5 ∷ 6 ∷ 5 ∷ 6 ∷ [];
      transitions =
          record { source = 0; action = 1; denominator = 4; entries = record { state = 1; weight = 1 } ∷ record { state = 3; weight = 3 } ∷ [] }
          ∷ record { source = 1; action = 1; denominator = 4; entries = record { state = 1; weight = 4 } ∷ [] }
          ∷ record { source = 2; action = 0; denominator = 2; entries = record { state = 0; weight = 1 } ∷ record { state = 1; weight = 1 } ∷ [] }
          ∷ record { source = 2; action = 1; denominator = 4; entries = record { state = 3; weight = 4 } ∷ [] }
          ∷ record { source = 3; action = 1; denominator = 2; entries = record { state = 1; weight = 1 } ∷ record { state = 3; weight = 1 } ∷ [] }
          ∷ [];
    }

-- of block 0 the first transition, whose targets join, is kept, as 1 of 1, and the last, the same, is not; that of state 1 is the same but for
-- its block, and is kept; that of state 3 is the same as it in other terms
unfoldable pub four_merged : List ℕ
four_merged =
    0x50 ∷ 0x41 ∷ 2 ∷ 2 ∷ 0 ∷ 3
    ∷ 0x4C ∷ 0x42 ∷ 5 ∷ 6
    ∷ 0x54 ∷ 0x52 ∷ 0 ∷ 1 ∷ 0 ∷ 1 ∷ 1 ∷ 1 ∷ 0 ∷ 1
    ∷ 0x54 ∷ 0x52 ∷ 0 ∷ 0 ∷ 0 ∷ 2 ∷ 2 ∷ 0 ∷ 0 ∷ 1 ∷ 1 ∷ 0 ∷ 1
    ∷ 0x54 ∷ 0x52 ∷ 1 ∷ 1 ∷ 0 ∷ 1 ∷ 1 ∷ 1 ∷ 0 ∷ 1 ∷ []

-- states 0 and 3 are one block, 1 and 2 one each: halves and two quarters
unfoldable pub halves : Model
halves =
    record {
      actions = 2;
      labels = 5 ∷ 6 ∷ 7 ∷ 5 ∷ [];
      transitions =
          record { source = 0; action = 1; denominator = 2; entries = record { state = 0; weight = 1 } ∷ record { state = 1; weight = 1 } ∷ [] }
          ∷ record { source = 0; action = 1; denominator = 4; entries = record { state = 0; weight = 2 } ∷ record { state = 1; weight = 1 } ∷ record { state = 2; weight = 1 } ∷ [] }
          ∷ record { source = 0; action = 1; denominator = 2; entries = record { state = 0; weight = 1 } ∷ record { state = 2; weight = 1 } ∷ [] }
          ∷ record { source = 0; action = 0; denominator = 4; entries = record { state = 0; weight = 2 } ∷ record { state = 1; weight = 2 } ∷ [] }
          ∷ record { source = 0; action = 1; denominator = 2; entries = record { state = 0; weight = 2 } ∷ [] }
          ∷ record { source = 3; action = 1; denominator = 4; entries = record { state = 0; weight = 1 } ∷ record { state = 1; weight = 2 } ∷ record { state = 3; weight = 1 } ∷ [] }
          ∷ record { source = 3; action = 0; denominator = 2; entries = record { state = 1; weight = 1 } ∷ record { state = 3; weight = 1 } ∷ [] }
          ∷ [];
    }

-- of state 0 all are kept, of which three lead to block 0 with the same probability and two have the same but for the action; the two of state 3
-- are the same as the first and the fourth
unfoldable pub halves_merged : List ℕ
halves_merged =
    0x50 ∷ 0x41 ∷ 3 ∷ 2 ∷ 0 ∷ 5
    ∷ 0x4C ∷ 0x42 ∷ 5 ∷ 6 ∷ 7
    ∷ 0x54 ∷ 0x52 ∷ 0 ∷ 1 ∷ 0 ∷ 2 ∷ 2 ∷ 0 ∷ 0 ∷ 1 ∷ 1 ∷ 0 ∷ 1
    ∷ 0x54 ∷ 0x52 ∷ 0 ∷ 1 ∷ 0 ∷ 4 ∷ 3 ∷ 0 ∷ 0 ∷ 2 ∷ 1 ∷ 0 ∷ 1 ∷ 2 ∷ 0 ∷ 1
    ∷ 0x54 ∷ 0x52 ∷ 0 ∷ 1 ∷ 0 ∷ 2 ∷ 2 ∷ 0 ∷ 0 ∷ 1 ∷ 2 ∷ 0 ∷ 1
    ∷ 0x54 ∷ 0x52 ∷ 0 ∷ 0 ∷ 0 ∷ 2 ∷ 2 ∷ 0 ∷ 0 ∷ 1 ∷ 1 ∷ 0 ∷ 1
    ∷ 0x54 ∷ 0x52 ∷ 0 ∷ 1 ∷ 0 ∷ 1 ∷ 1 ∷ 0 ∷ 0 ∷ 1 ∷ []

-- K10, states 1 and 2 are one block: weights in lowest terms, of which the last two add up to a divisor of 2, of 3, and of 1
unfoldable pub joining : Model
joining =
    record {
      actions = 2;
      labels = 5 ∷ 6 ∷ 6 ∷ [];
      transitions =
          record { source = 0; action = 1; denominator = 4; entries = record { state = 0; weight = 2 } ∷ record { state = 1; weight = 1 } ∷ record { state = 2; weight = 1 } ∷ [] }
          ∷ record { source = 0; action = 1; denominator = 1500; entries = record { state = 0; weight = 600 } ∷ record { state = 1; weight = 1 } ∷ record { state = 2; weight = 899 } ∷ [] }
          ∷ record { source = 1; action = 0; denominator = 6; entries = record { state = 0; weight = 1 } ∷ record { state = 1; weight = 2 } ∷ record { state = 2; weight = 3 } ∷ [] }
          ∷ [];
    }

-- 2, 2 of 4 are 1, 1 of 2; 600, 900 of 1,500 are 2, 3 of 5; 1, 5 of 6 stay
unfoldable pub joining_merged : List ℕ
joining_merged =
    0x50 ∷ 0x41 ∷ 2 ∷ 2 ∷ 0 ∷ 3
    ∷ 0x4C ∷ 0x42 ∷ 5 ∷ 6
    ∷ 0x54 ∷ 0x52 ∷ 0 ∷ 1 ∷ 0 ∷ 2 ∷ 2 ∷ 0 ∷ 0 ∷ 1 ∷ 1 ∷ 0 ∷ 1
    ∷ 0x54 ∷ 0x52 ∷ 0 ∷ 1 ∷ 0 ∷ 5 ∷ 2 ∷ 0 ∷ 0 ∷ 2 ∷ 1 ∷ 0 ∷ 3
    ∷ 0x54 ∷ 0x52 ∷ 1 ∷ 0 ∷ 0 ∷ 6 ∷ 2 ∷ 0 ∷ 0 ∷ 1 ∷ 1 ∷ 0 ∷ 5 ∷ []

pub merged-cases : (merged_file four_states (0 ∷ 1 ∷ 0 ∷ 1 ∷ []) ≡ four_merged) × (merged_file halves (0 ∷ 1 ∷ 2 ∷ 0 ∷ []) ≡ halves_merged) × (merged_file joining (0 ∷ 1 ∷ 1 ∷ []) ≡ joining_merged) × Each (λ (c : OutcomeCase). pair_outcome limits (read_whole limits) plain_rule writes_merged model_s c.certificate (c.before ∷ []) ≡ c.expected) reduce_cases
unfolding if_less if_same if_true all_below sum sumℤ arriving leaving over_targets over_sources before_move after_move internal_move at_target price_at price_of_targets byte_at two_at three_at four_at signed_at weight_of automaton_of open_fault states_of actions_of count_of range_fault head_fault label_fault labels_fault source_at action_at denominator_at entry_count_at after_transition fixed_fault fixed_fault_at entries_fault terms_fault transition_fault refuse_at scan_transitions scan_model refuse_bytes_left scan_whole entries_at transition_at transitions_at model_at reading_of read_whole first_of both equal_labels is_pair removed refutation_count certificate_head_fault challenger_at defender_at prices_at after_refutation pair_fault refutation_fault pairs_after blocks_at numbered_fault same_block agree pairs_fault blocks_fault k_count_at after_k w_count_at after_flow k_of w_of flow_at k_fault w_fault flow_fault by_kind plain_price_count price_condition all_with_action all_related below last_fault internal_prices_fault external_prices_fault plain_prices_fault internal_in_question external_in_question plain_in_question break_from first_break internal_equations_fault external_equations_fault plain_equations_fault refuse_record_at questions_of_pair questions_of_state questions_from questions judge_flows judge_blocks judge_refutations judge_certificate judge_reading judge model_s certificate_s refusal_in answer_without_place file_of judgement_answer unwritten filled_with filled_each filled judged_outcome read_outcome pair_outcome Each two_bytes head_bytes labels_bytes entries_bytes transition_bytes transitions_bytes model_bytes block_count label_of_block block_labels weight_to_block block_entries divisor_within divisor divisor_of divisor_in divided_entry in_lowest added_up merged_transition from_block same_transition is_among distinct by_block quotient merged_file room_for files_outcome merged_s reduce_cases four_states four_merged halves halves_merged joining joining_merged
merged-cases = (refl, refl, refl, (refl, (refl, (refl, (refl, tt)))))
