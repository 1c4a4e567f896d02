-- Document 02, K10: stored pairs rewritten, computed case by case: the bytes of both files, 35 and 36, each with and without costs, and files of the
-- other kind.
use Rattle.std.specs.Prelude.{ℕ, ◌≡◌, refl, List, [], ◌∷◌, ◌++◌, length, take, drop, set, replicate, pos}
use Rattle.bisimulation.specs.definitions.Choice.{if_less, if_same, if_true, all_below, both}
use Rattle.bisimulation.specs.definitions.Sum.{sum, sumℤ}
use Rattle.bisimulation.specs.definitions.StepRule.{arriving, leaving, over_targets, over_sources, before_move, after_move, internal_move, at_target}
use Rattle.bisimulation.specs.definitions.Prices.{price_at, price_of_targets}
use Rattle.bisimulation.specs.definitions.Pairs.{equal_labels, is_pair, removed}
use Rattle.numbers.specs.definitions.Divisor.{divisor_within, divisor, divisor_of}
use Rattle.rules.specs.definitions.Limits.{lowest_terms, limits, with_terms}
use Rattle.rules.specs.definitions.LowestTerms.{divisor_in, divided_entry, in_lowest}
use Rattle.rules.specs.definitions.Bytes.{byte_at, two_at, three_at, four_at, signed_at, two_bytes}
use Rattle.rules.specs.definitions.Model.{head_bytes, labels_bytes, entries_bytes, transition_bytes, transitions_bytes, model_bytes, weight_of, automaton_of}
use Rattle.rules.specs.definitions.SoundModel.{Each}
use Rattle.rules.specs.definitions.Reading.{states_of, actions_of, count_of, range_fault, head_fault, label_fault, labels_fault, source_at, action_at, denominator_at, entry_count_at, after_transition, fixed_fault, fixed_fault_at, entries_fault, terms_fault, transition_fault, refuse_at, scan_transitions, scan_model, refuse_bytes_left, scan_whole, entries_at, transition_at, transitions_at, model_at, no_model, reading_of, read_whole, place_of}
use Rattle.rules.specs.definitions.Certificate.{refutation_count, certificate_head_fault, challenger_at, defender_at, prices_at, after_refutation, pair_fault, refutation_fault, pairs_after, blocks_at, numbered_fault, same_block, agree, pairs_fault, blocks_fault, k_count_at, after_k, w_count_at, after_flow, k_of, w_of, flow_at, k_fault, w_fault, flow_fault}
use Rattle.rules.specs.definitions.CertificateAt.{entries_from, refutation_at, k_at, w_at, flow_record_at, refutations_from, after_refutations, blocks_place, flows_place, flows_from, certificate_at}
use Rattle.rules.specs.definitions.Encoding.{four_bytes, complement, list_bytes, price_bytes, refutation_bytes, blocks_bytes, k_bytes, w_bytes, flow_bytes, certificate_bytes}
use Rattle.rules.specs.definitions.Faults.{fault, first_of, open_fault}
use Rattle.rules.specs.definitions.PlainRule.{by_kind, plain_price_count, price_condition, all_with_action, all_related, below, last_fault, internal_prices_fault, external_prices_fault, plain_prices_fault, internal_in_question, external_in_question, plain_in_question, break_from, first_break, internal_equations_fault, external_equations_fault, plain_equations_fault, plain_rule}
use Rattle.rules.specs.definitions.Judging.{accepted, refused_in, refuse_record_at, questions_of_pair, questions_of_state, questions_from, questions, judge_flows, judge_blocks, judge_refutations, judge_certificate, judge_reading, judge}
use Rattle.rules.specs.definitions.JudgedBy.{plain_pairs_at}
use Rattle.rules.specs.definitions.Answers.{Outcome, refusal_in, answer_without_place, file_of, judgement_answer, unwritten, filled_with, filled_each, filled, room_for, files_outcome, judged_outcome, read_outcome, pair_outcome}
use Rattle.rules.specs.definitions.Demands.{outcome_by}
use Rattle.rules.proofs.cases.MoreCases.{answer_at}
use Rattle.costs.specs.definitions.CostPrices.{price_with_cost}
use Rattle.costs.specs.definitions.CostRefutation.{price_after}
use Rattle.costs.specs.definitions.CostStepRule.{cost_of_layer, layers, cost_equation}
use Rattle.cost_files.specs.definitions.CostModel.{cost_of, costs_bytes, cost_model_bytes, transitions_end, costs_in}
use Rattle.cost_files.specs.definitions.CostReading.{cost_fault, scan_costs, scan_cost_record, scan_cost_model, read_costs}
use Rattle.cost_files.specs.definitions.CostFile.{cost_price_count, cost_prices_fault, cost_equation_fault, cost_equations_fault, cost_file}
use Rattle.cost_files.specs.definitions.CostPairs.{cost_pairs_at}
use Rattle.rewriting.specs.definitions.Rewritten.{rewritten_model, divisor_at, rewritten_k, rewritten_flow, rewritten_certificate}
use Rattle.rewriting.specs.definitions.RewriteAnswer.{passes_k, refuse_large, rewrites_plain, rewrites_costs}

-- three states with label 0. State 0 goes to itself by an internal step with 3/3, and by action 1 to 0 and 1 with 3/6 each; state 1 does so with 1/2
-- each; state 2 does nothing. 47 bytes
unfoldable pub stored_model : List ℕ
stored_model =
    0x50 ∷ 0x41 ∷ 3 ∷ 2 ∷ 0 ∷ 3
    ∷ 0x4C ∷ 0x42 ∷ 0 ∷ 0 ∷ 0
    ∷ 0x54 ∷ 0x52 ∷ 0 ∷ 0 ∷ 0 ∷ 3 ∷ 1 ∷ 0 ∷ 0 ∷ 3
    ∷ 0x54 ∷ 0x52 ∷ 0 ∷ 1 ∷ 0 ∷ 6 ∷ 2 ∷ 0 ∷ 0 ∷ 3 ∷ 1 ∷ 0 ∷ 3
    ∷ 0x54 ∷ 0x52 ∷ 1 ∷ 1 ∷ 0 ∷ 2 ∷ 2 ∷ 0 ∷ 0 ∷ 1 ∷ 1 ∷ 0 ∷ 1 ∷ []

-- the same in lowest terms
unfoldable pub rewritten_file : List ℕ
rewritten_file =
    0x50 ∷ 0x41 ∷ 3 ∷ 2 ∷ 0 ∷ 3
    ∷ 0x4C ∷ 0x42 ∷ 0 ∷ 0 ∷ 0
    ∷ 0x54 ∷ 0x52 ∷ 0 ∷ 0 ∷ 0 ∷ 1 ∷ 1 ∷ 0 ∷ 0 ∷ 1
    ∷ 0x54 ∷ 0x52 ∷ 0 ∷ 1 ∷ 0 ∷ 2 ∷ 2 ∷ 0 ∷ 0 ∷ 1 ∷ 1 ∷ 0 ∷ 1
    ∷ 0x54 ∷ 0x52 ∷ 1 ∷ 1 ∷ 0 ∷ 2 ∷ 2 ∷ 0 ∷ 0 ∷ 1 ∷ 1 ∷ 0 ∷ 1 ∷ []

-- a certificate for both, by its mark, what stands behind the prices of each refutation, and the bytes of the k of the last flow. Transition 1, then
-- transition 2, refutes state 2: A 1 1 -100, B and G 1; blocks 0 0 1. Flows: state 1 stays put; D 2, k(1,2) 1; D 6, k(0,0) of the step that leads
-- nowhere, k(1,1) and k(2,0)
unfoldable pub with_prices : (mark : ℕ) → (last before move after : List ℕ) → List ℕ
with_prices mark last before move after =
    0x43 ∷ mark ∷ 0 ∷ 2
    ∷ 0x50 ∷ 0x58 ∷ 0 ∷ 1 ∷ 2
    ∷ 0 ∷ 0 ∷ 0 ∷ 1 ∷ 0 ∷ 0 ∷ 0 ∷ 1 ∷ 0xFF ∷ 0xFF ∷ 0xFF ∷ 0x9C
    ∷ 0 ∷ 0 ∷ 0 ∷ 1 ∷ 0 ∷ 0 ∷ 0 ∷ 1 ∷ 0 ∷ 0 ∷ 0 ∷ 1
    ∷ 0 ∷ 0 ∷ 0 ∷ 1 ∷ 0 ∷ 0 ∷ 0 ∷ 1 ∷ 0 ∷ 0 ∷ 0 ∷ 1
    ∷ (last
    ++ (0x50 ∷ 0x58 ∷ 0 ∷ 2 ∷ 2
    ∷ 0 ∷ 0 ∷ 0 ∷ 1 ∷ 0 ∷ 0 ∷ 0 ∷ 1 ∷ 0xFF ∷ 0xFF ∷ 0xFF ∷ 0x9C
    ∷ 0 ∷ 0 ∷ 0 ∷ 1 ∷ 0 ∷ 0 ∷ 0 ∷ 1 ∷ 0 ∷ 0 ∷ 0 ∷ 1
    ∷ 0 ∷ 0 ∷ 0 ∷ 1 ∷ 0 ∷ 0 ∷ 0 ∷ 1 ∷ 0 ∷ 0 ∷ 0 ∷ 1
    ∷ (last
    ++ (0x42 ∷ 0x4B ∷ 0 ∷ 0 ∷ 1
    ∷ 0x46 ∷ 0x4C ∷ 0 ∷ 0 ∷ 0 ∷ 1 ∷ 0 ∷ 0 ∷ 0 ∷ 1 ∷ 1 ∷ 0 ∷ 0 ∷ 0 ∷ 0 ∷ 1
    ∷ 0x46 ∷ 0x4C ∷ 0 ∷ 0 ∷ 0 ∷ 2 ∷ 0 ∷ 1 ∷ 1 ∷ 0 ∷ 2 ∷ 0 ∷ 0 ∷ 0 ∷ 1
    ∷ 0 ∷ 2 ∷ 0 ∷ 0 ∷ 0 ∷ 0 ∷ 0 ∷ 1 ∷ 1 ∷ 1 ∷ 0 ∷ 0 ∷ 0 ∷ 1
    ∷ 0x46 ∷ 0x4C ∷ 0 ∷ 0 ∷ 0 ∷ 6 ∷ 0 ∷ 3
    ∷ 0 ∷ 0 ∷ 0 ∷ (before ++ (1 ∷ 0 ∷ 1 ∷ (move ++ (2 ∷ 0 ∷ 0 ∷ (after
    ++ (0 ∷ 2 ∷ 0 ∷ 0 ∷ 0 ∷ 0 ∷ 0 ∷ 3 ∷ 1 ∷ 1 ∷ 0 ∷ 0 ∷ 0 ∷ 3 ∷ []))))))))))

-- without costs, 179 bytes, the last flow at 136: stored with k(1,1) 1 and k(2,0) 2, and with 3 and 6
unfoldable pub stored_certificate : (before : List ℕ) → List ℕ
stored_certificate before = with_prices 0x54 [] before (0 ∷ 0 ∷ 0 ∷ 1 ∷ []) (0 ∷ 0 ∷ 0 ∷ 2 ∷ [])

unfoldable pub threefold : (before : List ℕ) → List ℕ
threefold before = with_prices 0x54 [] before (0 ∷ 0 ∷ 0 ∷ 3 ∷ []) (0 ∷ 0 ∷ 0 ∷ 6 ∷ [])

-- costs 0, 5 and 5, and a price L of -1: 52 and 187 bytes, the last flow at 144
unfoldable pub with_costs : List ℕ → List ℕ
with_costs file = file ++ (0x43 ∷ 0x4F ∷ 0 ∷ 5 ∷ 5 ∷ [])

unfoldable pub stored_cost_certificate : (before : List ℕ) → List ℕ
stored_cost_certificate before = with_prices 0x43 (0xFF ∷ 0xFF ∷ 0xFF ∷ 0xFF ∷ []) before (0 ∷ 0 ∷ 0 ∷ 1 ∷ []) (0 ∷ 0 ∷ 0 ∷ 2 ∷ [])

unfoldable pub threefold_cost_certificate : (before : List ℕ) → List ℕ
threefold_cost_certificate before = with_prices 0x43 (0xFF ∷ 0xFF ∷ 0xFF ∷ 0xFF ∷ []) before (0 ∷ 0 ∷ 0 ∷ 3 ∷ []) (0 ∷ 0 ∷ 0 ∷ 6 ∷ [])

-- the bytes of 1,431,655,765, three times of which is the highest k, and of one more
abbrev fits : List ℕ
fits = 0x55 ∷ 0x55 ∷ 0x55 ∷ 0x55 ∷ []

abbrev passes : List ℕ
passes = 0x55 ∷ 0x55 ∷ 0x55 ∷ 0x56 ∷ []

abbrev highest : List ℕ
highest = 0xFF ∷ 0xFF ∷ 0xFF ∷ 0xFF ∷ []

-- a pair, what the two lent buffers held, and what rewriting answers and leaves
pub record RewriteCase : Type 0 where
  pub model : List ℕ
  pub certificate : List ℕ
  pub first : List ℕ
  pub second : List ℕ
  pub expected : Outcome

-- number, file and place, the stretch, and both buffers with the bytes written
abbrev pub pair_of : (number file place size : ℕ) → (first : List ℕ) → (first_written : ℕ) → (second : List ℕ) → (second_written : ℕ) → Outcome
pair_of number file place size first first_written second second_written =
    record {
      answer = answer_at number file place place size;
      lent = record { bytes = first; written = first_written } ∷ record { bytes = second; written = second_written } ∷ [];
    }

-- a refusal leaves both buffers
abbrev refused_case : (model certificate first second : List ℕ) → (number file place size : ℕ) → RewriteCase
refused_case model certificate first second number file place size =
    record { model = model; certificate = certificate; first = first; second = second; expected = pair_of number file place size first 0 second 0 }

unfoldable pub rewrite_cases : List RewriteCase
rewrite_cases =
    -- both files are written in full, 47 and 179 bytes, and later bytes stay; k(0,0) 1,431,655,765 fits
    record {
      model = stored_model;
      certificate = stored_certificate fits;
      first = replicate 47 7 ++ (9 ∷ 8 ∷ []);
      second = replicate 179 7 ++ (6 ∷ []);
      expected = pair_of 0 0 0 0 (rewritten_file ++ (9 ∷ 8 ∷ [])) 47 (threefold highest ++ (6 ∷ [])) 179;
    }
    -- an exact fit; what is in lowest terms stays as it is
    ∷ record {
      model = rewritten_file;
      certificate = threefold highest;
      first = replicate 47 7;
      second = replicate 179 7;
      expected = pair_of 0 0 0 0 rewritten_file 47 (threefold highest) 179;
    }
    -- either buffer one byte short: 36, and neither is written
    ∷ refused_case stored_model (stored_certificate fits) (replicate 46 7) (replicate 179 7) 36 0 0 0
    ∷ refused_case stored_model (stored_certificate fits) (replicate 47 7) (replicate 178 7) 36 0 0 0
    ∷ refused_case stored_model (stored_certificate fits) [] [] 36 0 0 0
    -- k(0,0) 1,431,655,766: 35 at its flow in the stored certificate, before 36
    ∷ refused_case stored_model (stored_certificate passes) (replicate 47 7) (replicate 179 7) 35 2 136 43
    ∷ refused_case stored_model (stored_certificate passes) [] [] 35 2 136 43
    -- with 2/2 for the step and k(0,0) 2,147,483,648 it is one above the highest
    ∷ refused_case (set (set stored_model 16 2) 20 2) (stored_certificate (0x80 ∷ 0 ∷ 0 ∷ 0 ∷ [])) [] [] 35 2 136 43
    -- that k after the move, k(2,0): 35 too
    ∷ refused_case stored_model (with_prices 0x54 [] (0 ∷ 0 ∷ 0 ∷ 1 ∷ []) (0 ∷ 0 ∷ 0 ∷ 1 ∷ []) passes) [] [] 35 2 136 43
    -- in the flow before it as well, which then has 7 bytes more: 35 at the first of the two
    ∷ refused_case stored_model (take 113 (stored_certificate passes) ++ (0 ∷ 2 ∷ 0 ∷ 0 ∷ 0 ∷ (passes ++ drop 115 (stored_certificate passes)))) [] [] 35 2 107 79
    -- the same k where the terms are lowest: nothing to multiply by
    ∷ record {
      model = rewritten_file;
      certificate = threefold passes;
      first = replicate 47 7;
      second = replicate 179 7;
      expected = pair_of 0 0 0 0 rewritten_file 47 (threefold passes) 179;
    }
    -- judged first: a last byte more is 22, before 35
    ∷ refused_case stored_model (stored_certificate passes ++ (0 ∷ [])) [] [] 22 2 179 1
    -- a sum that is not d is 7, and no number is 34
    ∷ refused_case (set stored_model 16 4) (stored_certificate fits) [] [] 7 1 11 36
    -- files with costs: 9 at the cost record; 12 at 0
    ∷ refused_case (with_costs stored_model) (stored_cost_certificate fits) [] [] 9 1 47 5
    ∷ refused_case stored_model (stored_cost_certificate fits) [] [] 12 2 0 187
    ∷ []

unfoldable pub rewrite_costs_cases : List RewriteCase
rewrite_costs_cases =
    -- costs and L stay
    record {
      model = with_costs stored_model;
      certificate = stored_cost_certificate fits;
      first = replicate 52 7 ++ (9 ∷ []);
      second = replicate 187 7 ++ (6 ∷ []);
      expected = pair_of 0 0 0 0 (with_costs rewritten_file ++ (9 ∷ [])) 52 (threefold_cost_certificate highest ++ (6 ∷ [])) 187;
    }
    ∷ refused_case (with_costs stored_model) (stored_cost_certificate fits) (replicate 51 7) (replicate 187 7) 36 0 0 0
    ∷ refused_case (with_costs stored_model) (stored_cost_certificate fits) (replicate 52 7) (replicate 186 7) 36 0 0 0
    ∷ refused_case (with_costs stored_model) (stored_cost_certificate passes) [] [] 35 2 144 43
    -- a cost of 64 for the last transition is 29 at its byte; 2 for the first is 30 at the last flow, before 35
    ∷ refused_case (set (with_costs stored_model) 51 64) (stored_cost_certificate passes) [] [] 29 1 51 1
    ∷ refused_case (set (with_costs stored_model) 49 2) (stored_cost_certificate passes) [] [] 30 2 99 88
    -- files without costs: 1 at the end of the model; 12 at 0
    ∷ refused_case stored_model (stored_certificate fits) [] [] 1 1 47 0
    ∷ refused_case (with_costs stored_model) (stored_certificate fits) [] [] 12 2 0 179
    ∷ []

-- the last price condition is judged as it is stored: A(2) = 2 in the first refutation, and the left side has 6 more, 2 in lowest terms
unfoldable pub price_too_high : List ℕ
price_too_high = set (set (set (set (stored_certificate fits) 17 0) 18 0) 19 0) 20 2

pub stored-remainder : outcome_by (plain_pairs_at limits) (rewrites_plain price_too_high) stored_model price_too_high ([] ∷ [] ∷ []) ≡ record { answer = record { number = 16; file = 2; place = 4; stretch_start = 4; stretch_length = 175; state = 2; remainder = pos 6 }; lent = record { bytes = []; written = 0 } ∷ record { bytes = []; written = 0 } ∷ [] }
unfolding if_less if_same if_true all_below sum sumℤ arriving leaving over_targets over_sources before_move after_move internal_move at_target price_at price_of_targets byte_at two_at three_at four_at signed_at two_bytes four_bytes complement list_bytes price_bytes refutation_bytes blocks_bytes k_bytes w_bytes flow_bytes certificate_bytes entries_bytes transition_bytes transitions_bytes head_bytes labels_bytes model_bytes weight_of automaton_of open_fault states_of actions_of count_of range_fault head_fault label_fault labels_fault source_at action_at denominator_at entry_count_at after_transition fixed_fault fixed_fault_at entries_fault divisor_within divisor divisor_of divisor_in divided_entry in_lowest terms_fault transition_fault refuse_at scan_transitions scan_model refuse_bytes_left scan_whole entries_at transition_at transitions_at model_at reading_of read_whole place_of first_of both equal_labels is_pair removed refutation_count certificate_head_fault challenger_at defender_at prices_at after_refutation pair_fault refutation_fault pairs_after blocks_at numbered_fault same_block agree pairs_fault blocks_fault k_count_at after_k w_count_at after_flow k_of w_of flow_at k_fault w_fault flow_fault by_kind plain_price_count price_condition all_with_action all_related below last_fault internal_prices_fault external_prices_fault plain_prices_fault internal_in_question external_in_question plain_in_question break_from first_break internal_equations_fault external_equations_fault plain_equations_fault refuse_record_at questions_of_pair questions_of_state questions_from questions judge_flows judge_blocks judge_refutations judge_certificate judge_reading judge entries_from refutation_at k_at w_at flow_record_at refutations_from after_refutations blocks_place flows_place flows_from certificate_at rewritten_model divisor_at rewritten_k rewritten_flow rewritten_certificate passes_k refuse_large refusal_in answer_without_place file_of judgement_answer unwritten filled_with filled_each filled room_for files_outcome judged_outcome read_outcome pair_outcome Each stored_model with_prices stored_certificate price_too_high
stored-remainder = refl

-- the tables, computed
pub rewrite-cases : Each (λ (c : RewriteCase). outcome_by (plain_pairs_at limits) (rewrites_plain c.certificate) c.model c.certificate (c.first ∷ c.second ∷ []) ≡ c.expected) rewrite_cases
unfolding if_less if_same if_true all_below sum sumℤ arriving leaving over_targets over_sources before_move after_move internal_move at_target price_at price_of_targets byte_at two_at three_at four_at signed_at two_bytes four_bytes complement list_bytes price_bytes refutation_bytes blocks_bytes k_bytes w_bytes flow_bytes certificate_bytes entries_bytes transition_bytes transitions_bytes head_bytes labels_bytes model_bytes weight_of automaton_of open_fault states_of actions_of count_of range_fault head_fault label_fault labels_fault source_at action_at denominator_at entry_count_at after_transition fixed_fault fixed_fault_at entries_fault divisor_within divisor divisor_of divisor_in divided_entry in_lowest terms_fault transition_fault refuse_at scan_transitions scan_model refuse_bytes_left scan_whole entries_at transition_at transitions_at model_at reading_of read_whole place_of first_of both equal_labels is_pair removed refutation_count certificate_head_fault challenger_at defender_at prices_at after_refutation pair_fault refutation_fault pairs_after blocks_at numbered_fault same_block agree pairs_fault blocks_fault k_count_at after_k w_count_at after_flow k_of w_of flow_at k_fault w_fault flow_fault by_kind plain_price_count price_condition all_with_action all_related below last_fault internal_prices_fault external_prices_fault plain_prices_fault internal_in_question external_in_question plain_in_question break_from first_break internal_equations_fault external_equations_fault plain_equations_fault refuse_record_at questions_of_pair questions_of_state questions_from questions judge_flows judge_blocks judge_refutations judge_certificate judge_reading judge entries_from refutation_at k_at w_at flow_record_at refutations_from after_refutations blocks_place flows_place flows_from certificate_at rewritten_model divisor_at rewritten_k rewritten_flow rewritten_certificate passes_k refuse_large refusal_in answer_without_place file_of judgement_answer unwritten filled_with filled_each filled room_for files_outcome judged_outcome read_outcome pair_outcome Each stored_model rewritten_file with_prices stored_certificate threefold with_costs stored_cost_certificate rewrite_cases
rewrite-cases = (refl, (refl, (refl, (refl, (refl, (refl, (refl, (refl, (refl, (refl, (refl, (refl, (refl, (refl, (refl, tt)))))))))))))))

pub rewrite-costs-cases : Each (λ (c : RewriteCase). outcome_by (cost_pairs_at limits) (rewrites_costs c.model c.certificate) c.model c.certificate (c.first ∷ c.second ∷ []) ≡ c.expected) rewrite_costs_cases
unfolding if_less if_same if_true all_below sum sumℤ arriving leaving over_targets over_sources before_move after_move internal_move at_target price_at price_of_targets byte_at two_at three_at four_at signed_at two_bytes four_bytes complement list_bytes price_bytes refutation_bytes blocks_bytes k_bytes w_bytes flow_bytes certificate_bytes entries_bytes transition_bytes transitions_bytes head_bytes labels_bytes model_bytes weight_of automaton_of open_fault states_of actions_of count_of range_fault head_fault label_fault labels_fault source_at action_at denominator_at entry_count_at after_transition fixed_fault fixed_fault_at entries_fault divisor_within divisor divisor_of divisor_in divided_entry in_lowest terms_fault transition_fault refuse_at scan_transitions scan_model refuse_bytes_left scan_whole entries_at transition_at transitions_at model_at reading_of read_whole place_of first_of both equal_labels is_pair removed refutation_count certificate_head_fault challenger_at defender_at prices_at after_refutation pair_fault refutation_fault pairs_after blocks_at numbered_fault same_block agree pairs_fault blocks_fault k_count_at after_k w_count_at after_flow k_of w_of flow_at k_fault w_fault flow_fault by_kind plain_price_count price_condition all_with_action all_related below last_fault internal_prices_fault external_prices_fault plain_prices_fault internal_in_question external_in_question plain_in_question break_from first_break internal_equations_fault external_equations_fault plain_equations_fault refuse_record_at questions_of_pair questions_of_state questions_from questions judge_flows judge_blocks judge_refutations judge_certificate judge_reading judge entries_from refutation_at k_at w_at flow_record_at refutations_from after_refutations blocks_place flows_place flows_from certificate_at rewritten_model divisor_at rewritten_k rewritten_flow rewritten_certificate passes_k refuse_large refusal_in answer_without_place file_of judgement_answer unwritten filled_with filled_each filled room_for files_outcome judged_outcome read_outcome pair_outcome Each price_with_cost price_after cost_of_layer layers cost_equation cost_of costs_bytes cost_model_bytes transitions_end costs_in cost_fault scan_costs scan_cost_record scan_cost_model read_costs cost_price_count cost_prices_fault cost_equation_fault cost_equations_fault stored_model rewritten_file with_prices stored_certificate with_costs stored_cost_certificate threefold_cost_certificate rewrite_costs_cases
rewrite-costs-cases = (refl, (refl, (refl, (refl, (refl, (refl, (refl, (refl, tt))))))))

-- 'an accepted one, once rewritten, is accepted with the same blocks', here in numbers; the stored model is 34 from now on
pub rewritten-accepted : (judge limits (read_whole limits) plain_rule stored_model (stored_certificate fits) ≡ accepted (0 ∷ 0 ∷ 1 ∷ [])) × (judge (with_terms lowest_terms limits) (read_whole (with_terms lowest_terms limits)) plain_rule rewritten_file (threefold highest) ≡ accepted (0 ∷ 0 ∷ 1 ∷ [])) × (judge (with_terms lowest_terms limits) (read_whole (with_terms lowest_terms limits)) plain_rule stored_model (stored_certificate fits) ≡ refused_in (fault 34) 1 11)
unfolding if_less if_same if_true all_below sum sumℤ arriving leaving over_targets over_sources before_move after_move internal_move at_target price_at price_of_targets byte_at two_at three_at four_at signed_at two_bytes four_bytes complement list_bytes price_bytes refutation_bytes blocks_bytes k_bytes w_bytes flow_bytes certificate_bytes entries_bytes transition_bytes transitions_bytes head_bytes labels_bytes model_bytes weight_of automaton_of open_fault states_of actions_of count_of range_fault head_fault label_fault labels_fault source_at action_at denominator_at entry_count_at after_transition fixed_fault fixed_fault_at entries_fault divisor_within divisor divisor_of divisor_in divided_entry in_lowest terms_fault transition_fault refuse_at scan_transitions scan_model refuse_bytes_left scan_whole entries_at transition_at transitions_at model_at reading_of read_whole place_of first_of both equal_labels is_pair removed refutation_count certificate_head_fault challenger_at defender_at prices_at after_refutation pair_fault refutation_fault pairs_after blocks_at numbered_fault same_block agree pairs_fault blocks_fault k_count_at after_k w_count_at after_flow k_of w_of flow_at k_fault w_fault flow_fault by_kind plain_price_count price_condition all_with_action all_related below last_fault internal_prices_fault external_prices_fault plain_prices_fault internal_in_question external_in_question plain_in_question break_from first_break internal_equations_fault external_equations_fault plain_equations_fault refuse_record_at questions_of_pair questions_of_state questions_from questions judge_flows judge_blocks judge_refutations judge_certificate judge_reading judge entries_from refutation_at k_at w_at flow_record_at refutations_from after_refutations blocks_place flows_place flows_from certificate_at rewritten_model divisor_at rewritten_k rewritten_flow rewritten_certificate passes_k refuse_large refusal_in answer_without_place file_of judgement_answer unwritten filled_with filled_each filled room_for files_outcome judged_outcome read_outcome pair_outcome Each stored_model rewritten_file with_prices stored_certificate threefold
rewritten-accepted = (refl, refl, refl)

-- with costs; 34 comes before 29 and before a cost record that is missing
pub rewritten-costs-accepted : (judge (with_terms lowest_terms limits) (read_costs (with_terms lowest_terms limits)) (cost_file (costs_in (with_costs rewritten_file))) (with_costs rewritten_file) (threefold_cost_certificate highest) ≡ accepted (0 ∷ 0 ∷ 1 ∷ [])) × (judge (with_terms lowest_terms limits) (read_costs (with_terms lowest_terms limits)) (cost_file (costs_in (with_costs stored_model))) (with_costs stored_model) (stored_cost_certificate fits) ≡ refused_in (fault 34) 1 11) × (read_costs (with_terms lowest_terms limits) (set (with_costs stored_model) 51 64) ≡ no_model (fault 34) 11) × (read_costs (with_terms lowest_terms limits) stored_model ≡ no_model (fault 34) 11)
unfolding if_less if_same if_true all_below sum sumℤ arriving leaving over_targets over_sources before_move after_move internal_move at_target price_at price_of_targets byte_at two_at three_at four_at signed_at two_bytes four_bytes complement list_bytes price_bytes refutation_bytes blocks_bytes k_bytes w_bytes flow_bytes certificate_bytes entries_bytes transition_bytes transitions_bytes head_bytes labels_bytes model_bytes weight_of automaton_of open_fault states_of actions_of count_of range_fault head_fault label_fault labels_fault source_at action_at denominator_at entry_count_at after_transition fixed_fault fixed_fault_at entries_fault divisor_within divisor divisor_of divisor_in divided_entry in_lowest terms_fault transition_fault refuse_at scan_transitions scan_model refuse_bytes_left scan_whole entries_at transition_at transitions_at model_at reading_of read_whole place_of first_of both equal_labels is_pair removed refutation_count certificate_head_fault challenger_at defender_at prices_at after_refutation pair_fault refutation_fault pairs_after blocks_at numbered_fault same_block agree pairs_fault blocks_fault k_count_at after_k w_count_at after_flow k_of w_of flow_at k_fault w_fault flow_fault by_kind plain_price_count price_condition all_with_action all_related below last_fault internal_prices_fault external_prices_fault plain_prices_fault internal_in_question external_in_question plain_in_question break_from first_break internal_equations_fault external_equations_fault plain_equations_fault refuse_record_at questions_of_pair questions_of_state questions_from questions judge_flows judge_blocks judge_refutations judge_certificate judge_reading judge entries_from refutation_at k_at w_at flow_record_at refutations_from after_refutations blocks_place flows_place flows_from certificate_at rewritten_model divisor_at rewritten_k rewritten_flow rewritten_certificate passes_k refuse_large refusal_in answer_without_place file_of judgement_answer unwritten filled_with filled_each filled room_for files_outcome judged_outcome read_outcome pair_outcome Each price_with_cost price_after cost_of_layer layers cost_equation cost_of costs_bytes cost_model_bytes transitions_end costs_in cost_fault scan_costs scan_cost_record scan_cost_model read_costs cost_price_count cost_prices_fault cost_equation_fault cost_equations_fault stored_model rewritten_file with_prices with_costs stored_cost_certificate threefold_cost_certificate
rewritten-costs-accepted = (refl, refl, refl, refl)
