-- Cost pairs, computed case by case: the bytes of a cost model and its reading, accepted pairs, and each refusal that costs bring.
use Rattle.std.specs.Prelude.{ℕ, ◌+◌, ◌≡◌, refl, List, [], ◌∷◌, ◌++◌, take, drop, set, ℤ, pos, negsuc}
use Rattle.bisimulation.specs.definitions.Choice.{if_less, if_same, if_true, all_below, both}
use Rattle.bisimulation.specs.definitions.Sum.{sum, sumℤ}
use Rattle.bisimulation.specs.definitions.StepRule.{arriving, leaving, over_targets, over_sources, before_move, after_move, internal_move, at_target}
use Rattle.bisimulation.specs.definitions.Prices.{price_at, price_of_targets}
use Rattle.bisimulation.specs.definitions.Pairs.{equal_labels, is_pair, removed}
use Rattle.numbers.specs.definitions.Divisor.{divisor_within, divisor, divisor_of}
use Rattle.rules.specs.definitions.LowestTerms.{divisor_in}
use Rattle.rules.specs.definitions.Limits.{limits}
use Rattle.rules.specs.definitions.Bytes.{byte_at, two_at, three_at, four_at, signed_at, two_bytes}
use Rattle.rules.specs.definitions.Model.{Model, head_bytes, labels_bytes, entries_bytes, transition_bytes, transitions_bytes, model_bytes, weight_of, automaton_of}
use Rattle.rules.specs.definitions.SoundModel.{Each}
use Rattle.rules.specs.definitions.Reading.{states_of, actions_of, count_of, range_fault, head_fault, label_fault, labels_fault, source_at, action_at, denominator_at, entry_count_at, after_transition, fixed_fault, fixed_fault_at, entries_fault, terms_fault, transition_fault, refuse_at, scan_transitions, scan_model, refuse_bytes_left, scan_whole, entries_at, transition_at, transitions_at, model_at, model, reading_of, read_whole, place_of}
use Rattle.rules.specs.definitions.Certificate.{refutation_count, certificate_head_fault, challenger_at, defender_at, prices_at, after_refutation, pair_fault, refutation_fault, pairs_after, blocks_at, numbered_fault, same_block, agree, pairs_fault, blocks_fault, k_count_at, after_k, w_count_at, after_flow, k_of, w_of, flow_at, k_fault, w_fault, flow_fault}
use Rattle.rules.specs.definitions.Encoding.{four_bytes, complement, price_bytes}
use Rattle.rules.specs.definitions.Faults.{fault_by, fault, first_of, open_fault}
use Rattle.rules.specs.definitions.PlainRule.{by_kind, plain_price_count, price_condition, all_with_action, all_related, below, last_fault, internal_prices_fault, external_prices_fault, internal_in_question, external_in_question, plain_in_question, break_from, first_break, internal_equations_fault, external_equations_fault, plain_equations_fault, plain_rule}
use Rattle.rules.specs.definitions.Judging.{accepted, refused_in, refuse_record_at, questions_of_pair, questions_of_state, questions_from, questions, judge_flows, judge_blocks, judge_refutations, judge_certificate, judge_reading, judge}
use Rattle.rules.specs.definitions.Answers.{Outcome, refusal_in, answer_without_place, file_of, judgement_answer, unwritten, filled_with, filled_each, filled, judged_outcome, read_outcome, pair_outcome, writes_blocks}
use Rattle.rules.proofs.cases.MoreCases.{FilesCase, outcome_of}
use Rattle.costs.specs.definitions.CostPrices.{price_with_cost}
use Rattle.costs.specs.definitions.CostRefutation.{price_after}
use Rattle.costs.specs.definitions.CostStepRule.{cost_of_layer, layers, cost_equation}
use Rattle.cost_files.specs.definitions.CostModel.{cost_of, costs_bytes, cost_model_bytes, transitions_end, costs_in, without_costs}
use Rattle.cost_files.specs.definitions.CostReading.{cost_fault, scan_costs, scan_cost_record, scan_cost_model, read_costs}
use Rattle.cost_files.specs.definitions.CostFile.{cost_price_count, cost_prices_fault, cost_equation_fault, cost_equations_fault, cost_file}

-- three states with label 0, each goes to itself by action 1, state 0 with 2/2
unfoldable pub senders : Model
senders =
    record {
      actions = 2;
      labels = 0 ∷ 0 ∷ 0 ∷ [];
      transitions =
          record { source = 0; action = 1; denominator = 2; entries = record { state = 0; weight = 2 } ∷ [] }
          ∷ record { source = 1; action = 1; denominator = 1; entries = record { state = 1; weight = 1 } ∷ [] }
          ∷ record { source = 2; action = 1; denominator = 1; entries = record { state = 2; weight = 1 } ∷ [] }
          ∷ [];
    }

-- its file where the transitions cost 1, 5 and 1: the cost record stands at 41
unfoldable pub senders_file : List ℕ
senders_file =
    0x50 ∷ 0x41 ∷ 3 ∷ 2 ∷ 0 ∷ 3
    ∷ 0x4C ∷ 0x42 ∷ 0 ∷ 0 ∷ 0
    ∷ 0x54 ∷ 0x52 ∷ 0 ∷ 1 ∷ 0 ∷ 2 ∷ 1 ∷ 0 ∷ 0 ∷ 2
    ∷ 0x54 ∷ 0x52 ∷ 1 ∷ 1 ∷ 0 ∷ 1 ∷ 1 ∷ 1 ∷ 0 ∷ 1
    ∷ 0x54 ∷ 0x52 ∷ 2 ∷ 1 ∷ 0 ∷ 1 ∷ 1 ∷ 2 ∷ 0 ∷ 1
    ∷ 0x43 ∷ 0x4F ∷ 1 ∷ 5 ∷ 1 ∷ []

-- transition 0 refutes state 1: A 0 -3 0, B and G 0, L -1; transition 1 refutes state 2: A 3 5 3, B and G 0, L 1; blocks 0 1 0; transition
-- 0 is met by 2 with D 1 and k(1,2) 1, transition 2 by 0 with D 2 and k(1,0) 1
unfoldable pub senders_certificate : List ℕ
senders_certificate =
    0x43 ∷ 0x43 ∷ 0 ∷ 2
    ∷ 0x50 ∷ 0x58 ∷ 0 ∷ 0 ∷ 1
    ∷ 0 ∷ 0 ∷ 0 ∷ 0 ∷ 0xFF ∷ 0xFF ∷ 0xFF ∷ 0xFD ∷ 0 ∷ 0 ∷ 0 ∷ 0
    ∷ 0 ∷ 0 ∷ 0 ∷ 0 ∷ 0 ∷ 0 ∷ 0 ∷ 0 ∷ 0 ∷ 0 ∷ 0 ∷ 0
    ∷ 0 ∷ 0 ∷ 0 ∷ 0 ∷ 0 ∷ 0 ∷ 0 ∷ 0 ∷ 0 ∷ 0 ∷ 0 ∷ 0
    ∷ 0xFF ∷ 0xFF ∷ 0xFF ∷ 0xFF
    ∷ 0x50 ∷ 0x58 ∷ 0 ∷ 1 ∷ 2
    ∷ 0 ∷ 0 ∷ 0 ∷ 3 ∷ 0 ∷ 0 ∷ 0 ∷ 5 ∷ 0 ∷ 0 ∷ 0 ∷ 3
    ∷ 0 ∷ 0 ∷ 0 ∷ 0 ∷ 0 ∷ 0 ∷ 0 ∷ 0 ∷ 0 ∷ 0 ∷ 0 ∷ 0
    ∷ 0 ∷ 0 ∷ 0 ∷ 0 ∷ 0 ∷ 0 ∷ 0 ∷ 0 ∷ 0 ∷ 0 ∷ 0 ∷ 0
    ∷ 0 ∷ 0 ∷ 0 ∷ 1
    ∷ 0x42 ∷ 0x4B ∷ 0 ∷ 1 ∷ 0
    ∷ 0x46 ∷ 0x4C ∷ 0 ∷ 0 ∷ 0 ∷ 1 ∷ 0 ∷ 1 ∷ 1 ∷ 0 ∷ 2 ∷ 0 ∷ 0 ∷ 0 ∷ 1 ∷ 0 ∷ 1 ∷ 2 ∷ 0 ∷ 0 ∷ 0 ∷ 0 ∷ 1
    ∷ 0x46 ∷ 0x4C ∷ 0 ∷ 0 ∷ 0 ∷ 2 ∷ 0 ∷ 1 ∷ 1 ∷ 0 ∷ 0 ∷ 0 ∷ 0 ∷ 0 ∷ 1 ∷ 0 ∷ 1 ∷ 0 ∷ 2 ∷ 0 ∷ 0 ∷ 0 ∷ 2 ∷ []

-- labels 0 0 1; internal steps from 0 and 1 to 2, that cost 1 and 2
unfoldable pub steps_file : List ℕ
steps_file =
    0x50 ∷ 0x41 ∷ 3 ∷ 1 ∷ 0 ∷ 2
    ∷ 0x4C ∷ 0x42 ∷ 0 ∷ 0 ∷ 1
    ∷ 0x54 ∷ 0x52 ∷ 0 ∷ 0 ∷ 0 ∷ 1 ∷ 1 ∷ 2 ∷ 0 ∷ 1
    ∷ 0x54 ∷ 0x52 ∷ 1 ∷ 0 ∷ 0 ∷ 1 ∷ 1 ∷ 2 ∷ 0 ∷ 1
    ∷ 0x43 ∷ 0x4F ∷ 1 ∷ 2 ∷ []

-- transition 0 refutes state 1: A -1 -2 0, G -2 -2 0, L -1; blocks 0 1 2
unfoldable pub steps_certificate : List ℕ
steps_certificate =
    0x43 ∷ 0x43 ∷ 0 ∷ 1
    ∷ 0x50 ∷ 0x58 ∷ 0 ∷ 0 ∷ 1
    ∷ 0xFF ∷ 0xFF ∷ 0xFF ∷ 0xFF ∷ 0xFF ∷ 0xFF ∷ 0xFF ∷ 0xFE ∷ 0 ∷ 0 ∷ 0 ∷ 0
    ∷ 0xFF ∷ 0xFF ∷ 0xFF ∷ 0xFE ∷ 0xFF ∷ 0xFF ∷ 0xFF ∷ 0xFE ∷ 0 ∷ 0 ∷ 0 ∷ 0
    ∷ 0xFF ∷ 0xFF ∷ 0xFF ∷ 0xFF
    ∷ 0x42 ∷ 0x4B ∷ 0 ∷ 1 ∷ 2 ∷ []

-- without refutations: blocks 0 0 1; transition 0 is met by 1 with D 1 and k(0,1) 1, transition 1 by 0 with D 1 and k(0,0) 1
unfoldable pub steps_met_certificate : List ℕ
steps_met_certificate =
    0x43 ∷ 0x43 ∷ 0 ∷ 0
    ∷ 0x42 ∷ 0x4B ∷ 0 ∷ 0 ∷ 1
    ∷ 0x46 ∷ 0x4C ∷ 0 ∷ 0 ∷ 0 ∷ 1 ∷ 0 ∷ 1 ∷ 0 ∷ 0 ∷ 1 ∷ 0 ∷ 0 ∷ 0 ∷ 1 ∷ 0 ∷ 1 ∷ 2 ∷ 2 ∷ 0 ∷ 0 ∷ 0 ∷ 1
    ∷ 0x46 ∷ 0x4C ∷ 0 ∷ 0 ∷ 0 ∷ 1 ∷ 0 ∷ 1 ∷ 0 ∷ 0 ∷ 0 ∷ 0 ∷ 0 ∷ 0 ∷ 1 ∷ 0 ∷ 1 ∷ 2 ∷ 2 ∷ 0 ∷ 0 ∷ 0 ∷ 1 ∷ []

-- labels 0 0 1 2; by action 1 from 0 to 3 at the cost 9, and from 0 and 1 to 2; an internal step from 2 to 3 at the cost 9
unfoldable pub later_file : List ℕ
later_file =
    0x50 ∷ 0x41 ∷ 4 ∷ 2 ∷ 0 ∷ 4
    ∷ 0x4C ∷ 0x42 ∷ 0 ∷ 0 ∷ 1 ∷ 2
    ∷ 0x54 ∷ 0x52 ∷ 0 ∷ 1 ∷ 0 ∷ 1 ∷ 1 ∷ 3 ∷ 0 ∷ 1
    ∷ 0x54 ∷ 0x52 ∷ 0 ∷ 1 ∷ 0 ∷ 1 ∷ 1 ∷ 2 ∷ 0 ∷ 1
    ∷ 0x54 ∷ 0x52 ∷ 1 ∷ 1 ∷ 0 ∷ 1 ∷ 1 ∷ 2 ∷ 0 ∷ 1
    ∷ 0x54 ∷ 0x52 ∷ 2 ∷ 0 ∷ 0 ∷ 1 ∷ 1 ∷ 3 ∷ 0 ∷ 1
    ∷ 0x43 ∷ 0x4F ∷ 9 ∷ 0 ∷ 0 ∷ 9 ∷ []

-- blocks 0 0 1 2; transition 0 is met by 1 with D 1, k(1,2) 1 and k(2,3) 1, which pays after the move; transition 1 by 1, transition 2 by 0
unfoldable pub later_certificate : List ℕ
later_certificate =
    0x43 ∷ 0x43 ∷ 0 ∷ 0
    ∷ 0x42 ∷ 0x4B ∷ 0 ∷ 0 ∷ 1 ∷ 2
    ∷ 0x46 ∷ 0x4C ∷ 0 ∷ 0 ∷ 0 ∷ 1 ∷ 0 ∷ 2 ∷ 1 ∷ 0 ∷ 2 ∷ 0 ∷ 0 ∷ 0 ∷ 1 ∷ 2 ∷ 0 ∷ 3 ∷ 0 ∷ 0 ∷ 0 ∷ 1 ∷ 0 ∷ 1 ∷ 3 ∷ 3 ∷ 0 ∷ 0 ∷ 0 ∷ 1
    ∷ 0x46 ∷ 0x4C ∷ 0 ∷ 0 ∷ 0 ∷ 1 ∷ 0 ∷ 1 ∷ 1 ∷ 0 ∷ 2 ∷ 0 ∷ 0 ∷ 0 ∷ 1 ∷ 0 ∷ 1 ∷ 2 ∷ 2 ∷ 0 ∷ 0 ∷ 0 ∷ 1
    ∷ 0x46 ∷ 0x4C ∷ 0 ∷ 0 ∷ 0 ∷ 1 ∷ 0 ∷ 1 ∷ 1 ∷ 0 ∷ 1 ∷ 0 ∷ 0 ∷ 0 ∷ 1 ∷ 0 ∷ 1 ∷ 2 ∷ 2 ∷ 0 ∷ 0 ∷ 0 ∷ 1 ∷ []

-- one state and no transitions: the mark alone
unfoldable pub still_file : List ℕ
still_file = 0x50 ∷ 0x41 ∷ 1 ∷ 1 ∷ 0 ∷ 0 ∷ 0x4C ∷ 0x42 ∷ 0 ∷ 0x43 ∷ 0x4F ∷ []

-- another price at a place
unfoldable pub with_price : ℕ → ℤ → List ℕ → List ℕ
with_price at z c = take at c ++ (price_bytes z ++ drop (at + 4) c)

unfoldable pub cost_cases : List FilesCase
cost_cases =
    record { model = senders_file; certificate = senders_certificate; expected = accepted (0 ∷ 1 ∷ 0 ∷ []) }
    ∷ record { model = steps_file; certificate = steps_certificate; expected = accepted (0 ∷ 1 ∷ 2 ∷ []) }
    -- no transitions
    ∷ record { model = still_file; certificate = 0x43 ∷ 0x43 ∷ 0 ∷ 0 ∷ 0x42 ∷ 0x4B ∷ 0 ∷ []; expected = accepted (0 ∷ []) }
    -- the cost record is missing, half its mark, has another mark, is cut in its costs, is cut and has another mark
    ∷ record { model = take 41 senders_file; certificate = senders_certificate; expected = refused_in (fault 1) 1 41 }
    ∷ record { model = take 42 senders_file; certificate = senders_certificate; expected = refused_in (fault 1) 1 41 }
    ∷ record { model = set senders_file 42 0x4E; certificate = senders_certificate; expected = refused_in (fault 2) 1 41 }
    ∷ record { model = take 45 senders_file; certificate = senders_certificate; expected = refused_in (fault 1) 1 41 }
    ∷ record { model = take 44 (set senders_file 42 0x4E); certificate = senders_certificate; expected = refused_in (fault 2) 1 41 }
    -- '29, cost above 63, at its byte': the first of two; not before the record is whole
    ∷ record { model = set (set senders_file 44 64) 45 255; certificate = senders_certificate; expected = refused_in (fault 29) 1 44 }
    ∷ record { model = take 45 (set senders_file 44 64); certificate = senders_certificate; expected = refused_in (fault 1) 1 41 }
    -- a byte left after the record: 9; with 64 for the last cost 29
    ∷ record { model = senders_file ++ (0 ∷ []); certificate = senders_certificate; expected = refused_in (fault 9) 1 46 }
    ∷ record { model = set senders_file 45 64 ++ (0 ∷ []); certificate = senders_certificate; expected = refused_in (fault 29) 1 45 }
    -- a certificate without costs
    ∷ record { model = senders_file; certificate = set senders_certificate 1 0x54; expected = refused_in (fault 12) 2 0 }
    -- L 1 in the first refutation: 2·0 is not at least 0 + 1·1·2
    ∷ record { model = senders_file; certificate = with_price 45 (pos 1) senders_certificate; expected = refused_in (fault 15) 2 4 }
    -- L 0, 2 and -1 in the second: 3 is not below 0·5, 5 not at least 2·5, 3 not below -1·5
    ∷ record { model = senders_file; certificate = with_price 90 (pos 0) senders_certificate; expected = refused_in (fault_by 16 2 (pos 3)) 2 49 }
    ∷ record { model = senders_file; certificate = with_price 90 (pos 2) senders_certificate; expected = refused_in (fault 15) 2 49 }
    ∷ record { model = senders_file; certificate = with_price 90 (negsuc 0) senders_certificate; expected = refused_in (fault_by 16 2 (pos 8)) 2 49 }
    -- A 3 0 6 there: 0 is not at least 0 + 1·5·1, and 6 not below 1·5; 15 comes first. B -1 0 0: -1 is not at least G's 0
    ∷ record { model = senders_file; certificate = with_price 58 (pos 0) (with_price 62 (pos 6) senders_certificate); expected = refused_in (fault 15) 2 49 }
    ∷ record { model = senders_file; certificate = with_price 66 (negsuc 0) senders_certificate; expected = refused_in (fault 15) 2 49 }
    -- an internal challenger. L 0: -1 is not at least 0; and with A -1 0 0 neither is 0 below 0. L -3: -2 is not below -3
    ∷ record { model = steps_file; certificate = with_price 33 (pos 0) steps_certificate; expected = refused_in (fault 15) 2 4 }
    ∷ record { model = steps_file; certificate = with_price 13 (pos 0) (with_price 33 (pos 0) steps_certificate); expected = refused_in (fault 15) 2 4 }
    ∷ record { model = steps_file; certificate = with_price 33 (negsuc 2) steps_certificate; expected = refused_in (fault_by 16 1 (pos 1)) 2 4 }
    -- its flows: both steps cost 1; the second costs 2; and with w(2,2) 2 then 20 comes first
    ∷ record { model = set steps_file 34 1; certificate = steps_met_certificate; expected = accepted (0 ∷ 0 ∷ 1 ∷ []) }
    ∷ record { model = steps_file; certificate = steps_met_certificate; expected = refused_in (fault 30) 2 9 }
    ∷ record { model = steps_file; certificate = set steps_met_certificate 31 2; expected = refused_in (fault_by 20 2 (negsuc 0)) 2 9 }
    -- a step after the move pays 9, or 8 where 9 are owed
    ∷ record { model = later_file; certificate = later_certificate; expected = accepted (0 ∷ 0 ∷ 1 ∷ 2 ∷ []) }
    ∷ record { model = set later_file 57 8; certificate = later_certificate; expected = refused_in (fault 30) 2 10 }
    -- transition 2 costs 2: the first flow's equations hold but for the cost equation, 1·1·2 and 1·1
    ∷ record { model = set senders_file 45 2; certificate = senders_certificate; expected = refused_in (fault 30) 2 99 }
    -- and with w(2,2) for w(2,0) 21 comes first
    ∷ record { model = set senders_file 45 2; certificate = set senders_certificate 117 2; expected = refused_in (fault_by 21 0 (negsuc 1)) 2 99 }
    ∷ []

-- a model file, the lent block buffer before, and what judging the certificate above answers and leaves in the buffer
pub record CostOutcomeCase : Type 0 where
  pub model : List ℕ
  pub before : List ℕ
  pub expected : Outcome

unfoldable pub cost_outcome_cases : List CostOutcomeCase
cost_outcome_cases =
    -- a buffer of 5 bytes: the first 3 are the blocks, and the last 2 stay
    record { model = senders_file; before = 9 ∷ 8 ∷ 7 ∷ 6 ∷ 5 ∷ []; expected = outcome_of 0 0 0 0 0 3 (0 ∷ 1 ∷ 0 ∷ 6 ∷ 5 ∷ []) }
    -- a buffer of 2 bytes: 10, after 9 and 29; the stretch of 29 runs from its byte
    ∷ record { model = senders_file; before = 9 ∷ 8 ∷ []; expected = outcome_of 10 0 0 0 0 0 (9 ∷ 8 ∷ []) }
    ∷ record { model = senders_file ++ (0 ∷ []); before = 9 ∷ 8 ∷ []; expected = outcome_of 9 1 46 46 1 0 (9 ∷ 8 ∷ []) }
    ∷ record { model = set senders_file 44 64; before = 9 ∷ 8 ∷ []; expected = outcome_of 29 1 44 44 2 0 (9 ∷ 8 ∷ []) }
    -- 30 has the flow record's place, and neither state nor remainder
    ∷ record { model = set senders_file 45 2; before = 9 ∷ 8 ∷ 7 ∷ []; expected = outcome_of 30 2 99 99 46 0 (9 ∷ 8 ∷ 7 ∷ []) }
    ∷ []

-- the bytes of a cost model, its reading, also with a cost of 63, its costs and the file without them
pub cost-model-cases : (cost_model_bytes senders (1 ∷ 5 ∷ 1 ∷ []) ≡ senders_file) × (read_costs limits senders_file ≡ model senders 46) × (read_costs limits (set senders_file 44 63) ≡ model senders 46) × (costs_in senders_file ≡ 1 ∷ 5 ∷ 1 ∷ []) × (without_costs senders_file ≡ model_bytes senders) × (costs_in still_file ≡ [])
unfolding if_less if_same byte_at two_at two_bytes head_bytes labels_bytes entries_bytes transition_bytes transitions_bytes model_bytes open_fault first_of states_of actions_of count_of range_fault head_fault label_fault labels_fault source_at action_at denominator_at entry_count_at after_transition fixed_fault fixed_fault_at entries_fault divisor_within divisor divisor_of divisor_in terms_fault transition_fault refuse_at scan_transitions scan_model refuse_bytes_left entries_at transition_at transitions_at model_at reading_of place_of costs_bytes cost_model_bytes transitions_end costs_in without_costs cost_fault scan_costs scan_cost_record scan_cost_model read_costs senders senders_file still_file
cost-model-cases = (refl, refl, refl, refl, refl, refl)

-- the tables; and for document 01's calls a cost model has bytes left, and a cost certificate another mark
pub cost-cases : Each (λ (c : FilesCase). judge limits (read_costs limits) (cost_file (costs_in c.model)) c.model c.certificate ≡ c.expected) cost_cases × (judge limits (read_whole limits) plain_rule senders_file senders_certificate ≡ refused_in (fault 9) 1 41) × (judge limits (read_whole limits) plain_rule (without_costs senders_file) senders_certificate ≡ refused_in (fault 12) 2 0) × Each (λ (c : CostOutcomeCase). pair_outcome limits (read_costs limits) (cost_file (costs_in c.model)) writes_blocks c.model senders_certificate (c.before ∷ []) ≡ c.expected) cost_outcome_cases
unfolding if_less if_same if_true all_below sum sumℤ arriving leaving over_targets over_sources before_move after_move internal_move at_target price_at price_of_targets byte_at two_at three_at four_at signed_at two_bytes four_bytes complement price_bytes weight_of automaton_of open_fault states_of actions_of count_of range_fault head_fault label_fault labels_fault source_at action_at denominator_at entry_count_at after_transition fixed_fault fixed_fault_at entries_fault divisor_within divisor divisor_of divisor_in terms_fault transition_fault refuse_at scan_transitions scan_model refuse_bytes_left scan_whole entries_at transition_at transitions_at model_at reading_of read_whole place_of first_of both equal_labels is_pair removed refutation_count certificate_head_fault challenger_at defender_at prices_at after_refutation pair_fault refutation_fault pairs_after blocks_at numbered_fault same_block agree pairs_fault blocks_fault k_count_at after_k w_count_at after_flow k_of w_of flow_at k_fault w_fault flow_fault by_kind plain_price_count all_with_action all_related internal_in_question external_in_question plain_in_question break_from first_break internal_equations_fault external_equations_fault plain_equations_fault refuse_record_at questions_of_pair questions_of_state questions_from questions judge_flows judge_blocks judge_refutations judge_certificate judge_reading judge Each price_with_cost price_after cost_of_layer layers cost_equation cost_of costs_bytes transitions_end costs_in without_costs cost_fault scan_costs scan_cost_record scan_cost_model read_costs cost_price_count price_condition below last_fault internal_prices_fault external_prices_fault cost_prices_fault cost_equation_fault cost_equations_fault senders_file senders_certificate steps_file steps_certificate steps_met_certificate later_file later_certificate still_file with_price cost_cases refusal_in answer_without_place file_of judgement_answer unwritten filled_with filled_each filled judged_outcome read_outcome pair_outcome cost_outcome_cases
cost-cases = (
  (refl, (refl, (refl, (refl, (refl, (refl, (refl, (refl, (refl, (refl, (refl, (refl, (refl, (refl, (refl, (refl, (refl, (refl, (refl, (refl, (refl, (refl, (refl, (refl, (refl, (refl, (refl, (refl, (refl, tt))))))))))))))))))))))))))))),
  refl,
  refl,
  (refl, (refl, (refl, (refl, (refl, tt))))),
)
