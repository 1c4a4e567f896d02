-- More cases of document 01's rules beside C1 to C10, computed one by one: judging, fetching, the lent block buffer, a file written, and a
-- model that is not sound.
use Rattle.std.specs.Prelude.{ℕ, ◌≡◌, refl, List, [], ◌∷◌, ◌++◌, take, drop, set, pos, negsuc}
use Rattle.std.proofs.Common.{arith}
use Rattle.bisimulation.specs.definitions.Choice.{if_less, if_same, if_true, all_below, both}
use Rattle.bisimulation.specs.definitions.Sum.{sum, sumℤ}
use Rattle.bisimulation.specs.definitions.StepRule.{arriving, leaving, over_targets, over_sources, before_move, after_move, internal_move, at_target}
use Rattle.bisimulation.specs.definitions.Prices.{price_at, price_of_targets}
use Rattle.numbers.specs.definitions.Divisor.{divisor_within, divisor, divisor_of}
use Rattle.rules.specs.definitions.LowestTerms.{divisor_in}
use Rattle.rules.specs.definitions.Limits.{limits}
use Rattle.rules.specs.definitions.Bytes.{byte_at, two_at, three_at, four_at, signed_at}
use Rattle.rules.specs.definitions.Model.{weight_of, automaton_of}
use Rattle.rules.specs.definitions.Reading.{states_of, actions_of, count_of, range_fault, head_fault, label_fault, labels_fault, source_at, action_at, denominator_at, entry_count_at, after_transition, fixed_fault, fixed_fault_at, entries_fault, terms_fault, transition_fault, refuse_at, scan_transitions, scan_model, refuse_bytes_left, scan_whole, entries_at, transition_at, transitions_at, model_at, reading_of, read_whole, place_of, first_not_below, run_first, run_past, run_start, run_end}
use Rattle.bisimulation.specs.definitions.Pairs.{equal_labels, is_pair, removed}
use Rattle.rules.specs.definitions.Certificate.{refutation_count, certificate_head_fault, challenger_at, defender_at, prices_at, after_refutation, pair_fault, refutation_fault, pairs_after, blocks_at, numbered_fault, same_block, agree, pairs_fault, blocks_fault, k_count_at, after_k, w_count_at, after_flow, k_of, w_of, flow_at, k_fault, w_fault, flow_fault}
use Rattle.rules.specs.definitions.Faults.{fault_by, fault, first_of, open_fault}
use Rattle.rules.specs.definitions.PlainRule.{by_kind, plain_price_count, price_condition, all_with_action, all_related, below, last_fault, internal_prices_fault, external_prices_fault, plain_prices_fault, internal_in_question, external_in_question, plain_in_question, break_from, first_break, internal_equations_fault, external_equations_fault, plain_equations_fault, plain_rule}
use Rattle.rules.specs.definitions.Judging.{Judgement, accepted, refused_in, refuse_record_at, questions_of_pair, questions_of_state, questions_from, questions, judge_flows, judge_blocks, judge_refutations, judge_certificate, judge_reading, judge}
use Rattle.rules.proofs.cases.Cases.{model_s, certificate_s, Case, between, cases, judged}
use Rattle.rules.specs.definitions.SoundModel.{Each, sum_over, TransitionRules}
use Rattle.rules.specs.definitions.Answers.{Answer, Outcome, refusal_in, answer_without_place, stretch_in, run_answer, fetch_reading, fetch_answer, file_of, judgement_answer, unwritten, filled_with, filled_each, filled, judged_outcome, read_outcome, pair_outcome, writes_blocks, room_for, files_outcome}

-- a model file, a certificate file, and the judgement of them
pub record FilesCase : Type 0 where
  pub model : List ℕ
  pub certificate : List ℕ
  pub expected : Judgement

-- three states with these labels, and one internal transition from state 0 to the state given
unfoldable pub one_step : List ℕ → ℕ → List ℕ
one_step labels target =
    0x50 ∷ 0x41 ∷ 3 ∷ 1 ∷ 0 ∷ 1 ∷ 0x4C ∷ 0x42 ∷ (labels ++ (0x54 ∷ 0x52 ∷ 0 ∷ 0 ∷ 0 ∷ 1 ∷ 1 ∷ target ∷ 0 ∷ 1 ∷ []))

-- two states: 0 goes to 1 by action 1, and 1 goes back to 0 by an internal step
unfoldable pub round_trip : List ℕ
round_trip =
    0x50 ∷ 0x41 ∷ 2 ∷ 2 ∷ 0 ∷ 2
    ∷ 0x4C ∷ 0x42 ∷ 0 ∷ 0
    ∷ 0x54 ∷ 0x52 ∷ 0 ∷ 1 ∷ 0 ∷ 1 ∷ 1 ∷ 1 ∷ 0 ∷ 1
    ∷ 0x54 ∷ 0x52 ∷ 1 ∷ 0 ∷ 0 ∷ 1 ∷ 1 ∷ 0 ∷ 0 ∷ 1 ∷ []

-- a head without refutations and a blocks record
unfoldable pub blocks_only : List ℕ → List ℕ
blocks_only blocks = 0x43 ∷ 0x54 ∷ 0 ∷ 0 ∷ 0x42 ∷ 0x4B ∷ blocks

-- a flow with D 1, no k, and w(v,u) 1
unfoldable pub stay_flow : (v u : ℕ) → List ℕ
stay_flow v u = 0x46 ∷ 0x4C ∷ 0 ∷ 0 ∷ 0 ∷ 1 ∷ 0 ∷ 0 ∷ 0 ∷ 1 ∷ v ∷ u ∷ 0 ∷ 0 ∷ 0 ∷ 1 ∷ []

unfoldable pub more_cases : List FilesCase
more_cases =
    -- the sum of the weights is d-1 in transition 1
    record { model = set model_s 26 2; certificate = certificate_s; expected = refused_in (fault 7) 1 21 }
    -- a negative price, the lowest: A(2) = -2,147,483,648 in the first refutation
    ∷ record { model = model_s; certificate = set certificate_s 17 0x80; expected = accepted (0 ∷ 0 ∷ 1 ∷ []) }
    -- B 2 2 1 and G 2 1 1 in the first refutation: B(2) is below G(0), and only the pair that it would remove says so
    ∷ record { model = model_s; certificate = set (set (set certificate_s 24 2) 28 2) 36 2; expected = refused_in (fault 15) 2 4 }
    -- A(2) = 1 in the second refutation
    ∷ record { model = model_s; certificate = set certificate_s 61 1; expected = refused_in (fault_by 16 2 (pos 0)) 2 45 }
    -- C3 with A(2) = 2: at 2 the left side has 1 more
    ∷ record { model = model_s; certificate = set certificate_s 20 2; expected = refused_in (fault_by 16 2 (pos 1)) 2 4 }
    -- blocks 1 1 2: right pairs, numbered from 1
    ∷ record { model = model_s; certificate = set (set (set certificate_s 76 1) 77 1) 78 2; expected = refused_in (fault 17) 2 74 }
    -- blocks 0 1 2 and no flows: 0 and 1 are still related
    ∷ record { model = model_s; certificate = take 76 certificate_s ++ (0 ∷ 1 ∷ 2 ∷ []); expected = refused_in (fault 18) 2 74 }
    -- D 2 in the last flow
    ∷ record { model = model_s; certificate = set certificate_s 114 2; expected = refused_in (fault_by 20 0 (pos 1)) 2 109 }
    -- w(2,2) = 2 in the first flow: the equations before the move hold, and after it the one at 2 breaks
    ∷ record { model = model_s; certificate = set certificate_s 108 2; expected = refused_in (fault_by 20 2 (negsuc 0)) 2 79 }
    -- k of the move 2 in it: those at 0 before the move and at 2 after it break
    ∷ record { model = model_s; certificate = set certificate_s 100 2; expected = refused_in (fault_by 20 0 (negsuc 0)) 2 79 }
    -- the last flow twice: one more than there are questions
    ∷ record { model = model_s; certificate = certificate_s ++ drop 109 certificate_s; expected = refused_in (fault 22) 2 125 }
    -- state 0 is asked of 1, then of 2: a flow for each, in this order
    ∷ record { model = one_step (0 ∷ 0 ∷ 0 ∷ []) 1; certificate = blocks_only (0 ∷ 0 ∷ 0 ∷ []) ++ (stay_flow 1 1 ++ stay_flow 2 1); expected = accepted (0 ∷ 0 ∷ 0 ∷ []) }
    -- 2 has another label than 0 and 1: w(1,2) is not in the question
    ∷ record { model = one_step (0 ∷ 0 ∷ 1 ∷ []) 2; certificate = blocks_only (0 ∷ 0 ∷ 1 ∷ []) ++ stay_flow 1 2; expected = refused_in (fault 19) 2 9 }
    -- a flow with an internal step after the move: k (0,1) 1, (1,0) 1 and (2,1) 1, w(0,1) 1
    ∷ record {
      model = round_trip;
      certificate =
          blocks_only (0 ∷ 0 ∷ [])
          ++ (0x46 ∷ 0x4C ∷ 0 ∷ 0 ∷ 0 ∷ 1 ∷ 0 ∷ 3
          ∷ 0 ∷ 0 ∷ 1 ∷ 0 ∷ 0 ∷ 0 ∷ 1 ∷ 1 ∷ 0 ∷ 0 ∷ 0 ∷ 0 ∷ 0 ∷ 1 ∷ 2 ∷ 0 ∷ 1 ∷ 0 ∷ 0 ∷ 0 ∷ 1
          ∷ 0 ∷ 1 ∷ 0 ∷ 1 ∷ 0 ∷ 0 ∷ 0 ∷ 1 ∷ stay_flow 0 0);
      expected = accepted (0 ∷ 0 ∷ []);
    }
    ∷ []

-- number, file and place, where the stretch starts and how long it is; without a state
abbrev pub answer_at : (number file place start size : ℕ) → Answer
answer_at number file place start size =
    record { number = number; file = file; place = place; stretch_start = start; stretch_length = size; state = 0; remainder = pos 0 }

-- a model file, a state, what a fetch answers, and the bytes of its run or stretch
pub record FetchCase : Type 0 where
  pub model : List ℕ
  pub state : ℕ
  pub expected : Answer
  pub handed : List ℕ

unfoldable pub fetch_cases : List FetchCase
fetch_cases =
    -- the one record of state 1, the last of the file: number, file and place 0, with a run
    record { model = model_s; state = 1; expected = answer_at 0 0 0 21 10; handed = 0x54 ∷ 0x52 ∷ 1 ∷ 0 ∷ 0 ∷ 1 ∷ 1 ∷ 0 ∷ 0 ∷ 1 ∷ [] }
    -- both transitions leave state 0: a run of two records
    ∷ record { model = set model_s 23 0; state = 0; expected = answer_at 0 0 0 11 20; handed = drop 11 (set model_s 23 0) }
    -- none leave state 2
    ∷ record { model = model_s; state = 2; expected = answer_at 0 0 0 0 0; handed = [] }
    -- there is no state 3: 24, without a place
    ∷ record { model = model_s; state = 3; expected = answer_at 24 0 0 0 0; handed = [] }
    -- the sum of the weights is d-1 in transition 1: the model's refusal, whatever the state
    ∷ record { model = set model_s 26 2; state = 3; expected = answer_at 7 1 21 21 10; handed = drop 21 (set model_s 26 2) }
    ∷ []

-- a certificate for model S, the lent block buffer before, and what judging answers and leaves in the buffer
pub record OutcomeCase : Type 0 where
  pub certificate : List ℕ
  pub before : List ℕ
  pub expected : Outcome

-- the same with the bytes written, and the buffer
abbrev pub outcome_of : (number file place start size written : ℕ) → List ℕ → Outcome
outcome_of number file place start size written after =
    record { answer = answer_at number file place start size; lent = record { bytes = after; written = written } ∷ [] }

unfoldable pub outcome_cases : List OutcomeCase
outcome_cases =
    -- S with a buffer of 5 bytes: the first 3 are the blocks, and the last 2 stay
    record { certificate = certificate_s; before = 9 ∷ 8 ∷ 7 ∷ 6 ∷ 5 ∷ []; expected = outcome_of 0 0 0 0 0 3 (0 ∷ 0 ∷ 1 ∷ 6 ∷ 5 ∷ []) }
    -- S with a buffer of 2 bytes, below n: 10, without a place, and nothing written
    ∷ record { certificate = certificate_s; before = 9 ∷ 8 ∷ []; expected = outcome_of 10 0 0 0 0 0 (9 ∷ 8 ∷ []) }
    -- C10, the last byte gone: 11 at 109 of 124 bytes, so a stretch of 15, and nothing written
    ∷ record { certificate = take 124 certificate_s; before = 9 ∷ 8 ∷ 7 ∷ 6 ∷ 5 ∷ []; expected = outcome_of 11 2 109 109 15 0 (9 ∷ 8 ∷ 7 ∷ 6 ∷ 5 ∷ []) }
    -- C6, the first flow with D 2: the answer has the fault's state and remainder
    ∷ record {
      certificate = set certificate_s 84 2;
      before = 9 ∷ 8 ∷ 7 ∷ [];
      expected =
          record {
            answer = record { number = 20; file = 2; place = 79; stretch_start = 79; stretch_length = 46; state = 1; remainder = pos 1 };
            lent = record { bytes = 9 ∷ 8 ∷ 7 ∷ []; written = 0 } ∷ [];
          };
    }
    ∷ []

-- the tables, computed case by case, with C1 to C10 once more: a refusal shows the case that fails
pub more-cases : Each (λ (c : Case). judged c ≡ c.expected) cases × Each (λ (c : FilesCase). judge limits (read_whole limits) plain_rule c.model c.certificate ≡ c.expected) more_cases × Each (λ (c : FetchCase). (fetch_answer limits c.model c.state ≡ c.expected) × (stretch_in c.model c.expected ≡ c.handed)) fetch_cases × Each (λ (c : OutcomeCase). pair_outcome limits (read_whole limits) plain_rule writes_blocks model_s c.certificate (c.before ∷ []) ≡ c.expected) outcome_cases
unfolding if_less if_same if_true all_below sum sumℤ arriving leaving over_targets over_sources before_move after_move internal_move at_target price_at price_of_targets byte_at two_at three_at four_at signed_at weight_of automaton_of open_fault states_of actions_of count_of range_fault head_fault label_fault labels_fault source_at action_at denominator_at entry_count_at after_transition fixed_fault fixed_fault_at entries_fault divisor_within divisor divisor_of divisor_in terms_fault transition_fault refuse_at scan_transitions scan_model refuse_bytes_left scan_whole entries_at transition_at transitions_at model_at reading_of read_whole first_of both equal_labels is_pair removed refutation_count certificate_head_fault challenger_at defender_at prices_at after_refutation pair_fault refutation_fault pairs_after blocks_at numbered_fault same_block agree pairs_fault blocks_fault k_count_at after_k w_count_at after_flow k_of w_of flow_at k_fault w_fault flow_fault by_kind plain_price_count price_condition all_with_action all_related below last_fault internal_prices_fault external_prices_fault plain_prices_fault internal_in_question external_in_question plain_in_question break_from first_break internal_equations_fault external_equations_fault plain_equations_fault refuse_record_at questions_of_pair questions_of_state questions_from questions judge_flows judge_blocks judge_refutations judge_certificate judge_reading judge model_s certificate_s between cases judged one_step round_trip blocks_only stay_flow place_of first_not_below run_first run_past run_start run_end refusal_in answer_without_place stretch_in run_answer fetch_reading fetch_answer file_of judgement_answer unwritten filled_with filled_each filled judged_outcome read_outcome pair_outcome Each more_cases fetch_cases outcome_cases
more-cases = (
  (refl, (refl, (refl, (refl, (refl, (refl, (refl, (refl, (refl, (refl, tt)))))))))),
  (refl, (refl, (refl, (refl, (refl, (refl, (refl, (refl, (refl, (refl, (refl, (refl, (refl, (refl, tt)))))))))))))),
  ((refl, refl), ((refl, refl), ((refl, refl), ((refl, refl), ((refl, refl), tt))))),
  (refl, (refl, (refl, (refl, tt)))),
)

-- a file of three bytes and a buffer of four: the last stays; of three, an exact fit; of two: the call's number for it, and nothing written
pub file-cases : (short : ℕ) → (files_outcome short ((1 ∷ 2 ∷ 3 ∷ []) ∷ []) ((9 ∷ 8 ∷ 7 ∷ 6 ∷ []) ∷ []) ≡ outcome_of 0 0 0 0 0 3 (1 ∷ 2 ∷ 3 ∷ 6 ∷ [])) × (files_outcome short ((1 ∷ 2 ∷ 3 ∷ []) ∷ []) ((9 ∷ 8 ∷ 7 ∷ []) ∷ []) ≡ outcome_of 0 0 0 0 0 3 (1 ∷ 2 ∷ 3 ∷ [])) × (files_outcome short ((1 ∷ 2 ∷ 3 ∷ []) ∷ []) ((9 ∷ 8 ∷ []) ∷ []) ≡ outcome_of short 0 0 0 0 0 (9 ∷ 8 ∷ []))
unfolding if_less if_true answer_without_place unwritten filled_with filled_each filled room_for files_outcome
file-cases short = (refl, refl, refl)

-- two files: neither is written where one of the two buffers is too short
abbrev pub two_left : (number : ℕ) (first : List ℕ) (first_written : ℕ) (second : List ℕ) (second_written : ℕ) → Outcome
two_left number first first_written second second_written =
    record { answer = answer_at number 0 0 0 0; lent = record { bytes = first; written = first_written } ∷ record { bytes = second; written = second_written } ∷ [] }

pub two-files-cases : (short : ℕ) → (files_outcome short ((1 ∷ 2 ∷ 3 ∷ []) ∷ (4 ∷ []) ∷ []) ((9 ∷ 8 ∷ 7 ∷ 6 ∷ []) ∷ (5 ∷ 5 ∷ []) ∷ []) ≡ two_left 0 (1 ∷ 2 ∷ 3 ∷ 6 ∷ []) 3 (4 ∷ 5 ∷ []) 1) × (files_outcome short ((1 ∷ 2 ∷ 3 ∷ []) ∷ (4 ∷ []) ∷ []) ((9 ∷ 8 ∷ []) ∷ (5 ∷ 5 ∷ []) ∷ []) ≡ two_left short (9 ∷ 8 ∷ []) 0 (5 ∷ 5 ∷ []) 0) × (files_outcome short ((1 ∷ 2 ∷ 3 ∷ []) ∷ (4 ∷ []) ∷ []) ((9 ∷ 8 ∷ 7 ∷ 6 ∷ []) ∷ [] ∷ []) ≡ two_left short (9 ∷ 8 ∷ 7 ∷ 6 ∷ []) 0 [] 0)
unfolding if_less if_true answer_without_place unwritten filled_with filled_each filled room_for files_outcome
two-files-cases short = (refl, refl, refl)

-- 'weights .. add up to d': one weight of 1 with d 2 keeps no model's rules
pub short-unsound : TransitionRules 3 2 (record { source = 0; action = 1; denominator = 2; entries = record { state = 2; weight = 1 } ∷ [] }) → ⊥
unfolding sum_over
short-unsound rules = omega (arith, rules.whole)
