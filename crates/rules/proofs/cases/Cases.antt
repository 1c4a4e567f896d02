-- Document 01, 'A small pair': the pair S and the proved cases C1 to C10.
use Rattle.std.specs.Prelude.{ℕ, ◌≡◌, refl, List, [], ◌∷◌, ◌++◌, map, length, take, drop, set, pos, negsuc}
use Rattle.bisimulation.specs.definitions.Choice.{if_less, if_same, if_true, all_below, both}
use Rattle.bisimulation.specs.definitions.Sum.{sum, sumℤ}
use Rattle.bisimulation.specs.definitions.StepRule.{arriving, leaving, over_targets, over_sources, before_move, after_move, internal_move, at_target}
use Rattle.bisimulation.specs.definitions.Prices.{price_at, price_of_targets}
use Rattle.numbers.specs.definitions.Divisor.{divisor_within, divisor, divisor_of}
use Rattle.rules.specs.definitions.LowestTerms.{divisor_in}
use Rattle.rules.specs.definitions.Limits.{limits}
use Rattle.rules.specs.definitions.Bytes.{byte_at, two_at, three_at, four_at, signed_at}
use Rattle.rules.specs.definitions.Model.{weight_of, automaton_of}
use Rattle.rules.specs.definitions.Reading.{states_of, actions_of, count_of, range_fault, head_fault, label_fault, labels_fault, source_at, action_at, denominator_at, entry_count_at, after_transition, fixed_fault, fixed_fault_at, entries_fault, terms_fault, transition_fault, refuse_at, scan_transitions, scan_model, refuse_bytes_left, scan_whole, entries_at, transition_at, transitions_at, model_at, reading_of, read_whole}
use Rattle.bisimulation.specs.definitions.Pairs.{equal_labels, is_pair, removed}
use Rattle.rules.specs.definitions.Certificate.{refutation_count, certificate_head_fault, challenger_at, defender_at, prices_at, after_refutation, pair_fault, refutation_fault, pairs_after, blocks_at, numbered_fault, same_block, agree, pairs_fault, blocks_fault, k_count_at, after_k, w_count_at, after_flow, k_of, w_of, flow_at, k_fault, w_fault, flow_fault}
use Rattle.rules.specs.definitions.Faults.{fault_by, fault, first_of, open_fault}
use Rattle.rules.specs.definitions.PlainRule.{by_kind, plain_price_count, price_condition, all_with_action, all_related, below, last_fault, internal_prices_fault, external_prices_fault, plain_prices_fault, internal_in_question, external_in_question, plain_in_question, break_from, first_break, internal_equations_fault, external_equations_fault, plain_equations_fault, plain_rule}
use Rattle.rules.specs.definitions.Judging.{Judgement, accepted, refused_in, refuse_record_at, questions_of_pair, questions_of_state, questions_from, questions, judge_flows, judge_blocks, judge_refutations, judge_certificate, judge_reading, judge}

-- 'Model S, 31 bytes'
unfoldable pub model_s : List ℕ
model_s =
    0x50 ∷ 0x41 ∷ 3 ∷ 2 ∷ 0 ∷ 2
    ∷ 0x4C ∷ 0x42 ∷ 0 ∷ 0 ∷ 0
    ∷ 0x54 ∷ 0x52 ∷ 0 ∷ 1 ∷ 0 ∷ 1 ∷ 1 ∷ 2 ∷ 0 ∷ 1
    ∷ 0x54 ∷ 0x52 ∷ 1 ∷ 0 ∷ 0 ∷ 1 ∷ 1 ∷ 0 ∷ 0 ∷ 1 ∷ []

-- 'Certificate S, 125 bytes'
unfoldable pub certificate_s : List ℕ
certificate_s =
    0x43 ∷ 0x54 ∷ 0 ∷ 2
    ∷ 0x50 ∷ 0x58 ∷ 0 ∷ 0 ∷ 2
    ∷ 0 ∷ 0 ∷ 0 ∷ 1 ∷ 0 ∷ 0 ∷ 0 ∷ 1 ∷ 0 ∷ 0 ∷ 0 ∷ 0
    ∷ 0 ∷ 0 ∷ 0 ∷ 1 ∷ 0 ∷ 0 ∷ 0 ∷ 1 ∷ 0 ∷ 0 ∷ 0 ∷ 1
    ∷ 0 ∷ 0 ∷ 0 ∷ 1 ∷ 0 ∷ 0 ∷ 0 ∷ 1 ∷ 0 ∷ 0 ∷ 0 ∷ 1
    ∷ 0x50 ∷ 0x58 ∷ 0 ∷ 1 ∷ 2
    ∷ 0 ∷ 0 ∷ 0 ∷ 1 ∷ 0 ∷ 0 ∷ 0 ∷ 1 ∷ 0 ∷ 0 ∷ 0 ∷ 0
    ∷ 0 ∷ 0 ∷ 0 ∷ 1 ∷ 0 ∷ 0 ∷ 0 ∷ 0 ∷ 0 ∷ 0 ∷ 0 ∷ 0
    ∷ 0x42 ∷ 0x4B ∷ 0 ∷ 0 ∷ 1
    ∷ 0x46 ∷ 0x4C ∷ 0 ∷ 0 ∷ 0 ∷ 1 ∷ 0 ∷ 2
    ∷ 0 ∷ 0 ∷ 1 ∷ 0 ∷ 0 ∷ 0 ∷ 1 ∷ 1 ∷ 0 ∷ 0 ∷ 0 ∷ 0 ∷ 0 ∷ 1
    ∷ 0 ∷ 1 ∷ 2 ∷ 2 ∷ 0 ∷ 0 ∷ 0 ∷ 1
    ∷ 0x46 ∷ 0x4C ∷ 0 ∷ 0 ∷ 0 ∷ 1 ∷ 0 ∷ 0 ∷ 0 ∷ 1 ∷ 0 ∷ 0 ∷ 0 ∷ 0 ∷ 0 ∷ 1 ∷ []

-- a case: an edit of certificate S, and the judgement of it for model S
pub record Case : Type 0 where
  pub edit : List ℕ → List ℕ
  pub expected : Judgement

-- the bytes from one place up to another
unfoldable pub between : ℕ → ℕ → List ℕ → List ℕ
between from to s = drop from (take to s)

-- 'Proved cases (C1 to C10)'
unfoldable pub cases : List Case
cases =
    -- C1: S accepted
    record { edit = λ c. c; expected = accepted (0 ∷ 0 ∷ 1 ∷ []) }
    -- C2: the two refutations exchanged: 15 at 4
    ∷ record { edit = λ c. take 4 c ++ (between 45 74 c ++ (between 4 45 c ++ drop 74 c)); expected = refused_in (fault 15) 2 4 }
    -- C3: A(2) = 1 in the first: 16 at 4; K2: at 2 the sides are equal
    ∷ record { edit = λ c. set c 20 1; expected = refused_in (fault_by 16 2 (pos 0)) 2 4 }
    -- C4: blocks 1 1 0: 17 at 74
    ∷ record { edit = λ c. set (set (set c 76 1) 77 1) 78 0; expected = refused_in (fault 17) 2 74 }
    -- C5: blocks 0 1 2: 18 at 74
    ∷ record { edit = λ c. set (set (set c 76 0) 77 1) 78 2; expected = refused_in (fault 18) 2 74 }
    -- C6: first flow D 2: 20 at 79; K2: at 1 the left side has 1 more
    ∷ record { edit = λ c. set c 84 2; expected = refused_in (fault_by 20 1 (pos 1)) 2 79 }
    -- C7: last flow w(0,1) for w(0,0): 21 at 109; K2: at 0 the left side has 1 less
    ∷ record { edit = λ c. set c 120 1; expected = refused_in (fault_by 21 0 (negsuc 0)) 2 109 }
    -- C8: last flow w(2,0): 19 at 109
    ∷ record { edit = λ c. set c 119 2; expected = refused_in (fault 19) 2 109 }
    -- C9: a byte added: 22 at 125
    ∷ record { edit = λ c. c ++ (0 ∷ []); expected = refused_in (fault 22) 2 125 }
    -- C10: the last byte gone: 11 at 109
    ∷ record { edit = λ c. take 124 c; expected = refused_in (fault 11) 2 109 }
    ∷ []

-- the judgement of a case
unfoldable pub judged : Case → Judgement
judged c = judge limits (read_whole limits) plain_rule model_s (c.edit certificate_s)

-- '31 bytes', '125 bytes'
pub sizes : (length model_s ≡ 31) × (length certificate_s ≡ 125)
unfolding model_s certificate_s
sizes = (refl, refl)

-- the table, computed
pub all-cases : map judged cases ≡ map (λ (c : Case). c.expected) cases
unfolding if_less if_same if_true all_below sum sumℤ arriving leaving over_targets over_sources before_move after_move internal_move at_target price_at price_of_targets byte_at two_at three_at four_at signed_at weight_of automaton_of open_fault states_of actions_of count_of range_fault head_fault label_fault labels_fault source_at action_at denominator_at entry_count_at after_transition fixed_fault fixed_fault_at entries_fault divisor_within divisor divisor_of divisor_in terms_fault transition_fault refuse_at scan_transitions scan_model refuse_bytes_left scan_whole entries_at transition_at transitions_at model_at reading_of read_whole first_of both equal_labels is_pair removed refutation_count certificate_head_fault challenger_at defender_at prices_at after_refutation pair_fault refutation_fault pairs_after blocks_at numbered_fault same_block agree pairs_fault blocks_fault k_count_at after_k w_count_at after_flow k_of w_of flow_at k_fault w_fault flow_fault by_kind plain_price_count price_condition all_with_action all_related below last_fault internal_prices_fault external_prices_fault plain_prices_fault internal_in_question external_in_question plain_in_question break_from first_break internal_equations_fault external_equations_fault plain_equations_fault refuse_record_at questions_of_pair questions_of_state questions_from questions judge_flows judge_blocks judge_refutations judge_certificate judge_reading judge model_s certificate_s between cases judged
all-cases = refl
