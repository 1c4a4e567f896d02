-- Pairs judged by the strong rule, computed case by case.
use Rattle.std.specs.Prelude.{ℕ, ◌≡◌, refl, List, [], ◌∷◌, ◌++◌, length, take, drop, set, pos, negsuc}
use Rattle.bisimulation.specs.definitions.Choice.{if_less, if_same, if_true, all_below, both}
use Rattle.bisimulation.specs.definitions.Sum.{sum, sumℤ}
use Rattle.bisimulation.specs.definitions.StepRule.{arriving, over_targets, over_sources, at_target}
use Rattle.bisimulation.specs.definitions.Prices.{price_at, price_of_targets}
use Rattle.bisimulation.specs.definitions.Pairs.{equal_labels, is_pair, removed}
use Rattle.numbers.specs.definitions.Divisor.{divisor_within, divisor, divisor_of}
use Rattle.rules.specs.definitions.LowestTerms.{divisor_in}
use Rattle.rules.specs.definitions.Limits.{current}
use Rattle.rules.specs.definitions.Bytes.{byte_at, two_at, three_at, four_at, signed_at}
use Rattle.rules.specs.definitions.Model.{weight_of, automaton_of}
use Rattle.rules.specs.definitions.SoundModel.{Each}
use Rattle.rules.specs.definitions.Reading.{states_of, actions_of, count_of, range_fault, head_fault, label_fault, labels_fault, source_at, action_at, denominator_at, entry_count_at, after_transition, fixed_fault, fixed_fault_at, entries_fault, terms_fault, transition_fault, refuse_at, scan_transitions, scan_model, refuse_bytes_left, scan_whole, entries_at, transition_at, transitions_at, model_at, reading_of, read_whole}
use Rattle.rules.specs.definitions.Certificate.{refutation_count, certificate_head_fault, challenger_at, defender_at, prices_at, after_refutation, pair_fault, refutation_fault, pairs_after, blocks_at, numbered_fault, same_block, agree, pairs_fault, blocks_fault, k_count_at, after_k, w_count_at, after_flow, k_of, w_of, flow_at, k_fault, w_fault, flow_fault}
use Rattle.rules.specs.definitions.Faults.{fault_by, fault, first_of, open_fault}
use Rattle.rules.specs.definitions.PlainRule.{price_condition, all_related, below, last_fault, break_from, first_break, plain_rule}
use Rattle.rules.specs.definitions.Judging.{accepted, refused_in, refuse_record_at, questions_of_pair, questions_of_state, questions_from, questions, judge_flows, judge_blocks, judge_refutations, judge_certificate, judge_reading, judge}
use Rattle.rules.proofs.cases.Cases.{model_s}
use Rattle.rules.proofs.cases.MoreCases.{FilesCase, stay_flow}
use Rattle.strong.specs.definitions.StrongStepRule.{strong_total, strong_move}
use Rattle.strong.specs.definitions.StrongRefutation.{price_a, prices_b, prices_g}
use Rattle.strong_files.specs.definitions.StrongFile.{own_with_action, strong_in_question, strong_price_count, all_own, strong_prices_fault, total_fault, strong_equations_fault, strong_file}

-- a refutation of a transition against t among three states: A 0, B 1 1 1, G 1 1 1
unfoldable pub dearer : (q t : ℕ) → List ℕ
dearer q t =
    0x50 ∷ 0x58 ∷ 0 ∷ q ∷ t
    ∷ 0 ∷ 0 ∷ 0 ∷ 0
    ∷ 0 ∷ 0 ∷ 0 ∷ 1 ∷ 0 ∷ 0 ∷ 0 ∷ 1 ∷ 0 ∷ 0 ∷ 0 ∷ 1
    ∷ 0 ∷ 0 ∷ 0 ∷ 1 ∷ 0 ∷ 0 ∷ 0 ∷ 1 ∷ 0 ∷ 0 ∷ 0 ∷ 1 ∷ []

-- for document 01's model S: blocks 0 1 2
unfoldable pub apart_certificate : List ℕ
apart_certificate = 0x43 ∷ 0x53 ∷ 0 ∷ 3 ∷ (dearer 0 1 ++ (dearer 0 2 ++ (dearer 1 2 ++ (0x42 ∷ 0x4B ∷ 0 ∷ 1 ∷ 2 ∷ []))))

-- labels 0 0 1; internal steps from 0 and from 1 to 2
unfoldable pub steps_model : List ℕ
steps_model =
    0x50 ∷ 0x41 ∷ 3 ∷ 1 ∷ 0 ∷ 2
    ∷ 0x4C ∷ 0x42 ∷ 0 ∷ 0 ∷ 1
    ∷ 0x54 ∷ 0x52 ∷ 0 ∷ 0 ∷ 0 ∷ 1 ∷ 1 ∷ 2 ∷ 0 ∷ 1
    ∷ 0x54 ∷ 0x52 ∷ 1 ∷ 0 ∷ 0 ∷ 1 ∷ 1 ∷ 2 ∷ 0 ∷ 1 ∷ []

-- a flow with D 1, k 1 for a transition in layer 1, and w(2,2) 1
unfoldable pub step_flow : (r : ℕ) → List ℕ
step_flow r = 0x46 ∷ 0x4C ∷ 0 ∷ 0 ∷ 0 ∷ 1 ∷ 0 ∷ 1 ∷ 1 ∷ 0 ∷ r ∷ 0 ∷ 0 ∷ 0 ∷ 1 ∷ 0 ∷ 1 ∷ 2 ∷ 2 ∷ 0 ∷ 0 ∷ 0 ∷ 1 ∷ []

-- for it: blocks 0 0 1; transition 0 is met by 1 at 9, with its own transition 1, and transition 1 by 0 at 32
unfoldable pub steps_certificate : List ℕ
steps_certificate = 0x43 ∷ 0x53 ∷ 0 ∷ 0 ∷ 0x42 ∷ 0x4B ∷ 0 ∷ 0 ∷ 1 ∷ (step_flow 1 ++ step_flow 0)

-- the same with one more entry in its first flow, w(0,0) 1
unfoldable pub steps_more : List ℕ
steps_more = take 25 steps_certificate ++ (2 ∷ 0 ∷ 0 ∷ 0 ∷ 0 ∷ 0 ∷ 1 ∷ drop 26 steps_certificate)

-- labels 0 1 1; internal steps from 1 and from 2 to themselves
unfoldable pub loops_model : List ℕ
loops_model =
    0x50 ∷ 0x41 ∷ 3 ∷ 1 ∷ 0 ∷ 2
    ∷ 0x4C ∷ 0x42 ∷ 0 ∷ 1 ∷ 1
    ∷ 0x54 ∷ 0x52 ∷ 1 ∷ 0 ∷ 0 ∷ 1 ∷ 1 ∷ 1 ∷ 0 ∷ 1
    ∷ 0x54 ∷ 0x52 ∷ 2 ∷ 0 ∷ 0 ∷ 1 ∷ 1 ∷ 2 ∷ 0 ∷ 1 ∷ []

-- for it: blocks 0 1 1, and w(2,1) and w(1,2) for w(2,2)
unfoldable pub loops_certificate : List ℕ
loops_certificate = set (set (set steps_certificate 7 1) 27 1) 49 1

unfoldable pub strong_cases : List FilesCase
strong_cases =
    -- the small model, whose states are all apart
    record { model = model_s; certificate = apart_certificate; expected = accepted (0 ∷ 1 ∷ 2 ∷ []) }
    -- A 1 and A 2 in its first refutation: 1·1 and 1·2 are not below 1. G(2) 2: no B is at least that, and 15 comes before 16
    ∷ record { model = model_s; certificate = set apart_certificate 12 1; expected = refused_in (fault_by 16 1 (pos 0)) 2 4 }
    ∷ record { model = model_s; certificate = set apart_certificate 12 2; expected = refused_in (fault_by 16 1 (pos 1)) 2 4 }
    ∷ record { model = model_s; certificate = set (set apart_certificate 12 2) 36 2; expected = refused_in (fault 15) 2 4 }
    -- 'and no other price condition': B 2 1 1, where B(1) is below B(0) and the internal transition 1 leads from 1 to 0
    ∷ record { model = model_s; certificate = set apart_certificate 16 2; expected = accepted (0 ∷ 1 ∷ 2 ∷ []) }
    -- where state 1 has an internal transition too: 1·0 is not at least B(2)
    ∷ record { model = steps_model; certificate = 0x43 ∷ 0x53 ∷ 0 ∷ 1 ∷ dearer 0 1; expected = refused_in (fault 15) 2 4 }
    ∷ record { model = steps_model; certificate = steps_certificate; expected = accepted (0 ∷ 0 ∷ 1 ∷ []) }
    -- layer 0; the other state's transition
    ∷ record { model = steps_model; certificate = set steps_certificate 17 0; expected = refused_in (fault 19) 2 9 }
    ∷ record { model = steps_model; certificate = set steps_certificate 19 0; expected = refused_in (fault 19) 2 9 }
    -- staying put: D is 1, and no k stands in the sum
    ∷ record { model = steps_model; certificate = take 9 steps_certificate ++ (stay_flow 1 1 ++ step_flow 0); expected = refused_in (fault_by 20 1 (pos 1)) 2 9 }
    -- D 2. With w(0,0) besides the equation at 0 breaks too: the D equation comes first, with t as its state
    ∷ record { model = steps_model; certificate = set steps_certificate 14 2; expected = refused_in (fault_by 20 1 (pos 1)) 2 9 }
    ∷ record { model = steps_model; certificate = set steps_more 14 2; expected = refused_in (fault_by 20 1 (pos 1)) 2 9 }
    ∷ record { model = steps_model; certificate = steps_more; expected = refused_in (fault_by 20 0 (negsuc 0)) 2 9 }
    -- k 2: D is 1 less than 2·1. D 2 too: at 2 the sum of k times p(v) is 2, that of w is 1
    ∷ record { model = steps_model; certificate = set steps_certificate 23 2; expected = refused_in (fault_by 20 1 (negsuc 0)) 2 9 }
    ∷ record { model = steps_model; certificate = set (set steps_certificate 14 2) 23 2; expected = refused_in (fault_by 20 2 (pos 1)) 2 9 }
    -- 2 moves to 2, which w(2,1) links to 1, where transition 0 leads. With w(2,2) the sum of w(v,1) is 0, and p(1) times D 1
    ∷ record { model = loops_model; certificate = loops_certificate; expected = accepted (0 ∷ 1 ∷ 1 ∷ []) }
    ∷ record { model = loops_model; certificate = set loops_certificate 27 2; expected = refused_in (fault_by 21 1 (negsuc 0)) 2 9 }
    -- a certificate of document 01, and one with costs
    ∷ record { model = steps_model; certificate = set steps_certificate 1 0x54; expected = refused_in (fault 12) 2 0 }
    ∷ record { model = steps_model; certificate = set steps_certificate 1 0x43; expected = refused_in (fault 12) 2 0 }
    ∷ []

-- '108 bytes'; the table; and for document 01's call a strong certificate has another mark
pub strong-cases : (length apart_certificate ≡ 108) × Each (λ (c : FilesCase). judge current (read_whole current) strong_file c.model c.certificate ≡ c.expected) strong_cases × (judge current (read_whole current) plain_rule steps_model steps_certificate ≡ refused_in (fault 12) 2 0)
unfolding if_less if_same if_true all_below both sum sumℤ arriving over_targets over_sources at_target price_at price_of_targets equal_labels is_pair removed divisor_within divisor divisor_of divisor_in byte_at two_at three_at four_at signed_at weight_of automaton_of Each states_of actions_of count_of range_fault head_fault label_fault labels_fault source_at action_at denominator_at entry_count_at after_transition fixed_fault fixed_fault_at entries_fault terms_fault transition_fault refuse_at scan_transitions scan_model refuse_bytes_left scan_whole entries_at transition_at transitions_at model_at reading_of read_whole refutation_count certificate_head_fault challenger_at defender_at prices_at after_refutation pair_fault refutation_fault pairs_after blocks_at numbered_fault same_block agree pairs_fault blocks_fault k_count_at after_k w_count_at after_flow k_of w_of flow_at k_fault w_fault flow_fault first_of open_fault price_condition all_related below last_fault break_from first_break refuse_record_at questions_of_pair questions_of_state questions_from questions judge_flows judge_blocks judge_refutations judge_certificate judge_reading judge model_s stay_flow strong_total strong_move price_a prices_b prices_g own_with_action strong_in_question strong_price_count all_own strong_prices_fault total_fault strong_equations_fault dearer apart_certificate steps_model step_flow steps_certificate steps_more loops_model loops_certificate strong_cases
strong-cases = (
  refl,
  (refl, (refl, (refl, (refl, (refl, (refl, (refl, (refl, (refl, (refl, (refl, (refl, (refl, (refl, (refl, (refl, (refl, (refl, (refl, tt))))))))))))))))))),
  refl,
)
