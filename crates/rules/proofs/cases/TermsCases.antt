-- Document 02, K10: 34, 'the divisor, after 7', computed case by case: which weights have it, its place, what comes before it, and what it leaves.
use Rattle.std.specs.Prelude.{ℕ, ◌≡◌, refl, List, [], ◌∷◌, ◌++◌, length, set}
use Rattle.std.proofs.Common.{arith}
use Rattle.bisimulation.specs.definitions.Choice.{if_less, if_same}
use Rattle.numbers.specs.definitions.Divisor.{divisor_within, divisor, divisor_of}
use Rattle.rules.specs.definitions.Limits.{lowest_terms, limits, with_terms}
use Rattle.rules.specs.definitions.Bytes.{byte_at, two_at, two_bytes}
use Rattle.rules.specs.definitions.Model.{Transition, Model, entries_bytes, transition_bytes, transitions_bytes, head_bytes, labels_bytes, model_bytes}
use Rattle.rules.specs.definitions.SoundModel.{Each, LowestTerms}
use Rattle.rules.specs.definitions.LowestTerms.{divisor_in, divided_entry, in_lowest}
use Rattle.rules.specs.definitions.Faults.{fault, first_of, open_fault}
use Rattle.rules.specs.definitions.Reading.{states_of, actions_of, count_of, range_fault, head_fault, label_fault, labels_fault, source_at, action_at, denominator_at, entry_count_at, after_transition, fixed_fault, fixed_fault_at, entries_fault, terms_fault, transition_fault, refuse_at, scan_transitions, scan_model, refuse_bytes_left, scan_whole, entries_at, transition_at, transitions_at, model_at, Reading, model, no_model, reading_of, read_whole}
use Rattle.rules.specs.definitions.PlainRule.{plain_rule}
use Rattle.rules.specs.definitions.Judging.{judge_reading, judge}
use Rattle.rules.specs.definitions.Answers.{refusal_in, stretch_in, fetch_reading, fetch_answer, unwritten, read_outcome, pair_outcome, writes_blocks}
use Rattle.rules.proofs.argument.TermsLaws.{lowest-divisor}
use Rattle.rules.proofs.cases.MoreCases.{answer_at, outcome_of}

-- an internal transition of state 0 to the states 0, 1 and 2
abbrev spread : (d first second third : ℕ) → Transition
spread d first second third =
    record {
      source = 0;
      action = 0;
      denominator = d;
      entries = record { state = 0; weight = first } ∷ record { state = 1; weight = second } ∷ record { state = 2; weight = third } ∷ [];
    }

-- one to state 0 alone
abbrev alone : (d weight : ℕ) → Transition
alone d weight = record { source = 0; action = 0; denominator = d; entries = record { state = 0; weight = weight } ∷ [] }

-- three states with label 0 and these transitions: the first stands at 11
abbrev with_transitions : List Transition → Model
with_transitions ts = record { actions = 1; labels = 0 ∷ 0 ∷ 0 ∷ []; transitions = ts }

-- a model's bytes, and how they are read in any terms and in lowest terms
pub record TermsCase : Type 0 where
  pub bytes : List ℕ
  pub any : Reading
  pub lowest : Reading

-- read in any terms, and refused in lowest terms
abbrev refused_lowest : Model → (place : ℕ) → TermsCase
refused_lowest M place = record { bytes = model_bytes M; any = model M (length (model_bytes M)); lowest = no_model (fault 34) place }

-- refused in both with one number at one place
abbrev refused_both : List ℕ → (number place : ℕ) → TermsCase
refused_both bytes number place = record { bytes = bytes; any = no_model (fault number) place; lowest = no_model (fault number) place }

-- read in both
abbrev read_both : Model → TermsCase
read_both M = record { bytes = model_bytes M; any = model M (length (model_bytes M)); lowest = model M (length (model_bytes M)) }

unfoldable pub terms_cases : List TermsCase
terms_cases =
    -- 6, 10 and 15: each two of them have a common divisor above 1, all three have none
    read_both (with_transitions (spread 31 6 10 15 ∷ []))
    -- 6, 10 and 14: 2 divides all
    ∷ refused_lowest (with_transitions (spread 30 6 10 14 ∷ [])) 11
    -- one weight is its own divisor: 1/1 alone is in lowest terms, 65,535/65,535 alone and 2/2 are not
    ∷ read_both (with_transitions (alone 1 1 ∷ []))
    ∷ refused_lowest (with_transitions (alone 2 2 ∷ [])) 11
    ∷ refused_lowest (with_transitions (alone 65535 65535 ∷ [])) 11
    -- the first weight divides the others, or the last does
    ∷ refused_lowest (with_transitions (spread 21 3 6 12 ∷ [])) 11
    ∷ refused_lowest (with_transitions (spread 21 12 6 3 ∷ [])) 11
    -- the second transition is at fault, at its own place; a third may be too
    ∷ refused_lowest (with_transitions (alone 1 1 ∷ alone 2 2 ∷ [])) 21
    ∷ refused_lowest (with_transitions (alone 1 1 ∷ alone 2 2 ∷ alone 3 3 ∷ [])) 21
    -- a sum that is not d: 7 and no 34
    ∷ refused_both (model_bytes (with_transitions (spread 31 6 10 14 ∷ []))) 7 11
    ∷ refused_both (model_bytes (with_transitions (alone 65535 2 ∷ []))) 7 11
    -- 34 before the next record: its sum is not d, its mark is wrong, it is missing
    ∷ record { bytes = model_bytes (with_transitions (alone 2 2 ∷ alone 2 1 ∷ [])); any = no_model (fault 7) 21; lowest = no_model (fault 34) 11 }
    ∷ record { bytes = set (model_bytes (with_transitions (alone 2 2 ∷ alone 1 1 ∷ []))) 21 0; any = no_model (fault 2) 21; lowest = no_model (fault 34) 11 }
    ∷ record { bytes = set (model_bytes (with_transitions (alone 2 2 ∷ []))) 5 2; any = no_model (fault 1) 21; lowest = no_model (fault 34) 11 }
    -- and before 9
    ∷ record { bytes = model_bytes (with_transitions (alone 2 2 ∷ [])) ++ (0 ∷ []); any = no_model (fault 9) 21; lowest = no_model (fault 34) 11 }
    -- without transitions there is nothing to divide
    ∷ read_both (with_transitions [])
    ∷ []

-- the table, computed: with `with_terms` nothing but the terms differs
pub terms-cases : Each (λ (c : TermsCase). (read_whole limits c.bytes ≡ c.any) × (read_whole (with_terms lowest_terms limits) c.bytes ≡ c.lowest)) terms_cases
unfolding if_less if_same byte_at two_at two_bytes entries_bytes transition_bytes transitions_bytes head_bytes labels_bytes model_bytes open_fault states_of actions_of count_of range_fault head_fault label_fault labels_fault source_at action_at denominator_at entry_count_at after_transition fixed_fault fixed_fault_at entries_fault divisor_within divisor divisor_of divisor_in terms_fault transition_fault refuse_at scan_transitions scan_model refuse_bytes_left scan_whole entries_at transition_at transitions_at model_at reading_of read_whole first_of Each terms_cases
terms-cases = (
  (refl, refl),
  ((refl, refl), ((refl, refl), ((refl, refl), ((refl, refl), ((refl, refl), ((refl, refl), ((refl, refl), ((refl, refl), ((refl, refl), ((refl, refl), ((refl, refl), ((refl, refl), ((refl, refl), ((refl, refl), ((refl, refl), tt))))))))))))))),
)

-- 31 bytes, the second transition with 2/2
abbrev second_halves : List ℕ
second_halves = model_bytes (with_transitions (alone 1 1 ∷ alone 2 2 ∷ []))

-- a fetch refuses it with 34 in file 1, from the record to the file's end, whatever the state; so does judging, before a block buffer that is too short
-- and before the certificate is looked at, and writes nothing
pub terms-answers : (fetch_answer (with_terms lowest_terms limits) second_halves 0 ≡ answer_at 34 1 21 21 10) × (fetch_answer (with_terms lowest_terms limits) second_halves 3 ≡ answer_at 34 1 21 21 10) × (stretch_in second_halves (answer_at 34 1 21 21 10) ≡ transition_bytes (alone 2 2)) × (pair_outcome (with_terms lowest_terms limits) (read_whole (with_terms lowest_terms limits)) plain_rule writes_blocks second_halves [] ((9 ∷ 8 ∷ []) ∷ []) ≡ outcome_of 34 1 21 21 10 0 (9 ∷ 8 ∷ []))
unfolding if_less if_same byte_at two_at two_bytes entries_bytes transition_bytes transitions_bytes head_bytes labels_bytes model_bytes open_fault states_of actions_of count_of range_fault head_fault label_fault labels_fault source_at action_at denominator_at entry_count_at after_transition fixed_fault fixed_fault_at entries_fault divisor_within divisor divisor_of divisor_in terms_fault transition_fault refuse_at scan_transitions scan_model refuse_bytes_left scan_whole entries_at transition_at transitions_at model_at reading_of read_whole first_of refusal_in stretch_in fetch_reading fetch_answer judge_reading judge unwritten read_outcome pair_outcome
terms-answers = (refl, refl, refl, refl)

-- 'weights and d are divided by their greatest common divisor g'; source, action and states stay, and so does what is in lowest terms
pub divided-cases : (in_lowest (spread 30 6 10 14) ≡ spread 15 3 5 7) × (in_lowest (alone 65535 65535) ≡ alone 1 1) × (in_lowest (spread 31 6 10 15) ≡ spread 31 6 10 15) × (in_lowest (record { source = 2; action = 1; denominator = 6; entries = record { state = 1; weight = 6 } ∷ [] }) ≡ record { source = 2; action = 1; denominator = 1; entries = record { state = 1; weight = 1 } ∷ [] })
unfolding if_same divisor_within divisor divisor_of divisor_in divided_entry in_lowest
divided-cases = (refl, refl, refl, refl)

-- the same in the words of the request: 2 is a common divisor of 6, 10 and 14, and 6, 10 and 15 have none but 1
pub halves-high : LowestTerms (spread 30 6 10 14) → ⊥
unfolding Each LowestTerms
halves-high low =
    omega (arith, low 2 (record { times = 3; product = refl }, (record { times = 5; product = refl }, (record { times = 7; product = refl }, tt))))

pub thirds-lowest : LowestTerms (spread 31 6 10 15)
unfolding if_same divisor_within divisor divisor_of divisor_in
thirds-lowest = (lowest-divisor (spread 31 6 10 15)).1 refl
