-- A few files within the limits of document 01 and those of K7, computed.
use Rattle.std.specs.Prelude.{ℕ, ◌≡◌, refl, List, [], ◌∷◌, replicate}
use Rattle.bisimulation.specs.definitions.Choice.{if_less, if_same}
use Rattle.numbers.specs.definitions.Divisor.{divisor_within, divisor, divisor_of}
use Rattle.rules.specs.definitions.LowestTerms.{divisor_in}
use Rattle.rules.specs.definitions.Limits.{any_terms, Limits, limits, older_limits}
use Rattle.rules.specs.definitions.Bytes.{byte_at, two_at, two_bytes}
use Rattle.rules.specs.definitions.Model.{Model, entries_bytes, transition_bytes, transitions_bytes, head_bytes, labels_bytes, model_bytes}
use Rattle.rules.specs.definitions.Faults.{fault, first_of, open_fault}
use Rattle.rules.specs.definitions.Reading.{states_of, actions_of, count_of, range_fault, head_fault, label_fault, labels_fault, source_at, action_at, denominator_at, entry_count_at, after_transition, fixed_fault, fixed_fault_at, entries_fault, terms_fault, transition_fault, refuse_at, scan_transitions, scan_model, refuse_bytes_left, scan_whole, entries_at, transition_at, transitions_at, model_at, Reading, model, no_model, reading_of, read_whole}
use Rattle.rules.specs.definitions.SoundModel.{Each}

-- so many states with label 0 and no transitions
abbrev pub still : ℕ → Model
still n = record { actions = 1; labels = replicate n 0; transitions = [] }

-- two states, and three transitions with 2, 1 and 2 entries; the third stands at 33
abbrev pub five_entries : Model
five_entries =
    record {
      actions = 1;
      labels = 0 ∷ 0 ∷ [];
      transitions =
          record { source = 0; action = 0; denominator = 2; entries = record { state = 0; weight = 1 } ∷ record { state = 1; weight = 1 } ∷ [] }
          ∷ record { source = 0; action = 0; denominator = 1; entries = record { state = 1; weight = 1 } ∷ [] }
          ∷ record { source = 1; action = 0; denominator = 2; entries = record { state = 0; weight = 1 } ∷ record { state = 1; weight = 1 } ∷ [] }
          ∷ [];
    }

-- K7's limits with so many entries
abbrev pub with_entries : ℕ → Limits
with_entries k = record { states = 128; actions = 32; transitions = 256; entries = k; refutations = 8128; label = 63; terms = any_terms }

-- limits, a model, and what reading its file gives
pub record WiderCase : Type 0 where
  pub within : Limits
  pub holds : Model
  pub expected : Reading

unfoldable pub wider_cases : List WiderCase
wider_cases =
    -- 64 states are read within both; 65 are 3 within the older limits; 128 and 129 are the end of the newer
    record { within = older_limits; holds = still 64; expected = model (still 64) 72 }
    ∷ record { within = limits; holds = still 64; expected = model (still 64) 72 }
    ∷ record { within = older_limits; holds = still 65; expected = no_model (fault 3) 0 }
    ∷ record { within = limits; holds = still 65; expected = model (still 65) 73 }
    ∷ record { within = limits; holds = still 128; expected = model (still 128) 136 }
    ∷ record { within = limits; holds = still 129; expected = no_model (fault 3) 0 }
    -- 8 at the third transition, where 5 entries are one or two too many; at the second, where 3 are; at the first, where 2 are
    ∷ record { within = with_entries 5; holds = five_entries; expected = model five_entries 46 }
    ∷ record { within = with_entries 4; holds = five_entries; expected = no_model (fault 8) 33 }
    ∷ record { within = with_entries 3; holds = five_entries; expected = no_model (fault 8) 33 }
    ∷ record { within = with_entries 2; holds = five_entries; expected = no_model (fault 8) 23 }
    ∷ record { within = with_entries 1; holds = five_entries; expected = no_model (fault 8) 10 }
    ∷ []

pub wider-cases : Each (λ (c : WiderCase). read_whole c.within (model_bytes c.holds) ≡ c.expected) wider_cases
unfolding if_less if_same byte_at two_at two_bytes head_bytes labels_bytes entries_bytes transition_bytes transitions_bytes model_bytes first_of open_fault states_of actions_of count_of range_fault head_fault label_fault labels_fault source_at action_at denominator_at entry_count_at after_transition fixed_fault fixed_fault_at entries_fault divisor_within divisor divisor_of divisor_in terms_fault transition_fault refuse_at scan_transitions scan_model refuse_bytes_left scan_whole entries_at transition_at transitions_at model_at reading_of read_whole Each wider_cases
wider-cases = (refl, (refl, (refl, (refl, (refl, (refl, (refl, (refl, (refl, (refl, (refl, tt)))))))))))
