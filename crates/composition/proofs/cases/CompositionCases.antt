-- The compositions of small models, computed transition by transition, and the file of one byte by byte.
use Rattle.std.specs.Prelude.{ℕ, ◌≡◌, refl, List, [], ◌∷◌}
use Rattle.bisimulation.specs.definitions.Choice.{if_less, if_same, if_true}
use Rattle.bisimulation.specs.definitions.Joined.{larger}
use Rattle.bisimulation.specs.definitions.Composed.{state_at, highest, pair_label}
use Rattle.rules.specs.definitions.Bytes.{two_bytes}
use Rattle.rules.specs.definitions.Model.{Entry, Transition, Model, head_bytes, labels_bytes, entries_bytes, transition_bytes, transitions_bytes, model_bytes, automaton_of}
use Rattle.composition.specs.definitions.Composition.{gathered, shared_below, is_shared, partner_move, left_move, right_move, moves_from, moves_of, pair_entry, pair_entries, pair_transition, still, moved, composed, composed_file}

abbrev pub step : (source action denominator : ℕ) → List Entry → Transition
step source action denominator entries = record { source = source; action = action; denominator = denominator; entries = entries }

abbrev pub to : (state weight : ℕ) → Entry
to state weight = record { state = state; weight = weight }

-- two states, three actions: from 0 an internal step, action 1 twice and between them action 2
unfoldable pub left_model : Model
left_model =
    record {
      actions = 3;
      labels = 0 ∷ 1 ∷ [];
      transitions =
          step 0 0 1 (to 1 1 ∷ [])
          ∷ step 0 1 2 (to 0 1 ∷ to 1 1 ∷ [])
          ∷ step 0 2 1 (to 1 1 ∷ [])
          ∷ step 0 1 1 (to 0 1 ∷ [])
          ∷ [];
    }

-- two states, two actions: from 0 an internal step, and action 1 twice
unfoldable pub right_model : Model
right_model =
    record {
      actions = 2;
      labels = 0 ∷ 2 ∷ [];
      transitions = step 0 0 1 (to 1 1 ∷ []) ∷ step 0 1 3 (to 0 1 ∷ to 1 2 ∷ []) ∷ step 0 1 1 (to 1 1 ∷ []) ∷ [];
    }

-- action 1 is done together, once for each partner from the same state, and by neither alone; 0 and 2 alone
unfoldable pub side_by_side : Model
side_by_side =
    record {
      actions = 3;
      labels = 0 ∷ 2 ∷ 3 ∷ 5 ∷ [];
      transitions =
          -- from (0,0) the left's in file order, each shared one with both partners; then the right's own
          step 0 0 1 (to 2 1 ∷ [])
          ∷ step 0 1 6 (to 0 1 ∷ to 1 2 ∷ to 2 1 ∷ to 3 2 ∷ [])
          ∷ step 0 1 2 (to 1 1 ∷ to 3 1 ∷ [])
          ∷ step 0 2 1 (to 2 1 ∷ [])
          ∷ step 0 1 3 (to 0 1 ∷ to 1 2 ∷ [])
          ∷ step 0 1 1 (to 1 1 ∷ [])
          ∷ step 0 0 1 (to 1 1 ∷ [])
          -- from (0,1), where action 1 has no partner
          ∷ step 1 0 1 (to 3 1 ∷ [])
          ∷ step 1 2 1 (to 3 1 ∷ [])
          -- from (1,0) the right's own
          ∷ step 2 0 1 (to 3 1 ∷ [])
          ∷ [];
    }

-- two states and two actions, of which it does 1; and three states and three actions, of which it declares 1 and does 2. The highest label of
-- the second is neither its first nor its last
unfoldable pub does_one : Model
does_one = record { actions = 2; labels = 0 ∷ 1 ∷ []; transitions = step 0 1 1 (to 1 1 ∷ []) ∷ step 1 0 1 (to 0 1 ∷ []) ∷ [] }

unfoldable pub declares_one : Model
declares_one =
    record { actions = 3; labels = 1 ∷ 3 ∷ 0 ∷ []; transitions = step 0 2 2 (to 1 1 ∷ to 2 1 ∷ []) ∷ step 1 0 1 (to 0 1 ∷ []) ∷ [] }

-- a shared action that the right never does gives nothing; the right does 2 alone, which the left does not declare
unfoldable pub partnerless : Model
partnerless =
    record {
      actions = 3;
      labels = 1 ∷ 3 ∷ 0 ∷ 5 ∷ 7 ∷ 4 ∷ [];
      transitions =
          step 0 2 2 (to 1 1 ∷ to 2 1 ∷ [])
          ∷ step 1 0 1 (to 0 1 ∷ [])
          ∷ step 3 0 1 (to 0 1 ∷ [])
          ∷ step 3 2 2 (to 4 1 ∷ to 5 1 ∷ [])
          ∷ step 4 0 1 (to 1 1 ∷ [])
          ∷ step 4 0 1 (to 3 1 ∷ [])
          ∷ step 5 0 1 (to 2 1 ∷ [])
          ∷ [];
    }

-- the two exchanged: a shared action that the left never does gives nothing; the left does 2 alone
unfoldable pub exchanged : Model
exchanged =
    record {
      actions = 3;
      labels = 2 ∷ 3 ∷ 6 ∷ 7 ∷ 0 ∷ 1 ∷ [];
      transitions =
          step 0 2 2 (to 2 1 ∷ to 4 1 ∷ [])
          ∷ step 1 2 2 (to 3 1 ∷ to 5 1 ∷ [])
          ∷ step 1 0 1 (to 0 1 ∷ [])
          ∷ step 2 0 1 (to 0 1 ∷ [])
          ∷ step 3 0 1 (to 1 1 ∷ [])
          ∷ step 3 0 1 (to 2 1 ∷ [])
          ∷ step 5 0 1 (to 4 1 ∷ [])
          ∷ [];
    }

-- a model without transitions declares action 1 and stops it
unfoldable pub silent : Model
silent = record { actions = 2; labels = 0 ∷ []; transitions = [] }

unfoldable pub stopped : Model
stopped = record { actions = 2; labels = 0 ∷ 1 ∷ []; transitions = step 1 0 1 (to 0 1 ∷ []) ∷ [] }

-- a state that loops, internally and twice with action 1, beside itself: all that come out alike are kept
unfoldable pub looping : Model
looping = record { actions = 2; labels = 0 ∷ []; transitions = step 0 0 1 (to 0 1 ∷ []) ∷ step 0 1 1 (to 0 1 ∷ []) ∷ step 0 1 1 (to 0 1 ∷ []) ∷ [] }

unfoldable pub looping_together : Model
looping_together =
    record {
      actions = 2;
      labels = 0 ∷ [];
      transitions =
          step 0 0 1 (to 0 1 ∷ [])
          ∷ step 0 1 1 (to 0 1 ∷ [])
          ∷ step 0 1 1 (to 0 1 ∷ [])
          ∷ step 0 1 1 (to 0 1 ∷ [])
          ∷ step 0 1 1 (to 0 1 ∷ [])
          ∷ step 0 0 1 (to 0 1 ∷ [])
          ∷ [];
    }

pub composition-cases : (composed left_model right_model ≡ side_by_side) × (composed does_one declares_one ≡ partnerless) × (composed declares_one does_one ≡ exchanged) × (composed does_one silent ≡ stopped) × (composed silent does_one ≡ stopped) × (composed looping looping ≡ looping_together)
unfolding if_less if_same if_true larger state_at highest pair_label automaton_of gathered shared_below is_shared partner_move left_move right_move moves_from moves_of pair_entry pair_entries pair_transition still moved composed left_model right_model side_by_side does_one declares_one partnerless exchanged silent stopped looping looping_together
composition-cases = (refl, refl, refl, refl, refl, refl)

-- its file, 127 bytes
unfoldable pub side_by_side_bytes : List ℕ
side_by_side_bytes =
    0x50 ∷ 0x41 ∷ 4 ∷ 3 ∷ 0 ∷ 10
    ∷ 0x4C ∷ 0x42 ∷ 0 ∷ 2 ∷ 3 ∷ 5
    ∷ 0x54 ∷ 0x52 ∷ 0 ∷ 0 ∷ 0 ∷ 1 ∷ 1 ∷ 2 ∷ 0 ∷ 1
    ∷ 0x54 ∷ 0x52 ∷ 0 ∷ 1 ∷ 0 ∷ 6 ∷ 4 ∷ 0 ∷ 0 ∷ 1 ∷ 1 ∷ 0 ∷ 2 ∷ 2 ∷ 0 ∷ 1 ∷ 3 ∷ 0 ∷ 2
    ∷ 0x54 ∷ 0x52 ∷ 0 ∷ 1 ∷ 0 ∷ 2 ∷ 2 ∷ 1 ∷ 0 ∷ 1 ∷ 3 ∷ 0 ∷ 1
    ∷ 0x54 ∷ 0x52 ∷ 0 ∷ 2 ∷ 0 ∷ 1 ∷ 1 ∷ 2 ∷ 0 ∷ 1
    ∷ 0x54 ∷ 0x52 ∷ 0 ∷ 1 ∷ 0 ∷ 3 ∷ 2 ∷ 0 ∷ 0 ∷ 1 ∷ 1 ∷ 0 ∷ 2
    ∷ 0x54 ∷ 0x52 ∷ 0 ∷ 1 ∷ 0 ∷ 1 ∷ 1 ∷ 1 ∷ 0 ∷ 1
    ∷ 0x54 ∷ 0x52 ∷ 0 ∷ 0 ∷ 0 ∷ 1 ∷ 1 ∷ 1 ∷ 0 ∷ 1
    ∷ 0x54 ∷ 0x52 ∷ 1 ∷ 0 ∷ 0 ∷ 1 ∷ 1 ∷ 3 ∷ 0 ∷ 1
    ∷ 0x54 ∷ 0x52 ∷ 1 ∷ 2 ∷ 0 ∷ 1 ∷ 1 ∷ 3 ∷ 0 ∷ 1
    ∷ 0x54 ∷ 0x52 ∷ 2 ∷ 0 ∷ 0 ∷ 1 ∷ 1 ∷ 3 ∷ 0 ∷ 1
    ∷ []

pub composed-bytes : composed_file left_model right_model ≡ side_by_side_bytes
unfolding if_less if_same if_true larger state_at highest pair_label automaton_of gathered shared_below is_shared partner_move left_move right_move moves_from moves_of pair_entry pair_entries pair_transition still moved composed two_bytes head_bytes labels_bytes entries_bytes transition_bytes transitions_bytes model_bytes left_model right_model side_by_side_bytes
composed-bytes = refl
