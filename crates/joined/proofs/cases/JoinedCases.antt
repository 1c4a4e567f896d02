-- The joined file of two small models, computed byte by byte.
use Rattle.std.specs.Prelude.{ℕ, ◌≡◌, refl, List, [], ◌∷◌}
use Rattle.bisimulation.specs.definitions.Choice.{if_less}
use Rattle.rules.specs.definitions.Bytes.{two_bytes}
use Rattle.rules.specs.definitions.Model.{Model, head_bytes, labels_bytes, entries_bytes, transition_bytes, transitions_bytes, model_bytes}
use Rattle.bisimulation.specs.definitions.Joined.{larger}
use Rattle.joined.specs.definitions.Joined.{raised_entry, raised_transition, joined, joined_file}

-- two states with labels 5 and 6; an internal step from 1 to 0 with 2/2
unfoldable pub first_model : Model
first_model =
    record {
      actions = 1;
      labels = 5 ∷ 6 ∷ [];
      transitions = record { source = 1; action = 0; denominator = 2; entries = record { state = 0; weight = 2 } ∷ [] } ∷ [];
    }

-- two states with labels 7 and 5; a step with action 2 from 0 to 0 and 1, with 1/4 and 3/4
unfoldable pub second_model : Model
second_model =
    record {
      actions = 3;
      labels = 7 ∷ 5 ∷ [];
      transitions = record { source = 0; action = 2; denominator = 4; entries = record { state = 0; weight = 1 } ∷ record { state = 1; weight = 3 } ∷ [] } ∷ [];
    }

-- four states, m 3, the second's source and targets raised by 2; and the other way round
pub joined-cases : (joined_file first_model second_model ≡ 0x50 ∷ 0x41 ∷ 4 ∷ 3 ∷ 0 ∷ 2 ∷ 0x4C ∷ 0x42 ∷ 5 ∷ 6 ∷ 7 ∷ 5 ∷ 0x54 ∷ 0x52 ∷ 1 ∷ 0 ∷ 0 ∷ 2 ∷ 1 ∷ 0 ∷ 0 ∷ 2 ∷ 0x54 ∷ 0x52 ∷ 2 ∷ 2 ∷ 0 ∷ 4 ∷ 2 ∷ 2 ∷ 0 ∷ 1 ∷ 3 ∷ 0 ∷ 3 ∷ []) × (joined_file second_model first_model ≡ 0x50 ∷ 0x41 ∷ 4 ∷ 3 ∷ 0 ∷ 2 ∷ 0x4C ∷ 0x42 ∷ 7 ∷ 5 ∷ 5 ∷ 6 ∷ 0x54 ∷ 0x52 ∷ 0 ∷ 2 ∷ 0 ∷ 4 ∷ 2 ∷ 0 ∷ 0 ∷ 1 ∷ 1 ∷ 0 ∷ 3 ∷ 0x54 ∷ 0x52 ∷ 3 ∷ 0 ∷ 0 ∷ 2 ∷ 1 ∷ 2 ∷ 0 ∷ 2 ∷ [])
unfolding if_less two_bytes head_bytes labels_bytes entries_bytes transition_bytes transitions_bytes model_bytes raised_entry raised_transition larger joined first_model second_model
joined-cases = (refl, refl)
