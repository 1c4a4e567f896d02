-- The records of a composition's moves, from the bytes of two models.
use Rattle.std.specs.Prelude.{ℕ, List, map}
use Rattle.bisimulation.specs.definitions.Composed.{Move}
use Rattle.rules.specs.definitions.Model.{transitions_bytes}
use Rattle.rules.specs.definitions.Reading.{model_at}
use Rattle.transition.specs.Known.{automaton_in}
use Rattle.composition.specs.definitions.Composition.{gathered, partner_move, left_move, moves_from, moved}

-- the records of moves
abbrev pub records_of : (left right : List ℕ) → List Move → List ℕ
records_of left right ms = transitions_bytes (map (moved (model_at left) (model_at right)) ms)

-- of the left's transition q with the right's r, where that is a partner at e, and with all that are
abbrev pub partner_record : (left right : List ℕ) (q e r : ℕ) → List ℕ
partner_record left right q e r = records_of left right (partner_move (automaton_in left) (automaton_in right) q e r)

abbrev pub partner_records : (left right : List ℕ) (q e : ℕ) → List ℕ
partner_records left right q e =
    records_of left right (gathered (automaton_in right).transitions (partner_move (automaton_in left) (automaton_in right) q e))

-- of the left's transition q, where it leaves s, at e, and of all that do
abbrev pub left_move_records : (left right : List ℕ) (s e q : ℕ) → List ℕ
left_move_records left right s e q = records_of left right (left_move (automaton_in left) (automaton_in right) s e q)

abbrev pub left_records : (left right : List ℕ) (s e : ℕ) → List ℕ
left_records left right s e =
    records_of left right (gathered (automaton_in left).transitions (left_move (automaton_in left) (automaton_in right) s e))

-- from (s,e)
abbrev pub state_records : (left right : List ℕ) (s e : ℕ) → List ℕ
state_records left right s e = records_of left right (moves_from (automaton_in left) (automaton_in right) s e)
