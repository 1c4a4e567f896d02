-- `compose_moves` meets its contract: 37 by the moves, 38, or the file.
use mathlib.Core.Path.{sym, ◌∙◌}
use native.Mathlib.Omega.{arith}
use Rattle.compose.specs.ComposeLaws.{sides, over-moves, moves-within, sound-within, limit-passed, file-composed}
use Rattle.compose.proofs.compose_moves.Goals as goal

pub places_of-left_places-requires : goal.places_of-left_places-requires
places_of-left_places-requires c = c.requires.models.one.known

pub invariant_of-first : goal.invariant_of-first
invariant_of-first c = record { known = (sides c.requires.models c.places_of-left_places.ensures).first }

pub invariant_of-second : goal.invariant_of-second
invariant_of-second c = record { known = (sides c.requires.models c.places_of-left_places.ensures).second }

pub returns-then-passes_moves : goal.returns-then-passes_moves
returns-then-passes_moves c =
    let counted = c.count_moves-sizes.ensures in
    let over = sym c.if-passes_moves.true ∙ c.passes_moves.ensures in
    limit-passed _ (over-moves _ _ counted.transitions counted.entries counted.long over)
    c.refused.ensures

pub write_file-size-requires : goal.write_file-size-requires
write_file-size-requires c =
    let within = sym c.if-passes_moves.false ∙ c.passes_moves.ensures in
    record {
      models = record { sound = sound-within c.requires c.count_moves-sizes.ensures within };
      label = c.requires.label;
      counted = c.count_moves-sizes.ensures;
    }

pub returns : goal.returns
returns c =
    let within = sym c.if-passes_moves.false ∙ c.passes_moves.ensures in
    file-composed _
    (moves-within c.requires c.count_moves-sizes.ensures within)
    c.write_file-size.ensures c.of_file.ensures
