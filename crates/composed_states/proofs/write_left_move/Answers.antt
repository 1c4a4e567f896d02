-- `write_left_move` meets its contract: with its partners where the action is shared, else alone.
use Rattle.transition.specs.KnownLaws.{known-transition}
use Rattle.composed_states.specs.ModelsLaws.{left-known}
use Rattle.composed_states.specs.MovesLaws.{partners-called, partners-written, alone-called, alone-written}
use Rattle.composed_states.proofs.write_left_move.Goals as goal

pub fields_of-action-requires : goal.fields_of-action-requires
fields_of-action-requires c = let p = c.requires in known-transition (left-known p.0.models) p.1

pub write_partners-requires : goal.write_partners-requires
write_partners-requires c =
    let p = c.requires in
    partners-called p.0 p.1 p.2 c.fields_of-action.ensures c.is_shared.ensures c.if-is_shared.true

pub returns-then-is_shared : goal.returns-then-is_shared
returns-then-is_shared c =
    let p = c.requires in
    partners-written p.0 p.1 p.2 c.fields_of-action.ensures
    c.is_shared.ensures c.if-is_shared.true c.write_partners.ensures

pub write_left-requires : goal.write_left-requires
write_left-requires c =
    let p = c.requires in
    alone-called p.0 p.1 p.2 c.fields_of-action.ensures c.is_shared.ensures c.if-is_shared.false

pub returns : goal.returns
returns c =
    let p = c.requires in
    alone-written p.0 p.1 p.2 c.fields_of-action.ensures
    c.is_shared.ensures c.if-is_shared.false c.write_left.ensures
