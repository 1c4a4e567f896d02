-- `write_left` meets its contract: the source is the transition's beside e, and so is each entry's state.
use native.Mathlib.Omega.{arith}
use Rattle.placed_entries.specs.PlacedLaws.{known-record}
use Rattle.composed_moves.specs.MoveRecordsLaws.{left-source, left-room, left-record}
use Rattle.composed_moves.proofs.write_left.Goals as goal

pub overflow_mul-t : goal.overflow_mul-t
overflow_mul-t c = omega (arith, left-source c.requires c.fields_of-t.ensures)

pub overflow_add-t : goal.overflow_add-t
overflow_add-t c = omega (arith, left-source c.requires c.fields_of-t.ensures)

pub write_record-requires : goal.write_record-requires
write_record-requires c =
    let m = c.requires in
    let t = c.fields_of-t.ensures in
    known-record m.transition t (omega (arith, left-source m t)) (omega (arith, m.states, m.state)) (omega (arith, left-room m t))

pub returns : goal.returns
returns c = left-record c.requires c.fields_of-t.ensures c.write_record.ensures
