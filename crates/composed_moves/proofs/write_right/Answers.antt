-- `write_right` meets its contract: the source is the transition's beside s, and so is each entry's state.
use native.Mathlib.Omega.{arith}
use Rattle.placed_entries.specs.PlacedLaws.{known-record}
use Rattle.composed_moves.specs.MoveRecordsLaws.{right-room, right-record}
use Rattle.composed_moves.proofs.write_right.Goals as goal

pub write_record-requires : goal.write_record-requires
write_record-requires c =
    let m = c.requires in
    let t = c.fields_of-u.ensures in
    known-record m.transition t (omega (arith, m.states, m.all, t.from)) (omega (arith, m.states, m.all)) (omega (arith, right-room m t))

pub returns : goal.returns
returns c = right-record c.requires c.fields_of-u.ensures c.write_record.ensures
