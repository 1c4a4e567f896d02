-- `write_transition` meets its contract: the record is the transition's, raised.
use native.Mathlib.Omega.{arith}
use Rattle.transition.specs.KnownLaws.{known-transition}
use Rattle.placed_entries.specs.PlacedLaws.{known-record}
use Rattle.raised.specs.RaisedLaws.{transition-raised}
use Rattle.raised.proofs.write_transition.Goals as goal

pub write_record-requires : goal.write_record-requires
write_record-requires c =
    let m = c.requires in
    let t = c.fields-t.ensures in
    known-record (known-transition c.args.model.known m.less) t (omega (arith, t.from, m.states)) (omega (arith, m.states)) (omega (arith, m.room, t.count))

pub returns : goal.returns
returns c = transition-raised c.args.model.known c.requires c.fields-t.ensures c.write_record.ensures
