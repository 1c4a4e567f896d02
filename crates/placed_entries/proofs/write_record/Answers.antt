-- `write_record` meets its contract: the fixed fields, and then the entries.
use native.Mathlib.Omega.{arith}
use Rattle.rules.specs.definitions.Bytes.{two_bytes}
use Rattle.writer.specs.AppendsLaws.{append-more}
use Rattle.placed_entries.proofs.write_record.Goals as goal

pub fixed-next-requires : goal.fixed-next-requires
fixed-next-requires c = omega (arith, c.requires)

pub write_entries-requires : goal.write_entries-requires
unfolding two_bytes
write_entries-requires c =
    let m = c.requires in
    let a = c.fixed-next.ensures in
    record { inside = m.inside; fit = m.fit; room = omega (arith, m.room, a.place, a.size) }

pub returns : goal.returns
returns c = append-more c.fixed-next.ensures c.write_entries.ensures
