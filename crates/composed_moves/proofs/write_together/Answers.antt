-- `write_together` meets its contract: the fixed fields are those of the pair, and then the pairs of entries.
use mathlib.Core.Path.{refl}
use native.Mathlib.Omega.{arith}
use Rattle.rules.specs.definitions.Bytes.{two_bytes}
use Rattle.transition.specs.KnownLaws.{fields-small}
use Rattle.composed_moves.specs.MoveRecordsLaws.{together-fits, together-room, together-pairs, together-record}
use Rattle.composed_moves.proofs.write_together.Goals as goal

pub overflow_mul-t : goal.overflow_mul-t
overflow_mul-t c =
    omega (arith, together-fits c.requires c.fields_of-t.ensures c.fields_of-u.ensures)

pub overflow_add-t : goal.overflow_add-t
overflow_add-t c =
    omega (arith, together-fits c.requires c.fields_of-t.ensures c.fields_of-u.ensures)

pub overflow_mul-t-2 : goal.overflow_mul-t-2
overflow_mul-t-2 c =
    omega (arith, together-fits c.requires c.fields_of-t.ensures c.fields_of-u.ensures)

pub overflow_mul-t-3 : goal.overflow_mul-t-3
overflow_mul-t-3 c =
    omega (arith, together-fits c.requires c.fields_of-t.ensures c.fields_of-u.ensures)

pub fixed-next-requires : goal.fixed-next-requires
fixed-next-requires c =
    let m = c.requires in
    let t = c.fields_of-t.ensures in
    let u = c.fields_of-u.ensures in
    let fits = together-fits m t u in
    (omega (arith, together-room m t u), omega (arith, fits), (fields-small m.first t).0, omega (arith, fits), omega (arith, fits))

pub write_pairs-requires : goal.write_pairs-requires
unfolding two_bytes
write_pairs-requires c =
    let m = c.requires in
    let t = c.fields_of-t.ensures in
    let u = c.fields_of-u.ensures in
    let a = c.fixed-next.ensures in
    together-pairs m t u (omega (arith, together-room m t u, a.place, a.size))

pub returns : goal.returns
returns c =
    together-record c.requires c.fields_of-t.ensures c.fields_of-u.ensures c.fixed-next.ensures refl refl refl refl c.write_pairs.ensures
