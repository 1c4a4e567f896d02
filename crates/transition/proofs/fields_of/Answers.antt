-- `fields_of` meets its contract: the table has the transition's place.
use native.Mathlib.Omega.{arith}
use Rattle.transition.specs.KnownLaws.{place-known, place-in-table, fixed-inside, fields-known}
use Rattle.transition.proofs.fields_of.Goals as goal

pub offset_bounds-places-r : goal.offset_bounds-places-r
offset_bounds-places-r c = omega (arith, place-in-table c.requires, c.requires.known.size)

pub bounds-places-r : goal.bounds-places-r
bounds-places-r c = omega (arith, place-in-table c.requires, c.requires.known.size)

pub fields_at-requires : goal.fields_at-requires
fields_at-requires c = omega (arith, place-known c.requires, fixed-inside c.requires)

pub returns : goal.returns
returns c = fields-known c.requires c.fields_at.ensures (omega (arith, place-known c.requires))
