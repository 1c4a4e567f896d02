-- `write_transition` meets its contract: the fixed fields are the transition's with d divided, and then its entries.
use mathlib.Core.Path.{refl}
use native.Mathlib.Omega.{arith}
use native.Mathlib.Nat.{div-le_self}
use Rattle.transition.specs.KnownLaws.{few-states, known-own, known-transition, fields-small}
use Rattle.rewritten_model.specs.WritingLaws.{transition-asks, transition-lowest}
use Rattle.rewritten_model.proofs.write_transition.Goals as goal

pub fixed-next-requires : goal.fixed-next-requires
fixed-next-requires c =
    let k = c.args.model.known in
    let t = c.fields-t.ensures in
    let small = fields-small (known-transition k c.requires.less) t in
    (omega arith, omega (arith, few-states (known-own k)), small.0, omega (arith, div-le_self c.fields-t.result.denominator c.args.g, t.small), small.1)

pub write_entries-requires : goal.write_entries-requires
write_entries-requires c =
    transition-asks c.args.model.known c.requires c.fields-t.ensures _ _ _ _ c.fixed-next.ensures

pub returns : goal.returns
returns c =
    transition-lowest c.args.model.known c.requires c.fields-t.ensures _ _ _ _ c.fixed-next.ensures refl refl refl refl c.write_entries.ensures
