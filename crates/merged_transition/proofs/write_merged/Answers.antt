-- `write_merged` meets its contract: the fixed fields are those of the transition, and the entries those of the blocks with a weight, divided by
-- their common divisor.
use native.Mathlib.Omega.{arith}
use native.Mathlib.Nat.{div-le_self}
use mathlib.Core.Path.{◌∙◌}
use Rattle.transition.specs.KnownLaws.{few-states, known-transition, fields-small}
use Rattle.merged_transition.specs.MergedTransitionLaws.{merging-adds, merging-divides, count_small, divisor-positive, merging-writes, merged-done}
use Rattle.merged_transition.proofs.write_merged.Goals as goal

pub add_weights-count-requires : goal.add_weights-count-requires
add_weights-count-requires c = merging-adds c.args.model.known c.requires

pub common_divisor-g-requires : goal.common_divisor-g-requires
common_divisor-g-requires c = merging-divides c.args.model.known c.requires c.add_weights-count.ensures

pub divided-d-requires : goal.divided-d-requires
divided-d-requires c =
    divisor-positive c.args.model.known c.requires c.add_weights-count.ensures c.common_divisor-g.ensures

pub fixed-next-requires : goal.fixed-next-requires
fixed-next-requires c =
    let known = c.args.model.known in
    let m = c.requires in
    let t = c.fields-t.ensures in
    let few = count_small known m c.add_weights-count.ensures in
    (omega arith, omega (arith, t.from, few-states known, known.states), omega (arith, fields-small (known-transition known m.less) t), omega (arith, t.small, div-le_self c.fields-t.result.denominator c.common_divisor-g.result), omega (arith, few))

pub write_entries-requires : goal.write_entries-requires
write_entries-requires c =
    merging-writes c.args.model.known c.requires c.add_weights-count.ensures c.common_divisor-g.ensures _ _ _ c.fixed-next.ensures

pub shape_of-out : goal.shape_of-out
shape_of-out c =
    c.write_entries.ensures.appended.size ∙ c.fixed-next.ensures.size

pub returns : goal.returns
returns c =
    merged-done c.args.model.known c.requires c.add_weights-count.ensures c.common_divisor-g.ensures _ _ _ c.fixed-next.ensures c.fields-t.ensures
    c.block_of-source.ensures.0 (omega arith) c.divided-d.ensures c.write_entries.ensures
