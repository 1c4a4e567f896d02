-- `write_flow` meets its contract: what stands before the k entries, the multiplied entries, and what stands behind them.
use mathlib.Core.Path.{◌∙◌}
use native.Mathlib.Omega.{arith}
use Rattle.rewritten_flows.specs.FlowLaws.{fits-asks, behind-inside, end-inside, end-room, flow-written}
use Rattle.rewritten_flows.proofs.write_flow.Goals as goal

pub overflow_add-at : goal.overflow_add-at
overflow_add-at c = omega arith

pub new-requires : goal.new-requires
new-requires c = tt

pub pair-ks-requires : goal.pair-ks-requires
pair-ks-requires c = omega arith

pub overflow_add-at-2 : goal.overflow_add-at-2
overflow_add-at-2 c = omega arith

pub slice_bounds-part-count : goal.slice_bounds-part-count
slice_bounds-part-count c = omega arith

pub slice_bounds-part-start : goal.slice_bounds-part-start
slice_bounds-part-start c = omega arith

pub slice_bounds-part-end : goal.slice_bounds-part-end
slice_bounds-part-end c = omega arith

pub part-requires : goal.part-requires
part-requires c = omega arith

pub write_ks-behind-requires : goal.write_ks-behind-requires
write_ks-behind-requires c =
    let pre = c.requires in
    (fits-asks pre.0 c.pair-ks.ensures c.new.ensures, omega (arith, pre.1, c.part.ensures.size))

pub new-requires-2 : goal.new-requires-2
new-requires-2 c = tt

pub pair-ws-requires : goal.pair-ws-requires
pair-ws-requires c =
    let pre = c.requires in
    omega (arith, c.new-2.ensures, behind-inside pre.0 c.pair-ks.ensures c.new.ensures c.write_ks-behind.ensures)

pub overflow_add-end : goal.overflow_add-end
overflow_add-end c = omega arith

pub overflow_mul-end : goal.overflow_mul-end
overflow_mul-end c = omega arith

pub overflow_add-end-2 : goal.overflow_add-end-2
overflow_add-end-2 c =
    let pre = c.requires in
    omega (arith, end-inside pre.0 c.pair-ks.ensures c.new.ensures c.write_ks-behind.ensures c.pair-ws.ensures c.new-2.ensures)

pub slice_bounds-part-count-2 : goal.slice_bounds-part-count-2
slice_bounds-part-count-2 c = omega arith

pub slice_bounds-part-start-2 : goal.slice_bounds-part-start-2
slice_bounds-part-start-2 c = omega arith

pub slice_bounds-part-end-2 : goal.slice_bounds-part-end-2
slice_bounds-part-end-2 c =
    let pre = c.requires in
    omega (arith, end-inside pre.0 c.pair-ks.ensures c.new.ensures c.write_ks-behind.ensures c.pair-ws.ensures c.new-2.ensures)

pub part-requires-2 : goal.part-requires-2
part-requires-2 c =
    let pre = c.requires in
    end-room pre.0 c.pair-ks.ensures c.new.ensures c.write_ks-behind.ensures c.pair-ws.ensures c.new-2.ensures
    (omega (arith, pre.1, c.part.ensures.size))

pub shape_of-out : goal.shape_of-out
shape_of-out c =
    c.part-2.ensures.size ∙ c.write_ks-behind.ensures.size ∙ c.part.ensures.size

pub returns : goal.returns
returns c =
    let pre = c.requires in
    flow-written pre.0 c.pair-ks.ensures c.new.ensures c.write_ks-behind.ensures c.pair-ws.ensures c.new-2.ensures
    c.part.ensures c.part-2.ensures
