-- `write_file` meets its contract. The invariant is `Writing`.
use mathlib.Core.Path.{sym, ◌∙◌}
use native.Mathlib.Omega.{arith}
use Rattle.rewritten_flows.specs.FlowLoops.{start-inside, start-length, writing_start, file-written, writing-end, writing-asks, writing-less, writing-turn}
use Rattle.rewritten_flows.proofs.write_file.Goals as goal

pub slice_bounds-part-end : goal.slice_bounds-part-end
slice_bounds-part-end c = sym (start-length c.requires.0)

pub part-at-requires : goal.part-at-requires
part-at-requires c =
    let pre = c.requires in
    omega (arith, pre.1, start-inside pre.0, start-length pre.0)

pub loop-at-init : goal.loop-at-init
loop-at-init c =
    let pre = c.requires in
    writing_start pre.0 c.part-at.ensures pre.1

pub write_flow-at-requires : goal.write_flow-at-requires
write_flow-at-requires c =
    let w = c.loop-at.invariant in
    (writing-asks w (omega arith), w.room)

pub loop-at-smaller : goal.loop-at-smaller
loop-at-smaller c = writing-less c.loop-at.invariant (omega arith) c.write_flow-at.ensures

pub loop-at-preserved : goal.loop-at-preserved
loop-at-preserved c = writing-turn c.loop-at.invariant (omega arith) c.write_flow-at.ensures

pub shape_of-out : goal.shape_of-out
shape_of-out c =
    c.loop-at.invariant.size ∙ c.part-at.ensures.size

pub returns : goal.returns
returns c =
    file-written c.requires.0 c.part-at.ensures (writing-end c.loop-at.invariant (omega arith))
