-- `write_ks` meets its contract. The invariant is `WritingKs`.
use native.Mathlib.Omega.{arith}
use Rattle.rewritten_flows.specs.KsLaws.{ks-entry, ks-start, ks-fits, ks-room, ks-later, ks-turn, ks-end}
use Rattle.rewritten_flows.proofs.write_ks.Goals as goal

pub loop-init : goal.loop-init
loop-init c = ks-start (omega arith) c.requires.0 c.requires.1

pub multiplied-k-requires : goal.multiplied-k-requires
multiplied-k-requires c = ks-entry _ c.loop.invariant.fit.ready (omega arith)

pub overflow_add-start : goal.overflow_add-start
overflow_add-start c = omega (arith, (ks-entry _ c.loop.invariant.fit.ready (omega arith)).inside)

pub slice_bounds-part-end : goal.slice_bounds-part-end
slice_bounds-part-end c = omega (arith, (ks-entry _ c.loop.invariant.fit.ready (omega arith)).inside)

pub part-next-requires : goal.part-next-requires
part-next-requires c = ks-room _ c.loop.invariant (omega arith)

pub quad-requires : goal.quad-requires
quad-requires c =
    let h = c.loop.invariant in
    (ks-later _ h (omega arith) c.part-next.ensures, ks-fits _ h (omega arith) c.multiplied-k.ensures)

pub loop-preserved : goal.loop-preserved
loop-preserved c =
    ks-turn c.loop.invariant (omega arith) c.multiplied-k.ensures c.part-next.ensures c.quad.ensures

pub returns : goal.returns
returns c = ks-end _ c.loop.invariant (omega arith)
