-- `common_divisor` meets its contract. The invariant is `Dividing`.
use Prim.Native.Nat.{◌+◌, ◌-◌}
use native.Mathlib.Omega.{arith}
use Rattle.merged_transition.specs.WeightsLaws.{walking-state, dividing-start, dividing-turn, dividing-end, dividing-one}
use Rattle.merged_transition.proofs.common_divisor.Goals as goal

pub loop-init : goal.loop-init
loop-init c = dividing-start c.args.model.known c.requires c.fields-t.ensures (omega arith)

pub block_of-b-requires : goal.block_of-b-requires
block_of-b-requires c = walking-state _ c.loop.invariant.walking (omega arith) c.entry_at-entry.ensures

pub returns-then-g-eq1 : goal.returns-then-g-eq1
returns-then-g-eq1 c =
    dividing-one {left = c.fields-t.result.count - (c.loop.counter + 1)}
    (dividing-turn _ c.loop.invariant (omega arith) c.entry_at-entry.ensures c.block_of-b.ensures.0 c.with_weight-g.ensures) c.if-g-eq1.true

pub loop-preserved : goal.loop-preserved
loop-preserved c =
    dividing-turn _ c.loop.invariant (omega arith) c.entry_at-entry.ensures c.block_of-b.ensures.0 c.with_weight-g.ensures

pub returns : goal.returns
returns c = dividing-end _ c.loop.invariant (omega arith)
