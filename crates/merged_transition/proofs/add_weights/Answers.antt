-- `add_weights` meets its contract. The invariant is `Adding`.
use native.Mathlib.Omega.{arith}
use mathlib.Core.Path.{refl}
use Rattle.merged_transition.specs.WeightsLaws.{walking-state, adding-start, adding-turn, adding-end, adding-few}
use Rattle.merged_transition.proofs.add_weights.Goals as goal

pub loop-init : goal.loop-init
loop-init c = adding-start c.args.model.known c.requires c.fields-t.ensures (omega arith)

pub block_of-b-requires : goal.block_of-b-requires
block_of-b-requires c = walking-state _ c.loop.invariant.walking (omega arith) c.entry_at-entry.ensures

pub counted-count-requires : goal.counted-count-requires
counted-count-requires c = (adding-few c.loop.invariant, omega arith)

pub loop-preserved : goal.loop-preserved
loop-preserved c =
    adding-turn _ c.loop.invariant (omega arith) c.entry_at-entry.ensures c.block_of-b.ensures.0 refl c.counted-count.ensures

pub returns : goal.returns
returns c = adding-end _ c.loop.invariant (omega arith)
