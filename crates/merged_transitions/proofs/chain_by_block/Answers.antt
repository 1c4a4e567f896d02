-- `chain_by_block` meets its contract. The invariant: the transitions from r on are chained.
use native.Mathlib.Omega.{arith}
use Rattle.transition.specs.KnownLaws.{few-transitions}
use Rattle.merged_transitions.specs.ChainsLaws.{chained-at, one-more-chained, block-found, block-few}
use Rattle.merged_transitions.proofs.chain_by_block.Goals as goal

pub loop-r-init : goal.loop-r-init
loop-r-init c = c.requires.1

pub fields-source-requires : goal.fields-source-requires
fields-source-requires c = omega arith

pub bounds-chain-r : goal.bounds-chain-r
bounds-chain-r c = omega (arith, few-transitions c.args.model.known)

pub loop-r-preserved : goal.loop-r-preserved
loop-r-preserved c =
    let known = c.args.model.known in
    one-more-chained (chained-at c.loop-r.invariant (omega arith)) (omega arith) (few-transitions known) (block-few known c.requires.0 c.fields-source.ensures c.block_of-b.ensures.0)
    (block-found c.args.blocks.now c.fields-source.ensures c.block_of-b.ensures.0)

pub returns : goal.returns
returns c = chained-at c.loop-r.invariant (omega arith)
