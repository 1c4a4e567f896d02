-- `write_block` meets its contract. The invariant: those of the block among the first r transitions stand behind the blocks before, and r is of the block.
use native.Mathlib.Omega.{arith}
use mathlib.Core.Path.{refl}
use Rattle.merged_transitions.specs.ChainsLaws.{behind}
use Rattle.merged_transitions.specs.MergedTransitionsLaws.{count-is, skip-others, block-begins, block-ends}
use Rattle.merged_transitions.proofs.write_block.Goals as goal

pub loop-r-init : goal.loop-r-init
loop-r-init c =
    let p = c.requires in
    let first = p.chained.first c.args.b (omega (arith, p.block, p.merging.few)) in
    (refl, p.none, skip-others c.args.model.known first (block-begins _ _ _ p.held), first.to, first.of)

pub keep_of_block-kept-requires : goal.keep_of_block-kept-requires
keep_of_block-kept-requires c =
    let p = c.requires in
    let inv = c.loop-r.invariant in
    let less = c.loop-r-test.true in
    record { merging = p.merging; block = p.block; less = less; of = inv.4 less; none = inv.1; large = omega (arith, p.large, inv.0); held = inv.2 }

pub loop-r-preserved : goal.loop-r-preserved
loop-r-preserved c =
    let p = c.requires in
    let next = behind p.chained c.loop-r-test.true (c.loop-r.invariant.4 c.loop-r-test.true) in
    let k = c.keep_of_block-kept.ensures in
    (omega (arith, k.size, c.loop-r.invariant.0), k.none, skip-others c.args.model.known next k.held, next.to, next.of)

pub returns : goal.returns
returns c =
    let l = c.loop-r in
    let p = c.requires in
    record {
      held = block-ends _ _ _ l.r _ (omega (arith, c.loop-r-test.false, l.invariant.3, count-is c.args.model.known)) l.invariant.2;
      none = l.invariant.1;
      size = l.invariant.0;
    }
