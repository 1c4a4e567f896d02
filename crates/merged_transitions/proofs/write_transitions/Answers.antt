-- `write_transitions` meets its contract. The invariant: the transitions of the blocks before the next one stand in the buffer.
use native.Mathlib.Omega.{arith}
use Prim.Native.Nat.{ℕ}
use mathlib.Core.Path.{◌≡◌, refl, subst}
use Rattle.transition.specs.KnownLaws.{few-transitions}
use Rattle.merged_transitions.specs.MergedTransitions.{transitions_in, before, Holds}
use Rattle.merged_transitions.specs.ChainsLaws.{none-chained}
use Rattle.merged_transitions.specs.MergedTransitionsLaws.{none-held}
use Rattle.merged_transitions.proofs.write_transitions.Goals as goal

pub overflow_cast-heads : goal.overflow_cast-heads
overflow_cast-heads c = omega (arith, few-transitions c.args.model.known)

pub chain_by_block-requires : goal.chain_by_block-requires
chain_by_block-requires c = (c.requires.0, none-chained _ _ _)

pub loop-block-init : goal.loop-block-init
loop-block-init c = (refl, c.no_weights-weights.ensures, none-held _ _ _)

pub write_block-kept-requires : goal.write_block-kept-requires
write_block-kept-requires c =
    let p = c.requires in
    let l = c.loop-block.invariant in
    record {
      merging = p.0;
      block = c.loop-block-test.true;
      chained = c.chain_by_block.ensures;
      none = l.1;
      large = omega (arith, p.1, l.0);
      held = l.2;
    }

pub loop-block-preserved : goal.loop-block-preserved
loop-block-preserved c =
    let w = c.write_block-kept.ensures in
    (omega (arith, w.size, c.loop-block.invariant.0), w.none, w.held)

pub returns : goal.returns
returns c =
    let l = c.loop-block in
    let a = c.args in
    let e : l.block ≡ a.k = omega arith in
    record {
      held = subst (λ (x : ℕ). Holds (before a.blocks.now (transitions_in a.model.file.now) x) l.out l.kept) e l.invariant.2;
      size = l.invariant.0;
    }
