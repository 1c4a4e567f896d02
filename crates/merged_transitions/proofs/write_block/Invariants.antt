-- `write_block` meets its contract. The invariant: those of the block among the first r transitions stand behind the blocks before, and r is of the block.
use Prim.Native.Nat.{◌-◌, ◌≤◌, ◌<◌}
use mathlib.Core.Path.{◌≡◌}
use lib.ListN.{length}
use Rattle.merged_transition.specs.MergedTransition.{NoWeights}
use Rattle.merged_transitions.specs.MergedTransitions.{block_of_source, InBlock}
use Rattle.merged_transitions.proofs.write_block.Given as goal

abbrev pub invariant-loop-r : goal.invariant-loop-r
invariant-loop-r l =
    (length l.out ≡ length l.initial.out) × NoWeights l.weights × InBlock l.model.file.now l.blocks l.b l.r l.start l.out l.kept × (l.r ≤ l.model.transitions) × (l.r < l.model.transitions → block_of_source l.model.file.now l.blocks l.r ≡ l.b)

abbrev pub decreases-loop-r : goal.decreases-loop-r
decreases-loop-r l = l.model.transitions - l.r
