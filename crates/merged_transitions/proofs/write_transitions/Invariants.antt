-- `write_transitions` meets its contract. The invariant: the transitions of the blocks before the next one stand in the buffer.
use mathlib.Core.Path.{◌≡◌}
use lib.ListN.{length}
use Rattle.merged_transition.specs.MergedTransition.{NoWeights}
use Rattle.merged_transitions.specs.MergedTransitions.{transitions_in, before, Holds}
use Rattle.merged_transitions.proofs.write_transitions.Given as goal

abbrev pub invariant-loop-block : goal.invariant-loop-block
invariant-loop-block l =
    (length l.out ≡ length l.initial.out) × NoWeights l.weights × Holds (before l.blocks (transitions_in l.model.file.now) l.block) l.out l.kept
