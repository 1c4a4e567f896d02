-- `chain_by_block` meets its contract. The invariant: the transitions from r on are chained.
use Rattle.merged_transitions.specs.MergedTransitions.{Chained}
use Rattle.merged_transitions.proofs.chain_by_block.Given as goal

abbrev pub invariant-loop-r : goal.invariant-loop-r
invariant-loop-r l = Chained l.model.file.now l.blocks l.model.transitions l.r l.heads l.chain
