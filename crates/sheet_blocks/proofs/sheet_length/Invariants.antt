-- `sheet_length` meets its contract. The invariant is `Counting`.
use Rattle.sheet_blocks.specs.BlocksLaws.{Counting}
use Rattle.sheet_blocks.proofs.sheet_length.Given as goal

abbrev pub invariant-loop-v : goal.invariant-loop-v
invariant-loop-v l = Counting l.blocks l.total l.seen l.v
