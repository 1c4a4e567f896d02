-- `write_blocks` meets its contract. The invariant is `Writing`.
use Rattle.sheet_blocks.specs.BlocksLaws.{Writing}
use Rattle.sheet_blocks.proofs.write_blocks.Given as goal

abbrev pub invariant-loop-v : goal.invariant-loop-v
invariant-loop-v l = Writing l.blocks l.initial.out l.next l.seen l.v l.out
