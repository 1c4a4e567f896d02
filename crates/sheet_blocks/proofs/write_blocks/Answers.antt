-- `write_blocks` meets its contract. The invariant is `Writing`.
use native.Mathlib.Omega.{arith}
use Rattle.sheet_blocks.specs.BlocksLaws.{writing_start, writing-turn, writing-end}
use Rattle.sheet_blocks.proofs.write_blocks.Goals as goal

pub loop-v-init : goal.loop-v-init
loop-v-init c = writing_start _ _ (omega arith)

pub write_block-put-requires : goal.write_block-put-requires
write_block-put-requires c = (record { in_rows = c.requires.0; inside = omega arith; known = c.loop-v.invariant.known }, c.loop-v.invariant.room)

pub loop-v-preserved : goal.loop-v-preserved
loop-v-preserved c = writing-turn c.loop-v.invariant (omega arith) c.write_block-put.ensures

pub returns : goal.returns
returns c = writing-end c.requires.0.model c.loop-v.invariant (omega arith)
