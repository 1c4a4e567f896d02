-- `sheet_length` meets its contract. The invariant is `Counting`.
use native.Mathlib.Omega.{arith}
use Rattle.sheet_blocks.specs.BlocksLaws.{counting-start, counting-turn, counting-end}
use Rattle.sheet_blocks.proofs.sheet_length.Goals as goal

pub loop-v-init : goal.loop-v-init
loop-v-init c = counting-start _

pub count_block-counted-requires : goal.count_block-counted-requires
count_block-counted-requires c = record { in_rows = c.requires; inside = omega arith; known = c.loop-v.invariant.known }

pub overflow_add-total : goal.overflow_add-total
overflow_add-total c = omega (arith, c.count_block-counted.ensures.few, c.requires.model.few)

pub loop-v-preserved : goal.loop-v-preserved
loop-v-preserved c = counting-turn c.loop-v.invariant (omega arith) c.count_block-counted.ensures

pub returns : goal.returns
returns c = counting-end c.requires.model c.loop-v.invariant (omega arith)
