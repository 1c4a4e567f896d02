-- `start` meets its contract. The invariant: the first v rows hold the pairs.
use Rattle.std.proofs.Common.{arith}
use Rattle.classes.specs.ClassesLaws.{rows_none, rows_more}
use Rattle.classes.proofs.start.Goals as goal

pub loop-v-init : goal.loop-v-init
loop-v-init c = rows_none _ _ _ (omega arith)

pub loop-v-preserved : goal.loop-v-preserved
loop-v-preserved c =
    let row = c.classes.ensures.row _ c.byte_of-byte.ensures.1 in
    rw c.copy_row.ensures (rows_more _ _ _ _ _ _ c.loop-v.invariant (omega arith) (omega arith) row)
