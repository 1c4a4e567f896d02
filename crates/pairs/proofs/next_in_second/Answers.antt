-- `next_in_second` meets its contract: the next bit of the second word.
use Rattle.std.proofs.Common.{arith}
use Rattle.pairs.specs.RowsLaws.{next-second, no-state}
use Rattle.pairs.proofs.next_in_second.Goals as goal

pub returns-then-second-lt-BITS : goal.returns-then-second-lt-BITS
returns-then-second-lt-BITS c = (omega arith, next-second _ _ c.word_at.ensures c.next_bit-second.ensures.0 (omega arith))

pub returns : goal.returns
returns c = no-state (next-second _ _ c.word_at.ensures c.next_bit-second.ensures.0 (omega arith)) (omega arith) (omega arith)
