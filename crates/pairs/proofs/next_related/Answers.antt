-- `next_related` meets its contract: the next bit of the first word, or else of the second.
use Rattle.std.proofs.Common.{arith}
use Rattle.pairs.specs.RowsLaws.{next-first, later-state, none-left}
use Rattle.pairs.proofs.next_related.Goals as goal

pub returns-then-u-ge-STATES : goal.returns-then-u-ge-STATES
returns-then-u-ge-STATES c = none-left _ (omega arith) (omega arith)

pub returns-then-first-lt-BITS : goal.returns-then-first-lt-BITS
returns-then-first-lt-BITS c = (omega arith, next-first _ _ c.word_at.ensures c.next_bit-first.ensures.0 (omega arith))

pub returns : goal.returns
returns c = later-state _ _ _ c.word_at.ensures c.next_bit-first.ensures.0 (omega arith) (omega arith) c.next_in_second-2.ensures
