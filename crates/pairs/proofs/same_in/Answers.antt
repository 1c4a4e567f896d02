-- `same_in` meets its contract: both words have the same bits.
use Rattle.pairs.specs.RowsLaws.{first-differs, words_same}
use Rattle.pairs.proofs.same_in.Goals as goal

pub returns-then-same : goal.returns-then-same
returns-then-same c =
    words_same _ _ _ _ c.word_at.ensures c.word_at-2.ensures c.same.ensures c.if-same.true c.word_at-then-same.ensures c.word_at-then-same-2.ensures c.same-then-same.ensures

pub returns-else-same : goal.returns-else-same
returns-else-same c = first-differs _ _ _ _ c.word_at.ensures c.word_at-2.ensures c.same.ensures c.if-same.false
