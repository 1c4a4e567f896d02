-- `count_related` meets its contract: the bits of both words are counted.
use Rattle.pairs.specs.RowsLaws.{count-words, counts-fit}
use Rattle.pairs.proofs.count_related.Goals as goal

pub overflow_add-result : goal.overflow_add-result
overflow_add-result c = record { fits = counts-fit _ _ c.ones.ensures c.ones-2.ensures }

pub returns : goal.returns
returns c = count-words _ _ c.word_at.ensures c.word_at-2.ensures c.ones.ensures c.ones-2.ensures
