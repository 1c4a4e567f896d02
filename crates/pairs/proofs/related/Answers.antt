-- `related` meets its contract: the bit of the row.
use Rattle.pairs.specs.RowsLaws.{bit-read}
use Rattle.pairs.proofs.related.Goals as goal

pub returns : goal.returns
returns c = bit-read _ _ _ c.word_of.ensures.0 c.bit_in.ensures.0 c.has.ensures
