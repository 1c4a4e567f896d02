-- `part` meets its contract: the bits of that word.
use Rattle.pairs.specs.RowsLaws.{part-is}
use Rattle.pairs.proofs.part.Goals as goal

pub returns : goal.returns
returns c = part-is _ _ _ c.requires.1 c.word_at.ensures
