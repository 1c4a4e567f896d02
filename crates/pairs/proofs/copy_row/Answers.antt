-- `copy_row` meets its contract: both words are stored.
use Rattle.pairs.specs.RowsLaws.{copied-stored}
use Rattle.pairs.proofs.copy_row.Goals as goal

pub returns : goal.returns
returns c = copied-stored _ _ _ _ c.word_at.ensures c.word_at-2.ensures
