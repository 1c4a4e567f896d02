-- `no_rows` meets its contract: every word is 0.
use Rattle.pairs.specs.RowsLaws.{none-related}
use Rattle.pairs.proofs.no_rows.Goals as goal

pub returns : goal.returns
returns c = none-related
