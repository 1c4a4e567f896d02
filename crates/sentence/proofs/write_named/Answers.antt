-- `write_named` meets its contract: the number stands behind the text.
use Rattle.writer.specs.AppendsLaws.{append-more}
use Rattle.sentence.proofs.write_named.Goals as goal

pub returns : goal.returns
returns c = append-more c.part-next.ensures c.write_decimal.ensures
