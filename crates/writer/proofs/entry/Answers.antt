-- `entry` meets its contract.
use Rattle.writer.specs.AppendsLaws.{append-more}
use Rattle.writer.proofs.entry.Goals as goal

pub returns : goal.returns
returns c = append-more c.byte-next.ensures c.pair.ensures
