-- `head` meets its contract.
use Rattle.rules.specs.definitions.Bytes.{two_bytes}
use Rattle.writer.specs.AppendsLaws.{append-more}
use borrow.Author.Rules.{rules}
use Rattle.writer.proofs.head.Goals as goal

pub pair-requires : goal.pair-requires
unfolding two_bytes
pair-requires c = search rules

pub returns : goal.returns
unfolding two_bytes
returns c = append-more c.start-next.ensures c.pair.ensures
