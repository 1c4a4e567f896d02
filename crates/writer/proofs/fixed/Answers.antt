-- `fixed` meets its contract.
use Rattle.rules.specs.definitions.Bytes.{two_bytes}
use Rattle.writer.specs.AppendsLaws.{append-more}
use borrow.Author.Rules.{rules}
use Rattle.writer.proofs.fixed.Goals as goal

pub byte-requires : goal.byte-requires
unfolding two_bytes
byte-requires c = search rules

pub returns : goal.returns
unfolding two_bytes
returns c = append-more c.start-next.ensures c.byte.ensures
