-- `quad` meets its contract.
use Rattle.rules.specs.definitions.Bytes.{two_bytes}
use Rattle.rules.specs.definitions.Encoding.{four_bytes}
use Rattle.writer.specs.AppendsLaws.{append-more}
use borrow.Author.Rules.{rules}
use Rattle.writer.proofs.quad.Goals as goal

pub pair-requires : goal.pair-requires
unfolding two_bytes
pair-requires c = search rules

pub returns : goal.returns
unfolding four_bytes
returns c = append-more c.pair-low.ensures c.pair.ensures
