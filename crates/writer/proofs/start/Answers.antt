-- `start` meets its contract: each field stands behind the one before it.
use Rattle.rules.specs.definitions.Bytes.{two_bytes}
use Rattle.writer.specs.AppendsLaws.{append-more}
use borrow.Author.Rules.{rules}
use Rattle.writer.proofs.start.Goals as goal

pub byte-middle-requires : goal.byte-middle-requires
unfolding two_bytes
byte-middle-requires c = search rules

pub byte-last-requires : goal.byte-last-requires
unfolding two_bytes
byte-last-requires c = search rules

pub pair-requires : goal.pair-requires
unfolding two_bytes
pair-requires c = search rules

pub returns : goal.returns
unfolding two_bytes
returns c =
    append-more c.pair-fields.ensures
    (append-more c.byte-middle.ensures (append-more c.byte-last.ensures c.pair.ensures))
