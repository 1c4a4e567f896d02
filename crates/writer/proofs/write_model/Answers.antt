-- `write_model` meets its contract: each record stands behind the one before it.
use mathlib.Core.Path.{refl}
use Rattle.rules.specs.definitions.Bytes.{two_bytes}
use Rattle.writer.specs.AppendsLaws.{append-model}
use borrow.Author.Rules.{rules}
use Rattle.writer.proofs.write_model.Goals as goal

pub part-next-requires : goal.part-next-requires
unfolding two_bytes
part-next-requires c = search rules

pub part-requires : goal.part-requires
unfolding two_bytes
part-requires c = search rules

pub returns : goal.returns
returns c =
    append-model refl c.head-at.ensures c.part-next.ensures c.part.ensures
