-- `write_opening` meets its contract: each piece stands behind the one before it.
use native.Mathlib.Omega.{arith}
use Rattle.sentences.specs.definitions.Phrases.{bytes_of}
use Rattle.writer.specs.AppendsLaws.{append-more}
use Rattle.sentence.specs.Parts.{opening}
use Rattle.sentence.specs.PartsLaws.{opening-length}
use Rattle.sentence.proofs.write_opening.Goals as goal

pub write_named-colon-requires : goal.write_named-colon-requires
write_named-colon-requires c = omega (arith, c.requires, opening-length c.args.number)

pub part-phrase-requires : goal.part-phrase-requires
part-phrase-requires c =
    omega (arith, c.requires, opening-length c.args.number, c.write_named-colon.ensures.place, c.write_named-colon.ensures.size)

pub write_phrase-requires : goal.write_phrase-requires
write_phrase-requires c =
    let n = c.write_named-colon.ensures in
    omega (arith, c.requires, opening-length c.args.number, n.place, n.size, c.part-phrase.ensures.place, c.part-phrase.ensures.size)

pub returns : goal.returns
unfolding opening bytes_of
returns c =
    append-more c.write_named-colon.ensures (append-more c.part-phrase.ensures c.write_phrase.ensures)
