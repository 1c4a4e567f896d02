-- `write_fields` meets its contract: each piece stands behind the one before it.
use native.Mathlib.Omega.{arith}
use Rattle.sentences.specs.definitions.Phrases.{bytes_of}
use Rattle.writer.specs.AppendsLaws.{append-more}
use Rattle.sentence.specs.Parts.{fields}
use Rattle.sentence.specs.PartsLaws.{fields-length}
use Rattle.sentence.proofs.write_fields.Goals as goal

pub write_named-second-requires : goal.write_named-second-requires
write_named-second-requires c = omega (arith, c.requires, fields-length c.args.file c.args.place c.args.state)

pub write_named-third-requires : goal.write_named-third-requires
write_named-third-requires c =
    omega (arith, c.requires, fields-length c.args.file c.args.place c.args.state, c.write_named-second.ensures.place, c.write_named-second.ensures.size)

pub write_named-requires : goal.write_named-requires
write_named-requires c =
    let f = c.write_named-second.ensures in
    let p = c.write_named-third.ensures in
    omega (arith, c.requires, fields-length c.args.file c.args.place c.args.state, f.place, f.size, p.place, p.size)

pub returns : goal.returns
unfolding fields bytes_of
returns c =
    append-more c.write_named-second.ensures (append-more c.write_named-third.ensures c.write_named.ensures)
