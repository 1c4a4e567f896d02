-- `write_closing` meets its contract: each piece stands behind the one before it.
use mathlib.Core.Path.{sym, ap}
use mir.Facts.{to_z-of_z}
use native.Mathlib.Omega.{arith}
use Rattle.sentences.specs.definitions.Phrases.{bytes_of}
use Rattle.sentences.specs.definitions.Sentence.{signed_decimal}
use Rattle.writer.specs.AppendsLaws.{appended-as, append-more}
use Rattle.sentence.specs.Parts.{closing}
use Rattle.sentence.specs.PartsLaws.{closing-length}
use Rattle.sentence.proofs.write_closing.Goals as goal

pub part-sign-requires : goal.part-sign-requires
part-sign-requires c = omega (arith, c.requires, closing-length c.args.remainder)

pub write_signed-end-requires : goal.write_signed-end-requires
write_signed-end-requires c =
    rw (to_z-of_z c.ranges.remainder) (omega (arith, c.requires, closing-length c.args.remainder, c.part-sign.ensures.place, c.part-sign.ensures.size))

pub part-requires : goal.part-requires
part-requires c =
    let signed = appended-as (ap signed_decimal (sym (to_z-of_z c.ranges.remainder))) c.write_signed-end.ensures in
    omega (arith, c.requires, closing-length c.args.remainder, c.part-sign.ensures.place, c.part-sign.ensures.size, signed.place, signed.size)

pub returns : goal.returns
unfolding closing bytes_of
returns c =
    let signed = appended-as (ap signed_decimal (sym (to_z-of_z c.ranges.remainder))) c.write_signed-end.ensures in
    append-more c.part-sign.ensures (append-more signed c.part.ensures)
