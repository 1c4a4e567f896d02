-- `compose` meets its contract: the parts are the sentence.
use mathlib.Core.Path.{sym, ap}
use mir.Facts.{to_z-of_z}
use native.Mathlib.Omega.{arith}
use Rattle.writer.specs.AppendsLaws.{appended-as, append-more}
use Rattle.sentence.specs.Parts.{closing}
use Rattle.sentence.specs.PartsLaws.{sentence-parts, parts-length}
use Rattle.sentence.specs.Sentence.{told}
use Rattle.sentence.proofs.compose.Goals as goal

pub write_opening-first-requires : goal.write_opening-first-requires
write_opening-first-requires c =
    omega (arith, c.requires, parts-length (told c.args.number c.args.file c.args.place c.args.state c.args.remainder))

pub write_fields-last-requires : goal.write_fields-last-requires
write_fields-last-requires c =
    let o = c.write_opening-first.ensures in
    omega (arith, c.requires, parts-length (told c.args.number c.args.file c.args.place c.args.state c.args.remainder), o.place, o.size)

pub write_closing-requires : goal.write_closing-requires
write_closing-requires c =
    let o = c.write_opening-first.ensures in
    let f = c.write_fields-last.ensures in
    rw (to_z-of_z c.ranges.remainder)
    (omega (arith, c.requires, parts-length (told c.args.number c.args.file c.args.place c.args.state c.args.remainder), o.place, o.size, f.place, f.size))

pub returns : goal.returns
returns c =
    let last = appended-as (ap closing (sym (to_z-of_z c.ranges.remainder))) c.write_closing.ensures in
    appended-as (sentence-parts _) (append-more c.write_opening-first.ensures (append-more c.write_fields-last.ensures last))
