-- `sentence_answer` meets its contract: the sentence is composed, and handed over.
use mathlib.Core.Path.{sym, ap}
use lib.Seq.{length-take-le}
use mir.Facts.{to_z-of_z}
use native.Mathlib.Omega.{arith}
use Rattle.sentences.proofs.argument.LongestSentence.{longest-sentence}
use Rattle.sentence.specs.Sentence.{told}
use Rattle.sentence.specs.SentenceLaws.{sentence-handed}
use Rattle.sentence.proofs.sentence_answer.Goals as goal

pub compose-size-requires : goal.compose-size-requires
compose-size-requires c =
    rw (to_z-of_z c.ranges.remainder)
    (longest-sentence (told c.args.number c.args.file c.args.place c.args.state c.args.remainder)
    (record { number = omega arith; file = omega arith; place = omega arith; state = omega arith; remainder = c.ranges.remainder.sfits }))

pub slice_bounds-hand_over-end : goal.slice_bounds-hand_over-end
slice_bounds-hand_over-end c = let e = c.compose-size.ensures in sym (length-take-le _ _ (omega (arith, e.room, e.size)))

pub returns : goal.returns
returns c =
    let same = ap (told c.args.number c.args.file c.args.place c.args.state) (to_z-of_z c.ranges.remainder) in
    sentence-handed same c.compose-size.ensures c.hand_over.ensures
