-- `zolkirta_sentence` meets its contract: the remainder is handed on as the machine reads it.
use mathlib.Core.Path.{ap}
use mir.Facts.{to_z-of_z}
use Rattle.sentence.specs.Sentence.{told}
use Rattle.sentence.specs.SentenceLaws.{sentence-as}
use Rattle.zolkirta.proofs.zolkirta_sentence.Goals as goal

pub returns : goal.returns
returns c =
    sentence-as (ap (told c.args.number c.args.file c.args.place c.args.state) (to_z-of_z c.ranges.remainder)) c.sentence_answer.ensures
