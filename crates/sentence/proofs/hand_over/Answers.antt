-- `hand_over` meets its contract: 39, or the text.
use Rattle.answer.specs.AnsweredLaws.{file-stretch}
use Rattle.sentence.proofs.hand_over.Goals as goal

pub returns : goal.returns
returns c = file-stretch 39 _ _ c.write_file-size.ensures c.of_file.ensures
