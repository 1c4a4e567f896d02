-- `hide_sound` meets its contract: 38, or the file.
use Rattle.answer.specs.AnsweredLaws.{file-stretch}
use Rattle.hide.proofs.hide_sound.Goals as goal

pub returns : goal.returns
returns c = file-stretch 38 _ _ c.write_file-size.ensures c.of_file.ensures
