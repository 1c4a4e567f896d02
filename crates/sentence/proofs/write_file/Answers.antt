-- `write_file` meets its contract: the length is known before the first byte is written.
use mathlib.Core.Path.{refl}
use native.Mathlib.Omega.{arith}
use Rattle.writer.specs.AppendsLaws.{file-filled}
use Rattle.answer.specs.AnsweredLaws.{written-short, written-whole}
use Rattle.sentence.proofs.write_file.Goals as goal

pub returns-then-size-out : goal.returns-then-size-out
returns-then-size-out c = written-whole _ refl (omega arith) (file-filled c.part.ensures).1

pub returns-else-size-out : goal.returns-else-size-out
returns-else-size-out c = written-short _ refl (omega arith)
