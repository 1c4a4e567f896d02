-- `write_sheet` meets its contract: the length is known before the first byte is written.
use native.Mathlib.Omega.{arith}
use Rattle.answer.specs.AnsweredLaws.{written-short, written-whole}
use Rattle.writer.specs.AppendsLaws.{file-filled}
use Rattle.sheet_blocks.proofs.write_sheet.Goals as goal

pub returns-then-size-out : goal.returns-then-size-out
returns-then-size-out c = written-whole _ c.sheet_length-size.ensures (omega arith) (file-filled c.write_blocks.ensures).1

pub returns-else-size-out : goal.returns-else-size-out
returns-else-size-out c = written-short _ c.sheet_length-size.ensures (omega arith)
