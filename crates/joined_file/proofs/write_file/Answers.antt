-- `write_file` meets its contract: the length is known before the first byte is written.
use mathlib.Core.Path.{refl}
use native.Mathlib.Omega.{arith}
use Rattle.joined_file.specs.JoinedFileLaws.{joined-size, joined-room}
use Rattle.answer.specs.AnsweredLaws.{written-short, written-whole}
use Rattle.writer.specs.AppendsLaws.{file-filled}
use Rattle.joined_file.proofs.write_file.Goals as goal

pub write_joined-requires : goal.write_joined-requires
write_joined-requires c = joined-room c.requires refl (omega arith)

pub returns-then-size-out : goal.returns-then-size-out
returns-then-size-out c = written-whole _ (joined-size c.requires refl) (omega arith) (file-filled c.write_joined.ensures).1

pub returns-else-size-out : goal.returns-else-size-out
returns-else-size-out c = written-short _ (joined-size c.requires refl) (omega arith)
