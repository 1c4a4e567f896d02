-- `write_file` meets its contract: the length is known before the first byte is written.
use native.Mathlib.Omega.{arith}
use Rattle.answer.specs.AnsweredLaws.{written-short}
use Rattle.hide.specs.HideLaws.{hidden-size, hidden-written}
use Rattle.hide.proofs.write_file.Goals as goal

pub returns-then-size-out : goal.returns-then-size-out
returns-then-size-out c =
    hidden-written _ c.requires (omega arith) c.write_hidden.ensures

pub returns-else-size-out : goal.returns-else-size-out
returns-else-size-out c = written-short _ (hidden-size _ c.requires) (omega arith)
