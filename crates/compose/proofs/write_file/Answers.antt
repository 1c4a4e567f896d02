-- `write_file` meets its contract: the length is known before the first byte is written.
use mathlib.Core.Path.{refl}
use native.Mathlib.Omega.{arith}
use Rattle.answer.specs.AnsweredLaws.{written-short, written-whole}
use Rattle.writer.specs.AppendsLaws.{file-filled}
use Rattle.compose.specs.ComposeLaws.{few-sizes, composed-size, composed-room}
use Rattle.compose.proofs.write_file.Goals as goal

pub overflow_mul-states : goal.overflow_mul-states
overflow_mul-states c = omega (arith, few-sizes c.requires)

pub overflow_mul-size : goal.overflow_mul-size
overflow_mul-size c = omega (arith, few-sizes c.requires)

pub overflow_add-size : goal.overflow_add-size
overflow_add-size c = omega (arith, few-sizes c.requires)

pub overflow_add-size-2 : goal.overflow_add-size-2
overflow_add-size-2 c = omega (arith, few-sizes c.requires)

pub overflow_add-size-3 : goal.overflow_add-size-3
overflow_add-size-3 c = omega (arith, few-sizes c.requires)

pub write_composed-requires : goal.write_composed-requires
write_composed-requires c = composed-room c.requires refl (omega arith)

pub returns-then-size-out : goal.returns-then-size-out
returns-then-size-out c =
    written-whole _ (composed-size c.requires refl) (omega arith) (file-filled c.write_composed.ensures).1

pub returns-else-size-out : goal.returns-else-size-out
returns-else-size-out c = written-short _ (composed-size c.requires refl) (omega arith)
