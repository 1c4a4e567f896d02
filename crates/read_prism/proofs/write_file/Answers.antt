-- `write_file` meets its contract: the length is known before the first byte is written.
use mathlib.Core.Path.{refl}
use native.Mathlib.Omega.{arith}
use Rattle.read_prism.specs.PrismLaws.{zeros-taken, can_write, file-written, file-short}
use Rattle.read_prism.proofs.write_file.Goals as goal

pub write_model-requires : goal.write_model-requires
write_model-requires c = can_write c.requires (zeros-taken _ _ c.requires.states) (omega arith)

pub returns-then-size-out : goal.returns-then-size-out
returns-then-size-out c = file-written c.requires (zeros-taken _ _ c.requires.states) refl (omega arith) c.write_model.ensures

pub returns-else-size-out : goal.returns-else-size-out
returns-else-size-out c = file-short c.requires refl (omega arith)
