-- `lowered` meets its contract, by the laws of a number moved down.
use native.Mathlib.Omega.{arith}
use mir.Facts.{to_z-of_z}
use Rattle.field.specs.TakenLaws.{lowered-fits, lowered_is}
use Rattle.field.proofs.lowered.Goals as goal

pub overflow_sub-result : goal.overflow_sub-result
overflow_sub-result c = lowered-fits c.args.x (omega arith)

pub returns : goal.returns
returns c = rw (to_z-of_z (overflow_sub-result c)) (lowered_is c.args.x (omega arith))
