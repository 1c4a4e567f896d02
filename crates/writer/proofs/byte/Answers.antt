-- `byte` meets its contract.
use native.Mathlib.Omega.{arith}
use Rattle.writer.specs.AppendsLaws.{append-byte}
use Rattle.writer.proofs.byte.Goals as goal

pub returns : goal.returns
returns c = append-byte _ _ _ (omega arith)
