-- `pair` meets its contract.
use native.Mathlib.Omega.{arith}
use mathlib.Core.Path.{refl}
use Rattle.writer.specs.AppendsLaws.{append-pair}
use Rattle.writer.proofs.pair.Goals as goal

pub returns : goal.returns
returns c = append-pair (omega arith) refl refl c.byte-low.ensures c.byte.ensures
