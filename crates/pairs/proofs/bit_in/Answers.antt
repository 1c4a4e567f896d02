-- `bit_in` meets its contract: the remainder tells the place.
use native.Mathlib.Omega.{arith}
use Rattle.pairs.specs.RowsLaws.{bit-place}
use Rattle.pairs.proofs.bit_in.Goals as goal

pub returns : goal.returns
returns c = (bit-place _ (omega arith), omega arith)
