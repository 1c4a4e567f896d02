-- `has` meets its contract: the shift and the mask tell the bit.
use native.Mathlib.Omega.{arith}
use Rattle.word.specs.BitsLaws.{bit_of-tested}
use Rattle.word.proofs.has.Goals as goal

pub returns : goal.returns
returns c = bit_of-tested _ _ _ _ (omega arith) (omega arith)
