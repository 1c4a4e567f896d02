-- `same` meets its contract: equal words have equal bits.
use native.Mathlib.Omega.{arith}
use Rattle.word.specs.BitsLaws.{are-same}
use Rattle.word.proofs.same.Goals as goal

pub returns : goal.returns
returns c = are-same _ _ (omega arith) (omega arith)
