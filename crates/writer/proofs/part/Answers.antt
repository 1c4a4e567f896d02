-- `part` meets its contract: the bytes fill the part that is lent.
use Rattle.writer.specs.AppendsLaws.{append-copied}
use native.Mathlib.Omega.{arith}
use Rattle.writer.proofs.part.Goals as goal

pub returns : goal.returns
returns c = append-copied _ _ _ _ (omega arith) (omega (arith, c.requires)) c.copy_from_slice.ensures.after
