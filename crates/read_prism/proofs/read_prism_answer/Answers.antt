-- `read_prism_answer` meets its contract: no line is ended, or the head line is.
use native.Mathlib.Omega.{arith}
use Rattle.read_prism.specs.PrismLaws.{unended, refused_says, with-demands}
use Rattle.read_prism.proofs.read_prism_answer.Goals as goal

pub returns-then-end-text : goal.returns-then-end-text
returns-then-end-text c = with-demands _ _ (refused_says _ _ (unended c.piece_end-end.ensures c.if-end-text.true) (omega arith) c.refused_at.ensures)

pub returns : goal.returns
returns c = with-demands _ _ c.read_headed.ensures
