-- `file_answer` meets its contract: one answer without room, one with it.
use native.Mathlib.Omega.{arith}
use Rattle.answer.proofs.file_answer.Goals as goal

pub returns-then-room-size : goal.returns-then-room-size
returns-then-room-size c = record { few = λ h. c.without_place.ensures; enough = λ h. absurd (omega arith) }

pub returns : goal.returns
returns c = record { few = λ h. absurd (omega arith); enough = λ h. c.without_place-2.ensures }
