-- `head_answer` meets its contract: the head is refused, or good.
use native.Mathlib.Omega.{arith}
use Rattle.answer.specs.AnsweredLaws.{refusal-as}
use Rattle.judgement.specs.VerdictLaws.{head-refused, head-good}
use Rattle.judgement.proofs.head_answer.Goals as goal

pub returns-in-Ok : goal.returns-in-Ok
returns-in-Ok c = head-good _ c.in-Ok.ensures

pub refused_in-requires : goal.refused_in-requires
refused_in-requires c = omega (arith, c.in-Err.ensures.at)

pub returns-in-Err : goal.returns-in-Err
returns-in-Err c = head-refused _ _ c.in-Err.ensures (refusal-as _ 1 _ _ c.refused_in.ensures (omega arith) (omega arith))
