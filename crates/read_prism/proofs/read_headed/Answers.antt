-- `read_headed` meets its contract: the head or a line is refused, or the model is written.
use native.Mathlib.Omega.{arith}
use Rattle.answer.specs.AnsweredLaws.{refusal-as}
use Rattle.read_prism.specs.PrismLaws.{head-broken, refused_says, lines-refused, lines-written}
use Rattle.read_prism.proofs.read_headed.Goals as goal

pub returns-in_default : goal.returns-in_default
returns-in_default c = refused_says _ _ (head-broken c.requires c.in_default.ensures) (omega arith) c.refused_at.ensures

pub returns-in-Ok : goal.returns-in-Ok
returns-in-Ok c = lines-written c.requires c.in-Some.ensures c.in-Ok.ensures.read _ c.write_held.ensures

pub refused_in-requires : goal.refused_in-requires
refused_in-requires c = c.in-Err.ensures.read.inside

pub returns-in-Err : goal.returns-in-Err
returns-in-Err c = lines-refused c.requires c.in-Some.ensures _ c.in-Err.ensures.read (refusal-as _ 1 _ _ c.refused_in.ensures (omega arith) (omega arith))
