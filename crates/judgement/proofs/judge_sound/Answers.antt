-- `judge_sound` meets its contract: each case of the judge's answer is a verdict.
use native.Mathlib.Omega.{arith}
use mathlib.Core.Path.{refl}
use Rattle.answer.specs.AnsweredLaws.{refusal-as}
use Rattle.judgement.specs.VerdictLaws.{short-as, unaccepted-inside, unaccepted-as, accepted-as}
use Rattle.judgement.proofs.judge_sound.Goals as goal

pub returns-then-room-model : goal.returns-then-room-model
returns-then-room-model c = short-as _ _ _ _ _ c.args.model.known c.requires (omega arith) c.refused.ensures

pub judge_certificate-requires : goal.judge_certificate-requires
judge_certificate-requires c = c.requires.stands

pub returns-in-Ok : goal.returns-in-Ok
returns-in-Ok c = accepted-as _ _ _ _ _ c.args.model.known c.requires refl c.in-Ok.ensures (omega arith)

pub refused_in-requires : goal.refused_in-requires
refused_in-requires c = omega (arith, unaccepted-inside c.args.kind c.args.model.file.now _ _ refl c.in-Err.ensures)

pub returns-in-Err : goal.returns-in-Err
returns-in-Err c = unaccepted-as _ _ _ _ _ _ c.args.model.known c.requires refl c.in-Err.ensures (omega arith) (refusal-as _ 2 _ _ c.refused_in.ensures (omega arith) (omega arith))
