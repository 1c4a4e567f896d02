-- `judge` meets its contract: the answer of the pair is handed back.
use mathlib.Core.Path.{refl}
use Rattle.answer.specs.HandingLaws.{handed-one}
use Rattle.judge.proofs.judge.Goals as goal

pub hand_back-requires : goal.hand_back-requires
hand_back-requires c = c.judge_answer-answer.ensures.outcome.inside

pub returns : goal.returns
returns c = handed-one _ _ c.hand_back.ensures refl refl c.judge_answer-answer.ensures refl
