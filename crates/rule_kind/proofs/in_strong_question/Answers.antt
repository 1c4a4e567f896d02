-- `in_strong_question` meets its contract: by the layer.
use mathlib.Core.Path.{refl}
use native.Mathlib.Omega.{arith}
use Rattle.bisimulation.proofs.argument.ChoiceLaws.{same, not_same}
use Rattle.rule_kind.specs.Steps.{strong_question}
use Rattle.rule_kind.proofs.in_strong_question.Goals as goal

pub returns-then-layer-ne1 : goal.returns-then-layer-ne1
unfolding strong_question
returns-then-layer-ne1 c = not_same _ (λ e. omega arith) refl

pub returns : goal.returns
unfolding strong_question
returns c = same _ (omega arith) c.is_own.ensures
