-- `in_weak_question` meets its contract, case by case.
use mathlib.Core.Path.{refl}
use Rattle.bisimulation.proofs.argument.ChoiceLaws.{same, not_same}
use native.Mathlib.Omega.{arith}
use Rattle.rules.specs.definitions.PlainRule.{internal_in_question, external_in_question, plain_in_question}
use Rattle.rule_kind.specs.StepsLaws.{tells-layer}
use Rattle.rule_kind.proofs.in_weak_question.Goals as goal

pub returns-in-0-layer : goal.returns-in-0-layer
unfolding plain_in_question internal_in_question
returns-in-0-layer c = tells-layer _ _ _ (same _ (omega arith) (same _ (omega arith) refl))

pub returns-in-1 : goal.returns-in-1
unfolding plain_in_question internal_in_question
returns-in-1 c = tells-layer _ _ _ (same _ (omega arith) (not_same _ (omega arith) (same _ (omega arith) refl)))

pub returns-in-2 : goal.returns-in-2
unfolding plain_in_question internal_in_question
returns-in-2 c = tells-layer _ _ _ (same _ (omega arith) (not_same _ (omega arith) (not_same _ (omega arith) (same _ (omega arith) refl))))

pub returns-in_default-layer : goal.returns-in_default-layer
unfolding plain_in_question internal_in_question
returns-in_default-layer c = tells-layer _ _ _ (same _ (omega arith) (not_same _ (omega arith) (not_same _ (omega arith) (not_same _ (omega arith) refl))))

pub returns-in-0-layer-2 : goal.returns-in-0-layer-2
unfolding plain_in_question external_in_question
returns-in-0-layer-2 c = tells-layer _ _ _ (not_same _ (omega arith) (same _ (omega arith) refl))

pub returns-in-1-layer : goal.returns-in-1-layer
unfolding plain_in_question external_in_question
returns-in-1-layer c = tells-layer _ _ _ (not_same _ (omega arith) (not_same _ (omega arith) (same _ (omega arith) refl)))

pub returns-in-2-layer : goal.returns-in-2-layer
unfolding plain_in_question external_in_question
returns-in-2-layer c = tells-layer _ _ _ (not_same _ (omega arith) (not_same _ (omega arith) (not_same _ (omega arith) (same _ (omega arith) refl))))

pub returns-in_default-layer-2 : goal.returns-in_default-layer-2
unfolding plain_in_question external_in_question
returns-in_default-layer-2 c = tells-layer _ _ _ (not_same _ (omega arith) (not_same _ (omega arith) (not_same _ (omega arith) (not_same _ (omega arith) refl))))
