-- `weak_condition` meets its contract, test by test.
use mathlib.Core.Path.{refl}
use native.Mathlib.Omega.{arith}
use Rattle.bisimulation.proofs.argument.ChoiceLaws.{same, not_same}
use Rattle.rule_kind.specs.Steps.{weak_condition}
use Rattle.rule_kind.proofs.weak_condition.Goals as goal

pub returns-then-action-challenger : goal.returns-then-action-challenger
unfolding weak_condition
returns-then-action-challenger c = same _ (omega arith) refl

pub returns-then-action-eq0 : goal.returns-then-action-eq0
unfolding weak_condition
returns-then-action-eq0 c = not_same _ (omega arith) (same _ (omega arith) refl)

pub returns : goal.returns
unfolding weak_condition
returns c = not_same _ (omega arith) (not_same _ (omega arith) refl)
