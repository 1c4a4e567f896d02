-- `strong_condition` meets its contract.
use mathlib.Core.Path.{refl, sym, ◌∙◌}
use Rattle.bisimulation.proofs.argument.ChoiceLaws.{is_true, is_false}
use Rattle.rule_kind.specs.Steps.{strong_condition}
use Rattle.rule_kind.proofs.strong_condition.Goals as goal

pub returns-then-is_own : goal.returns-then-is_own
unfolding strong_condition
returns-then-is_own c = is_true _ (sym c.is_own.ensures ∙ c.if-is_own.true) refl

pub returns : goal.returns
unfolding strong_condition
returns c = is_false _ (sym c.is_own.ensures ∙ c.if-is_own.false) refl
