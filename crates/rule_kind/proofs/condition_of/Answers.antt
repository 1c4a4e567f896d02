-- `condition_of` meets its contract: by the kind of the rule.
use mathlib.Core.Path.{sym, ◌∙◌}
use Rattle.rule_kind.specs.StepsLaws.{weak-conditions, strong-conditions}
use Rattle.rule_kind.proofs.condition_of.Goals as goal

pub returns-then-is_strong : goal.returns-then-is_strong
returns-then-is_strong c = c.strong_condition.ensures ∙ strong-conditions _ (sym c.is_strong.ensures ∙ c.if-is_strong.true) _ _ _ _

pub returns : goal.returns
returns c = c.weak_condition.ensures ∙ weak-conditions _ (sym c.is_strong.ensures ∙ c.if-is_strong.false) _ _ _ _
