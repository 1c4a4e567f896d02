-- `in_question` meets its contract: by the kind of the rule.
use mathlib.Core.Path.{sym, ◌∙◌}
use Rattle.rule_kind.specs.StepsLaws.{weak-question, strong-question}
use Rattle.rule_kind.proofs.in_question.Goals as goal

pub returns-then-is_strong : goal.returns-then-is_strong
returns-then-is_strong c = c.in_strong_question.ensures ∙ strong-question _ (sym c.is_strong.ensures ∙ c.if-is_strong.true) _ _ _ _ _

pub returns : goal.returns
returns c = c.in_weak_question.ensures.is ∙ weak-question _ (sym c.is_strong.ensures ∙ c.if-is_strong.false) _ _ _ _ _
