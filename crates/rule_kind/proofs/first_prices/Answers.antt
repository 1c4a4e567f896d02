-- `first_prices` meets its contract: by the kind of the rule.
use mathlib.Core.Path.{sym, ◌∙◌}
use Rattle.rule_kind.specs.StepsLaws.{weak-first, strong-first}
use Rattle.rule_kind.proofs.first_prices.Goals as goal

pub returns-then-is_strong : goal.returns-then-is_strong
returns-then-is_strong c = strong-first _ (sym c.is_strong.ensures ∙ c.if-is_strong.true) _

pub returns : goal.returns
returns c = weak-first _ (sym c.is_strong.ensures ∙ c.if-is_strong.false) _
