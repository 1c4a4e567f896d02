-- `has_move` meets its contract: by the kind of the rule.
use mathlib.Core.Path.{sym, ◌∙◌}
use Rattle.rule_kind.specs.StepsLaws.{weak-move, strong-move}
use Rattle.rule_kind.proofs.has_move.Goals as goal

pub returns-then-is_strong : goal.returns-then-is_strong
returns-then-is_strong c = strong-move _ (sym c.is_strong.ensures ∙ c.if-is_strong.true) _

pub returns : goal.returns
returns c = weak-move _ (sym c.is_strong.ensures ∙ c.if-is_strong.false) _
