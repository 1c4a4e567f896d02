-- `w_departure` meets its contract, with a move and without.
use mathlib.Core.Path.{sym, ◌∙◌}
use Rattle.rule_kind.specs.StepsLaws.{w-after, w-before}
use Rattle.rule_kind.proofs.w_departure.Goals as goal

pub returns-then-not-has_move : goal.returns-then-not-has_move
returns-then-not-has_move c = sym (w-before _ _ (sym c.has_move.ensures ∙ c.if-not-has_move.true))

pub returns : goal.returns
returns c = sym (w-after _ _ (sym c.has_move.ensures ∙ c.if-not-has_move.false))
