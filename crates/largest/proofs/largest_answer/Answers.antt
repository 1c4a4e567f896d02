-- `largest_answer` meets its contract: 40, or what there is room for.
use mathlib.Core.Path.{sym, ◌∙◌}
use Rattle.bisimulation.proofs.argument.ChoiceLaws.{false-not}
use Rattle.largest_pair.proofs.argument.LargestAnswerLaws.{inside-within}
use Rattle.largest.specs.LargestLaws.{outside-refused}
use Rattle.largest.proofs.largest_answer.Goals as goal

pub returns-then-outside : goal.returns-then-outside
returns-then-outside c =
    outside-refused _ _ _ _ (sym c.if-outside.true ∙ c.outside.ensures) c.refused.ensures c.unwritten.ensures

pub write_pair-requires : goal.write_pair-requires
write_pair-requires c =
    inside-within _ _ _ (λ e. false-not (sym c.if-outside.false ∙ c.outside.ensures ∙ e))
