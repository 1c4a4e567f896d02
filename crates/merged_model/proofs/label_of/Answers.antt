-- `label_of` meets its contract. The invariant: the states left have the label of all.
use native.Mathlib.Omega.{arith}
use mathlib.Core.Path.{refl, ◌∙◌}
use Rattle.bisimulation.proofs.argument.ChoiceLaws.{via, same, not_same}
use Rattle.merged_model.specs.LabelsLaws.{label-turn, label-end}
use Rattle.merged_model.proofs.label_of.Goals as goal

pub loop-v-init : goal.loop-v-init
loop-v-init c = refl

pub returns-then-block-b : goal.returns-then-block-b
returns-then-block-b c =
    let l = c.loop-v in
    (via (label-turn _ _ _ l.v (omega arith) (omega arith)) (same _ c.if-block-b.true refl) ∙ l.invariant, omega arith)

pub loop-v-preserved : goal.loop-v-preserved
loop-v-preserved c =
    let l = c.loop-v in
    via (label-turn _ _ _ l.v (omega arith) (omega arith)) (not_same _ c.if-block-b.false refl) ∙ l.invariant

pub returns : goal.returns
returns c =
    let l = c.loop-v in
    (via (label-end _ _ _ l.v (omega arith)) refl ∙ l.invariant, omega arith)
