-- `write_labels` meets its contract. The invariant is `Gathering`.
use Rattle.std.specs.Prelude.{◌<◌}
use native.Mathlib.Omega.{arith}
use Rattle.composed_size.specs.CountedLaws.{label-item}
use Rattle.composed_states.specs.Gathering.{gathering-turn}
use Rattle.composed_file.specs.LabelsLaws.{labels-start, labels-ask, labels-end}
use Rattle.composed_file.proofs.write_labels.Goals as goal

pub loop-label-init : goal.loop-label-init
loop-label-init c = labels-start c.requires

pub write_label_row-next-requires : goal.write_label_row-next-requires
write_label_row-next-requires c =
    let l = c.loop-label in
    let i : l.label-index < c.args.left.model.states = omega arith in
    rw (label-item c.args.left.file.now c.args.left.model.states l.label-index i) (labels-ask c.requires l.invariant i)

pub loop-label-preserved : goal.loop-label-preserved
loop-label-preserved c =
    let l = c.loop-label in
    let i : l.label-index < c.args.left.model.states = omega arith in
    gathering-turn l.invariant i (rw (label-item c.args.left.file.now c.args.left.model.states l.label-index i) at c.write_label_row-next.ensures)

pub returns : goal.returns
returns c = labels-end c.requires c.loop-label.invariant (omega arith)
