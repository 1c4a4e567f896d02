-- `write_label_row` meets its contract. The invariant is `Gathering`.
use Rattle.std.specs.Prelude.{◌<◌}
use native.Mathlib.Omega.{arith}
use Rattle.composed_size.specs.CountedLaws.{label-item}
use Rattle.composed_states.specs.Gathering.{gathering-start, gathering-turn, gathering-all}
use Rattle.composed_file.specs.LabelsLaws.{label-fits}
use Rattle.composed_file.proofs.write_label_row.Goals as goal

pub loop-own-init : goal.loop-own-init
loop-own-init c = gathering-start c.requires.room

pub overflow_mul-label : goal.overflow_mul-label
overflow_mul-label c = omega (arith, label-fits c.requires c.loop-own.invariant (omega arith))

pub overflow_add-label : goal.overflow_add-label
overflow_add-label c =
    let l = c.loop-own in
    let i : l.own-index < c.args.right.model.states = omega arith in
    omega (arith, label-item c.args.right.file.now c.args.right.model.states l.own-index i, label-fits c.requires l.invariant i)

pub byte-next-requires : goal.byte-next-requires
byte-next-requires c =
    let l = c.loop-own in
    let i : l.own-index < c.args.right.model.states = omega arith in
    rw (label-item c.args.right.file.now c.args.right.model.states l.own-index i) (label-fits c.requires l.invariant i)

pub loop-own-preserved : goal.loop-own-preserved
loop-own-preserved c =
    let l = c.loop-own in
    let i : l.own-index < c.args.right.model.states = omega arith in
    gathering-turn l.invariant i (rw (label-item c.args.right.file.now c.args.right.model.states l.own-index i) at c.byte-next.ensures)

pub returns : goal.returns
returns c = gathering-all c.loop-own.invariant (omega arith)
