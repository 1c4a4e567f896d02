-- `write_parts` meets its contract: the labels stand in a table of their own, the records in the buffer they were written in.
use native.Mathlib.Omega.{arith}
use mathlib.Core.Path.{sym}
use lib.Seq.{length-take-le}
use Rattle.merged_model.specs.FileLaws.{parts-few, actions-few, labels-fit, can_write, parts-written}
use Rattle.merged_model.proofs.write_parts.Goals as goal

pub write_labels-requires : goal.write_labels-requires
write_labels-requires c = labels-fit c.args.model.known c.requires

pub slice_bounds-labels-end : goal.slice_bounds-labels-end
slice_bounds-labels-end c =
    omega (arith, parts-few c.args.model.known c.requires)

pub slice_bounds-write_model-end : goal.slice_bounds-write_model-end
slice_bounds-write_model-end c =
    sym (length-take-le _ _ (omega (arith, parts-few c.args.model.known c.requires)))

pub write_model-requires : goal.write_model-requires
write_model-requires c =
    let known = c.args.model.known in
    let asked = c.requires in
    can_write known asked c.write_labels.ensures (omega (arith, actions-few known asked c.head_at-m.ensures)) (omega (arith, parts-few known asked))

pub returns : goal.returns
returns c =
    parts-written c.args.model.known c.requires c.write_labels.ensures c.head_at-m.ensures.actions c.write_model.ensures
