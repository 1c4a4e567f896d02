-- `write_composed` meets its contract: head, labels and records stand one behind the other.
use native.Mathlib.Omega.{arith}
use Rattle.composed_file.specs.FileLaws.{states-fit, head-fits, labels-fit, records-fit, file-written}
use Rattle.composed_file.proofs.write_composed.Goals as goal

pub overflow_mul-left : goal.overflow_mul-left
overflow_mul-left c = omega (arith, states-fit c.requires)

pub head-labels-requires : goal.head-labels-requires
head-labels-requires c =
    head-fits c.requires c.larger-actions.ensures

pub write_labels-records-requires : goal.write_labels-records-requires
write_labels-records-requires c =
    labels-fit c.requires c.larger-actions.ensures c.head-labels.ensures

pub write_moves-requires : goal.write_moves-requires
write_moves-requires c =
    records-fit c.requires c.larger-actions.ensures c.head-labels.ensures c.write_labels-records.ensures

pub returns : goal.returns
returns c =
    file-written c.requires c.larger-actions.ensures
    c.head-labels.ensures c.write_labels-records.ensures c.write_moves.ensures
