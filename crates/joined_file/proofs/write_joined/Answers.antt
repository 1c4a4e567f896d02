-- `write_joined` meets its contract: head, labels and records stand one behind the other.
use native.Mathlib.Omega.{arith}
use Rattle.joined_file.specs.JoinedFileLaws.{sums, head-fits, labels-fit, records-fit, file-written}
use Rattle.joined_file.proofs.write_joined.Goals as goal

pub head-labels-requires : goal.head-labels-requires
head-labels-requires c =
    head-fits c.requires c.larger-actions.ensures

pub write_labels-records-requires : goal.write_labels-records-requires
write_labels-records-requires c =
    labels-fit c.requires c.larger-actions.ensures c.head-labels.ensures

pub overflow_add-m-3 : goal.overflow_add-m-3
overflow_add-m-3 c = omega (arith, sums c.requires.models)

pub invariant_of-other : goal.invariant_of-other
invariant_of-other c = record { known = c.requires.models.known }

pub write_records-requires : goal.write_records-requires
write_records-requires c =
    records-fit c.requires c.larger-actions.ensures c.head-labels.ensures c.write_labels-records.ensures

pub returns : goal.returns
returns c =
    file-written c.requires c.larger-actions.ensures c.head-labels.ensures c.write_labels-records.ensures c.write_records.ensures
