-- `write_labels` meets its contract. The invariant is `Gathering`.
use Prim.Native.Nat.{◌+◌}
use Rattle.rules.specs.definitions.Bytes.{byte_at}
use Rattle.composed_states.specs.Gathering.{Gathering}
use Rattle.composed_file.specs.Labels.{label_row}
use Rattle.composed_file.proofs.write_labels.Given as goal

abbrev pub invariant-loop-label : goal.invariant-loop-label
invariant-loop-label l =
    Gathering (λ s. label_row (byte_at l.left.file.now (8 + s)) l.factor l.right.file.now l.right.model.states) l.left.model.states l.at l.initial.out l.label-index l.out l.next
