-- `write_label_row` meets its contract. The invariant is `Gathering`.
use Rattle.composed_states.specs.Gathering.{Gathering}
use Rattle.composed_file.specs.Labels.{label_byte}
use Rattle.composed_file.proofs.write_label_row.Given as goal

abbrev pub invariant-loop-own : goal.invariant-loop-own
invariant-loop-own l = Gathering (label_byte l.label l.factor l.right.file.now) l.right.model.states l.at l.initial.out l.own-index l.out l.next
