-- `write_row` meets its contract. The invariant is `StateLoop`.
use Rattle.transition.specs.Known.{automaton_in}
use Rattle.composed_states.specs.Records.{state_records}
use Rattle.composed_file.specs.StateLoops.{StateLoop}
use Rattle.composed_file.proofs.write_row.Given as goal

abbrev pub invariant-loop-e : goal.invariant-loop-e
invariant-loop-e l =
    StateLoop (automaton_in l.right.file.now) l.right.model.transitions (state_records l.left.file.now l.right.file.now l.from.state) l.at l.initial.out l.first l.e l.out l.next
