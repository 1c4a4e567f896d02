-- `write_moves` meets its contract. The invariant is `StateLoop`.
use Rattle.transition.specs.Known.{automaton_in}
use Rattle.composed_file.specs.ComposedFile.{row_records}
use Rattle.composed_file.specs.StateLoops.{StateLoop}
use Rattle.composed_file.proofs.write_moves.Given as goal

abbrev pub invariant-loop-s : goal.invariant-loop-s
invariant-loop-s l =
    StateLoop (automaton_in l.left.file.now) l.left.model.transitions (row_records l.left.file.now l.right.file.now) l.at l.initial.out l.first l.s l.out l.next
