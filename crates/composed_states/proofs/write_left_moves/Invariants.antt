-- `write_left_moves` meets its contract. The invariant is `RunLoop`.
use Rattle.transition.specs.Known.{automaton_in}
use Rattle.composed_states.specs.Records.{left_move_records}
use Rattle.composed_states.specs.RunLoops.{RunLoop}
use Rattle.composed_states.proofs.write_left_moves.Given as goal

abbrev pub invariant-loop-q : goal.invariant-loop-q
invariant-loop-q l =
    RunLoop (automaton_in l.left.file.now) l.fn.from (left_move_records l.left.file.now l.right.file.now l.fn.from.state l.run.state) l.at l.initial.out l.q l.out l.next
