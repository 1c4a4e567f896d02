-- `write_own_moves` meets its contract. The invariant is `RunLoop`.
use Rattle.transition.specs.Known.{automaton_in}
use Rattle.composed_states.specs.Own.{own_record_from}
use Rattle.composed_states.specs.RunLoops.{RunLoop}
use Rattle.composed_states.proofs.write_own_moves.Given as goal

abbrev pub invariant-loop-r : goal.invariant-loop-r
invariant-loop-r l =
    RunLoop (automaton_in l.right.file.now) l.fn.run (own_record_from l.actions l.right.file.now l.s l.fn.run.state) l.at l.initial.out l.r l.out l.next
