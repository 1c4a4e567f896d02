-- `write_partners` meets its contract. The invariant is `RunLoop`.
use Rattle.transition.specs.Known.{automaton_in}
use Rattle.composed_states.specs.Records.{partner_record}
use Rattle.composed_states.specs.RunLoops.{RunLoop}
use Rattle.composed_states.proofs.write_partners.Given as goal

abbrev pub invariant-loop-partner : goal.invariant-loop-partner
invariant-loop-partner l =
    RunLoop (automaton_in l.right.file.now) l.fn.run (partner_record l.left.file.now l.right.file.now l.q l.fn.run.state) l.at l.initial.out l.partner l.out l.next
