-- `write_flows` meets its contract. The invariant is `Against`.
use Rattle.largest.specs.LargestLaws.{Against}
use Rattle.largest.proofs.write_flows.Given as goal

abbrev pub invariant-loop-t : goal.invariant-loop-t
invariant-loop-t l = Against l.n l.count l.at l.initial.out l.t l.out l.next
