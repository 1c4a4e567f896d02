-- `write_entries` meets its contract. The invariant is `Writing`.
use Rattle.merged_transition.specs.WeightsLaws.{Writing}
use Rattle.merged_transition.proofs.write_entries.Given as goal

abbrev pub invariant-loop-b : goal.invariant-loop-b
invariant-loop-b l = Writing l.initial.weights l.k l.count l.g l.initial.out l.at l.weights l.out l.b l.next
