-- `write_file` meets its contract. The invariant is `Writing`.
use Prim.Native.Nat.{◌-◌}
use lib.ListN.{length}
use Rattle.rewritten_flows.specs.FlowLoops.{Writing}
use Rattle.rewritten_flows.proofs.write_file.Given as goal

abbrev pub invariant-loop-at : goal.invariant-loop-at
invariant-loop-at l = Writing l.cert l.divisors l.initial.at l.initial.out l.at l.out

abbrev pub decreases-loop-at : goal.decreases-loop-at
decreases-loop-at l = length l.cert - l.at
