-- `first_large` meets its contract. The invariant is `Searching`.
use Prim.Native.Nat.{◌-◌}
use lib.ListN.{length}
use Rattle.rewritten_flows.specs.FlowLoops.{Searching}
use Rattle.rewritten_flows.proofs.first_large.Given as goal

abbrev pub invariant-loop-at : goal.invariant-loop-at
invariant-loop-at l = Searching l.cert l.divisors l.start l.at

abbrev pub decreases-loop-at : goal.decreases-loop-at
decreases-loop-at l = length l.cert - l.at
