-- `large_ks` meets its contract. The invariant is `Looking`.
use Prim.Native.Nat.{◌-◌}
use Rattle.rewriting.specs.definitions.RewriteAnswer.{passes_k}
use Rattle.rewritten_flows.specs.Flows.{multiplied_ks}
use Rattle.rewritten_flows.specs.KsLaws.{Looking}
use Rattle.rewritten_flows.proofs.large_ks.Given as goal

abbrev pub invariant-loop : goal.invariant-loop
invariant-loop l =
    Looking l.cert l.divisors (passes_k (multiplied_ks l.divisors l.cert l.ks l.initial.place.at)) (l.ks - l.counter) l.place.at
