-- `write_ks` meets its contract. The invariant is `WritingKs`.
use Prim.Native.Nat.{◌-◌}
use Rattle.rules.specs.definitions.Encoding.{list_bytes, k_bytes}
use Rattle.rewritten_flows.specs.Flows.{multiplied_ks}
use Rattle.rewritten_flows.specs.KsLaws.{WritingKs}
use Rattle.rewritten_flows.proofs.write_ks.Given as goal

abbrev pub invariant-loop : goal.invariant-loop
invariant-loop l =
    WritingKs l.cert l.divisors (list_bytes k_bytes (multiplied_ks l.divisors l.cert l.ks l.initial.place.at)) l.initial.place.at l.initial.out (l.ks - l.counter) l.place.at l.out
