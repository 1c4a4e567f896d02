-- `write_repeated` meets its contract. The invariant is `Repeating`.
use Prim.Native.Nat.{◌-◌}
use Rattle.largest.specs.Repeated.{Repeating}
use Rattle.largest.proofs.write_repeated.Given as goal

abbrev pub invariant-loop : goal.invariant-loop
invariant-loop l = Repeating l.bytes l.count l.at l.initial.out (l.count - l.counter) l.out l.next
