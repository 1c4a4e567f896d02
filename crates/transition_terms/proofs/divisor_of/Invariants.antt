-- `divisor_of` meets its contract. The invariant: the divisor so far with the weights left is that of all.
use Prim.Native.Nat.{◌+◌, ◌-◌, ◌*◌}
use mathlib.Core.Path.{◌≡◌}
use Rattle.numbers.specs.definitions.Divisor.{divisor_of}
use Rattle.transition_terms.specs.Divisors.{weights_at, divisor_at}
use Rattle.transition_terms.proofs.divisor_of.Given as goal

abbrev pub invariant-loop : goal.invariant-loop
invariant-loop l =
    (l.place.at + 3 * (l.count - l.counter) ≡ l.initial.place.at + 3 * l.count)
    × (divisor_of l.shared (weights_at l.s (l.count - l.counter) l.place.at) ≡ divisor_at l.s l.count l.initial.place.at)
