-- `entries_at` meets its contract. The invariant: the entries left have the fault of all, where the states so far are in range.
use Rattle.rules.proofs.argument.ReadingLaws.{EntriesSoFar}
use Rattle.rules.specs.definitions.Reading.{entries_fault}
use Prim.Native.Nat.{◌+◌, ◌-◌, ◌*◌, ◌≤◌}
use mathlib.Core.Path.{◌≡◌}
use Rattle.transition_entries.proofs.entries_at.Given as goal

abbrev pub invariant-loop : goal.invariant-loop
invariant-loop l =
    (l.place.at + 3 * (l.count - l.counter) ≡ l.initial.place.at + 3 * l.count)
    × (l.total + 65536 * (l.count - l.counter) ≤ 65536 * l.count)
    × (EntriesSoFar l.s l.n l.denominator (l.count - l.counter) l.place.at l.lowest l.total (entries_fault l.s l.n l.denominator l.count l.initial.place.at 0 0))
