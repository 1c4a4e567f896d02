-- `write_entries` meets its contract. The invariant is `ChangingEntries`.
use mathlib.Core.List.{map}
use Rattle.rules.specs.definitions.Model.{entries_bytes}
use Rattle.rules.specs.definitions.Reading.{entries_at}
use Rattle.transition.specs.EntriesLeft.{entries_left}
use Rattle.writer.specs.ChangedRecords.{ChangingEntries}
use Rattle.placed_entries.specs.Placed.{placed_entry}
use Rattle.placed_entries.proofs.write_entries.Given as goal

abbrev pub invariant-loop-entry : goal.invariant-loop-entry
invariant-loop-entry l =
    let placed = placed_entry l.stride l.offset l.factor in
    ChangingEntries placed (entries_bytes (map placed (entries_at l.s l.count l.fn.first.at))) l.at l.initial.out (entries_left l.entry-iterator) l.out l.next
