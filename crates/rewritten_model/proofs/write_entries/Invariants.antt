-- `write_entries` meets its contract. The invariant is `ChangingEntries`.
use mathlib.Core.List.{map}
use Rattle.rules.specs.definitions.Model.{entries_bytes}
use Rattle.rules.specs.definitions.LowestTerms.{divided_entry}
use Rattle.rules.specs.definitions.Reading.{entries_at}
use Rattle.transition.specs.EntriesLeft.{entries_left}
use Rattle.writer.specs.ChangedRecords.{ChangingEntries}
use Rattle.rewritten_model.proofs.write_entries.Given as goal

abbrev pub invariant-loop-entry : goal.invariant-loop-entry
invariant-loop-entry l =
    ChangingEntries (divided_entry l.g) (entries_bytes (map (divided_entry l.g) (entries_at l.s l.count l.fn.first.at))) l.at l.initial.out (entries_left l.entry-iterator) l.out l.next
