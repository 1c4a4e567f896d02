-- `write_pairs` meets its contract. The invariant is `Pairing`.
use Rattle.rules.specs.definitions.Reading.{entries_at}
use Rattle.transition.specs.EntriesLeft.{entries_left}
use Rattle.composed_moves.specs.MoveRecords.{pairs_at}
use Rattle.composed_moves.specs.MoveRecordsLaws.{Pairing}
use Rattle.composed_moves.proofs.write_pairs.Given as goal

abbrev pub invariant-loop-entry : goal.invariant-loop-entry
invariant-loop-entry l =
    Pairing l.n (entries_at l.right l.right_count l.right_first.at) (pairs_at l.n l.left l.count l.fn.first.at l.right l.right_count l.right_first.at) l.at l.initial.out (entries_left l.entry-iterator) l.out l.next
