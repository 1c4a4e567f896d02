-- `write_transitions` meets its contract. The invariant is `Changing`.
use Rattle.joined.specs.definitions.Joined.{raised_transition}
use Rattle.writer.specs.ChangedRecords.{Changing}
use Rattle.raised.specs.RaisedLaws.{raised-count}
use Rattle.raised.proofs.write_transitions.Given as goal

abbrev pub invariant-loop-r : goal.invariant-loop-r
invariant-loop-r l = Changing (raised_transition l.k) (raised-count l.k) l.model.file.now l.model.transitions l.at l.initial.out l.r l.out l.next
