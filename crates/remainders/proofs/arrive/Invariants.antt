-- `arrive` meets its contract. The invariant is `Arriving`.
use Rattle.transition.specs.Known.{entries_of}
use Rattle.transition.specs.EntriesLeft.{entries_left}
use Rattle.remainders.specs.MovingLaws.{Arriving}
use Rattle.remainders.proofs.arrive.Given as goal

abbrev pub invariant-loop-entry : goal.invariant-loop-entry
invariant-loop-entry l =
    Arriving (entries_of l.s l.r) l.factor l.first l.initial.remainders l.remainders (entries_left l.entry-iterator) l.now_nonzero
