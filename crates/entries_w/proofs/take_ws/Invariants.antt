-- `take_ws` meets its contract. The invariant is `TakingWs`.
use Rattle.std.proofs.Common.{◌-◌}
use Rattle.entries_w.specs.WEntriesLaws.{TakingWs}
use Rattle.entries_w.proofs.take_ws.Given as goal

abbrev pub invariant-loop : goal.invariant-loop
invariant-loop l =
    TakingWs l.cert l.initial.place.at l.entries l.n l.rows l.d l.layer l.initial.remainders l.remainders l.initial.target l.target (l.entries - l.counter) l.place.at l.lowest l.nonzero l.target_nonzero
