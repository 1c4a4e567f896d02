-- `take_ks` meets its contract. The invariant is `TakingKs`.
use Rattle.std.proofs.Common.{◌-◌}
use Rattle.rule_kind.specs.Kinds.{rule_of, cost_in}
use Rattle.entries_k.specs.KEntriesLaws.{TakingKs}
use Rattle.entries_k.proofs.take_ks.Given as goal

abbrev pub invariant-loop : goal.invariant-loop
invariant-loop l =
    TakingKs (rule_of l.kind l.model.file.now) (cost_in l.kind l.model.file.now) l.model.file.now l.cert l.action l.t l.initial.place.at l.entries l.initial.remainders l.remainders (l.entries - l.counter) l.place.at l.lowest l.nonzero l.paid
