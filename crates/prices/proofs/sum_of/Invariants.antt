-- `sum_of` meets its contract. The invariant is `Summing`.
use Rattle.std.proofs.Common.{◌-◌}
use Rattle.rules.specs.definitions.Reading.{entries_at}
use Rattle.prices.specs.Adding.{Summing}
use Rattle.prices.proofs.sum_of.Given as goal

abbrev pub invariant-loop : goal.invariant-loop
invariant-loop l = Summing l.s l.prices (entries_at l.s l.count l.at) (l.count - l.counter) l.place.at l.sum
