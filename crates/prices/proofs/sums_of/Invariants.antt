-- `sums_of` meets its contract. The invariant is `SummingBoth`.
use Rattle.std.proofs.Common.{◌-◌, ◌*◌}
use Rattle.rules.specs.definitions.Reading.{entries_at}
use Rattle.prices.specs.Adding.{SummingBoth}
use Rattle.prices.proofs.sums_of.Given as goal

abbrev pub invariant-loop : goal.invariant-loop
invariant-loop l = SummingBoth l.s l.first l.second (entries_at l.s l.count l.at) (l.count - 4 * l.counter) l.sums
