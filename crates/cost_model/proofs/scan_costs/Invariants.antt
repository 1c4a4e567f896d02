-- `scan_costs` meets its contract: the record is opened, then each cost is judged, then what is left of the file.
use Prim.Native.Nat.{◌+◌, ◌-◌}
use Rattle.cost_model.specs.CostsRead.{CostsLeft}
use Rattle.cost_model.proofs.scan_costs.Given as goal

abbrev pub invariant-loop : goal.invariant-loop
invariant-loop l = CostsLeft l.s l.count (l.m.end + 2) (l.count - l.counter) l.place.at
