-- `scan_cost_model` meets its contract: the cost record follows a sound model.
use Rattle.std.proofs.lemmas.Result.{err_from_is_err_and}
use Rattle.cost_model.specs.CostsRead.{sound-fits, cost-scans, cost-refused}
use Rattle.cost_model.proofs.scan_cost_model.Goals as goal

pub returns-in_err-m : goal.returns-in_err-m
returns-in_err-m c =
    let p = err_from_is_err_and c.from_residual.result c.from_residual.ensures.1 in
    rw (p.1, p.2) (cost-refused _ c.in_err-m.ensures)

pub scan_costs-requires : goal.scan_costs-requires
scan_costs-requires c = sound-fits _ c.in_ok-m.ensures

pub returns : goal.returns
returns c = cost-scans _ c.in_ok-m.ensures c.scan_costs.result c.scan_costs.ensures
