-- `scan` meets its contract: each kind by the reader of its own.
use mathlib.Core.Path.{sym, ◌∙◌}
use Rattle.judgement.specs.KindsRead.{scans-costs, scans-whole}
use Rattle.judgement.proofs.scan.Goals as goal

pub returns-then-has_costs : goal.returns-then-has_costs
returns-then-has_costs c = scans-costs c.args.kind c.args.terms (sym c.has_costs.ensures ∙ c.if-has_costs.true) c.scan_cost_model.ensures

pub returns : goal.returns
returns c = scans-whole c.args.kind c.args.terms (sym c.has_costs.ensures ∙ c.if-has_costs.false) c.scan_whole.ensures
