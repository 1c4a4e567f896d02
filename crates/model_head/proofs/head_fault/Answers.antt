-- `head_fault` meets its contract: the record is opened, then its ranges are judged.
use Rattle.std.proofs.lemmas.Result.{err_from_is_err_and}
use Rattle.rules.specs.definitions.Limits.{limits}
use Rattle.rules.specs.definitions.Faults.{model_record}
use Rattle.rules.specs.definitions.Reading.{head_fault, range_fault}
use Rattle.rules.proofs.argument.FaultLaws.{model-refuses, opened}
use Rattle.fault.specs.FaultsLaws.{found_passes, placed-as, at-place, first-found, past-found}
use Rattle.model_head.specs.HeadLaws.{of-head}
use Rattle.model_head.proofs.head_fault.Goals as goal

pub returns-in_err-open_model : goal.returns-in_err-open_model
unfolding head_fault
returns-in_err-open_model c =
    let p = err_from_is_err_and c.from_residual.result c.from_residual.ensures.1 in
    rw (p.1, p.2) (first-found _ c.in_err-open_model.ensures)

pub head_at-head-requires : goal.head_at-head-requires
head_at-head-requires c = (opened model_record 0x5041 6 _ 0 model-refuses (found_passes c.open_model.ensures.is c.in_ok-open_model.was)).whole

pub returns : goal.returns
unfolding head_fault
returns c =
    placed-as (at-place _ _ c.at_place.ensures c.range_fault.ensures)
    (past-found c.open_model.ensures.is c.in_ok-open_model.was (of-head (range_fault limits) c.head_at-head.ensures))
