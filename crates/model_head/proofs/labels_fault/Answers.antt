-- `labels_fault` meets its contract: the record is opened, then its labels are judged.
use native.Mathlib.Omega.{arith}
use mathlib.Core.Path.{refl}
use Rattle.std.proofs.lemmas.Result.{err_from_is_err_and}
use Rattle.rules.specs.definitions.Faults.{model_record}
use Rattle.rules.specs.definitions.Reading.{labels_fault}
use Rattle.rules.proofs.argument.FaultLaws.{model-refuses, opened}
use Rattle.fault.specs.FaultsLaws.{found_passes, placed-as, at-place, first-found, past-found}
use Rattle.model_head.proofs.labels_fault.Goals as goal

pub returns-in_err-open_model : goal.returns-in_err-open_model
unfolding labels_fault
returns-in_err-open_model c =
    let p = err_from_is_err_and c.from_residual.result c.from_residual.ensures.1 in
    rw (p.1, p.2) (first-found _ c.in_err-open_model.ensures)

pub label_fault-requires : goal.label_fault-requires
label_fault-requires c = omega (arith, (opened model_record 0x4C42 _ _ 6 model-refuses (found_passes c.open_model.ensures.is c.in_ok-open_model.was)).whole)

pub returns : goal.returns
unfolding labels_fault
returns c = placed-as (at-place _ _ c.at_place.ensures c.label_fault.ensures) (past-found c.open_model.ensures.is c.in_ok-open_model.was refl)
