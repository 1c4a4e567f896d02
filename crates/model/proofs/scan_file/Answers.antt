-- `scan_file` meets its contract: a fault of the head is the file's.
use Rattle.std.proofs.lemmas.Result.{err_from_is_err_and}
use Rattle.model.specs.Scanned.{scans, head-refused}
use Rattle.model.proofs.scan_file.Goals as goal

pub returns-in_err-head_fault : goal.returns-in_err-head_fault
returns-in_err-head_fault c =
    let p = err_from_is_err_and c.from_residual.result c.from_residual.ensures.1 in
    rw (p.1, p.2) (scans _ (head-refused c.args.terms _ _ c.in_err-head_fault.ensures) tt c.requires)
