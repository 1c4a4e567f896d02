-- `with_name` meets its contract.
use native.Mathlib.Omega.{arith}
use Rattle.prism_names.specs.NamesLaws.{name-known, name_new}
use Rattle.prism_names.proofs.with_name.Goals as goal

pub returns-then-action-count : goal.returns-then-action-count
returns-then-action-count c = name-known _ _ _ (omega arith)

pub returns : goal.returns
returns c = name_new _ _ _ _ _ (omega arith) (omega arith) (omega arith)
