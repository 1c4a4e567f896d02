-- `digits` meets its contract. The invariant: v is the value up to here, and those behind are read with it.
use native.Mathlib.Omega.{arith}
use Rattle.text_fields.specs.FieldLaws.{digits-next, digits-stop, digits-end}
use Rattle.text_fields.proofs.digits.Goals as goal

pub returns-in_err-v : goal.returns-in_err-v
returns-in_err-v c = rw c.from_residual.ensures (digits-stop c.loop-b.invariant (omega arith) c.in_err-v.ensures)

pub loop-b-preserved : goal.loop-b-preserved
loop-b-preserved c =
    digits-next c.loop-b.invariant (omega arith) c.in_ok-v.ensures.0 c.in_ok-v.ensures.1

pub returns : goal.returns
returns c = digits-end c.loop-b.invariant (omega arith)
