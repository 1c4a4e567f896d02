-- `number` meets its contract.
use native.Mathlib.Omega.{arith}
use Rattle.std.proofs.Common.{rules, ◌≡◌, ◌<◌, length, get_or}
use Rattle.text_fields.specs.FieldLaws.{number-none, number-zero, number-read}
use Rattle.text_fields.proofs.number.Goals as goal
use Rattle.text_fields.proofs.number.Goals.{else-s-gt1-via-then-s-gt1+else-s-eq48, else-s-gt1-via-else-s-gt1}

pub returns-then-is_empty : goal.returns-then-is_empty
returns-then-is_empty c = number-none _ _ (search rules)

pub returns-then-s-eq48 : goal.returns-then-s-eq48
returns-then-s-eq48 c = number-zero _ _ (omega arith) c.if-s-eq48.true

pub returns : goal.returns
returns c =
    let zero : 1 < length c.args.s.now → get_or c.args.s.now 0 0 ≡ 0x30 → ⊥ = λ more e. elim c.else-s-gt1.branch [
      | else-s-gt1-via-then-s-gt1+else-s-eq48 w ↦ w.if-s-eq48.false e
      | else-s-gt1-via-else-s-gt1 w ↦ omega (arith, w.if-s-gt1.false)
    ] in
    number-read _ c.args.s.now _ (search rules) zero c.digits.ensures
