-- `with_digit` meets its contract.
use native.Mathlib.Omega.{arith}
use Rattle.text_fields.specs.FieldLaws.{digit-other, digit-read, digit-many}
use Rattle.text_fields.proofs.with_digit.Goals as goal

pub returns-then-not-is_ascii_digit : goal.returns-then-not-is_ascii_digit
returns-then-not-is_ascii_digit c = digit-other _ _ _ c.if-not-is_ascii_digit.ensures.cases

pub returns-then-value-lt-NUMBERS : goal.returns-then-value-lt-NUMBERS
returns-then-value-lt-NUMBERS c =
    let r = c.if-not-is_ascii_digit.ensures.cases in
    rw c.from.ensures (digit-read _ _ _ r.0 r.1 (omega arith), omega arith)

pub returns : goal.returns
returns c =
    let r = c.if-not-is_ascii_digit.ensures.cases in
    digit-many _ _ _ r.0 r.1 (omega arith)
