-- `probability` meets its contract.
use native.Mathlib.Omega.{arith}
use Rattle.std.proofs.Common.{rules, sym, ◌∙◌, eqb-true}
use Rattle.std.proofs.lemmas.Bool.{eqb-false}
use Rattle.text_fields.specs.FieldLaws.{parts-one, parts-other, parts-short, parts-long, parts_first, parts-second, parts-none, parts-scaled, positive-by}
use Rattle.text_fields.proofs.probability.Goals as goal
use Rattle.text_fields.proofs.probability.Goals.{then-s-lt3-via-then-s-lt3, then-s-lt3-via-else-s-lt3+then-s-gt6, then-s-lt3-via-else-s-lt3+else-s-gt6+then-s-ne48, then-s-lt3-via-else-s-lt3+else-s-gt6+else-s-ne48+then-s-ne46}

pub returns-then-s-eq1 : goal.returns-then-s-eq1
returns-then-s-eq1 c =
    positive-by _
    (λ e. (parts-one _ c.if-s-eq1.true (eqb-true _ _ e), omega arith))
    (λ e. sym (parts-other _ c.if-s-eq1.true (eqb-false _ _ e)))
    c.then_some.ensures

pub returns-then-s-lt3 : goal.returns-then-s-lt3
returns-then-s-lt3 c =
    sym (elim c.then-s-lt3.branch [
      | then-s-lt3-via-then-s-lt3 w ↦ parts-short _ c.if-s-eq1.false w.if-s-lt3.true
      | then-s-lt3-via-else-s-lt3+then-s-gt6 w ↦ parts-long _ w.if-s-gt6.true
      | then-s-lt3-via-else-s-lt3+else-s-gt6+then-s-ne48 w ↦ parts_first _ (omega arith) w.if-s-ne48.true
      | then-s-lt3-via-else-s-lt3+else-s-gt6+else-s-ne48+then-s-ne46 w ↦ parts-second _ (omega arith) w.if-s-ne46.true
    ])

pub returns-in_err-digits : goal.returns-in_err-digits
returns-in_err-digits c =
    rw c.from_residual.ensures (parts-none _ (omega arith) (omega arith) c.if-s-ne48.false c.if-s-ne46.false c.in_err-digits.ensures)

pub returns : goal.returns
returns c =
    let e = parts-scaled _ (omega arith) (omega arith) c.if-s-ne48.false c.if-s-ne46.false c.in_ok-digits.ensures c.scaled-parts.ensures in
    positive-by _ (λ t. (e, search rules)) (λ t. sym e ∙ search rules) c.then_some-2.ensures
