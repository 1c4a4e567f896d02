-- `is_name` meets its contract. The invariant: whether the bytes up to here are all shown.
use Rattle.text_fields.specs.FieldLaws.{ShownTo}
use Rattle.text_fields.proofs.is_name.Given as goal

abbrev pub invariant-loop-b : goal.invariant-loop-b
invariant-loop-b l = ShownTo l.s l.b-index l.shown
