-- `digits` meets its contract. The invariant: v is the value up to here, and those behind are read with it.
use Rattle.text_fields.specs.FieldLaws.{DigitsTo}
use Rattle.text_fields.proofs.digits.Given as goal

abbrev pub invariant-loop-b : goal.invariant-loop-b
invariant-loop-b l = DigitsTo 65536 l.s l.b-index l.v
