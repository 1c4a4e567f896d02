-- `piece_end` meets its contract. The invariant: no byte that parts lies between the beginning and here.
use Rattle.text_fields.specs.FieldLaws.{NoneParts}
use Rattle.text_fields.proofs.piece_end.Given as goal

abbrev pub invariant-loop-at : goal.invariant-loop-at
invariant-loop-at l = NoneParts l.s l.from l.parting l.at
