-- `same` meets its contract.
use Rattle.std.proofs.Common.{◌∙◌}
use Rattle.text_fields.specs.FieldLaws.{same-pointwise}
use Rattle.text_fields.proofs.same.Goals as goal

pub returns : goal.returns
returns c = c.eq.ensures ∙ same-pointwise _ _
