-- `is_long` meets its contract.
use Rattle.std.specs.Int.{from_bool}
use Rattle.std.proofs.Common.{◌∙◌}
use Rattle.composed_size.specs.CountedLaws.{chosen}
use Rattle.composed_size.proofs.is_long.Goals as goal

pub returns : goal.returns
returns c = c.from.ensures ∙ chosen from_bool _ _
