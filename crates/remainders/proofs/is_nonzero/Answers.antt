-- `is_nonzero` meets its contract.
use Rattle.std.proofs.Common.{◌∙◌}
use Rattle.remainders.specs.NonzeroLaws.{nonzero-byte}
use Rattle.remainders.proofs.is_nonzero.Goals as goal

pub returns : goal.returns
returns c = c.from.ensures ∙ nonzero-byte c.ranges.number
