-- `remove` meets its contract: each call clears one bit.
use Rattle.std.proofs.Common.{ap, ◌∙◌}
use Rattle.pairs.specs.Rows.{cleared_rows, removed_rows}
use Rattle.pairs.proofs.remove.Goals as goal

pub returns : goal.returns
unfolding removed_rows
returns c = c.put-2.ensures ∙ ap (cleared_rows _ _) c.put.ensures
