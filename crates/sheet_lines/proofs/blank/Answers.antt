-- `blank` meets its contract: four spaces.
use Rattle.block_sheet.specs.definitions.Sheet.{blank}
use Rattle.sheet_lines.proofs.blank.Goals as goal

pub returns : goal.returns
unfolding blank
returns c = c.part.ensures
