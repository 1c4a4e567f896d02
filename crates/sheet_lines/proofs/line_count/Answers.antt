-- `line_count` meets its contract.
use native.Mathlib.Omega.{arith}
use Rattle.block_sheet.specs.definitions.Sheet.{line_count}
use Rattle.sheet_lines.proofs.line_count.Goals as goal

pub returns : goal.returns
unfolding line_count
returns c = omega (arith, c.div_ceil.ensures)
