-- `column` meets its contract: a space, or the digit.
use native.Mathlib.Omega.{arith}
use mathlib.Core.Path.{refl}
use Rattle.bisimulation.proofs.argument.ChoiceLaws.{less, not_less}
use Rattle.block_sheet.specs.definitions.Sheet.{column}
use Rattle.sheet_lines.proofs.column.Goals as goal

pub returns-then-x-p : goal.returns-then-x-p
unfolding column
returns-then-x-p c = (less _ (omega arith) refl, omega arith)

pub returns : goal.returns
unfolding column
returns c = (not_less _ (omega arith) refl, omega arith)
