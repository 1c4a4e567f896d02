-- `further_lines` meets its contract. The invariant is `Going`.
use native.Mathlib.Omega.{arith}
use Rattle.block_sheet.proofs.argument.SheetLaws.{blank-length}
use Rattle.sheet_lines.specs.LinesLaws.{going_start, going-turn, going_end}
use Rattle.sheet_lines.proofs.further_lines.Goals as goal

pub loop-init : goal.loop-init
loop-init c = going_start (omega arith) (omega arith) (omega arith)

pub blank-cells-requires : goal.blank-cells-requires
blank-cells-requires c = omega (arith, blank-length)

pub rest_of_line-written-requires : goal.rest_of_line-written-requires
rest_of_line-written-requires c = (omega arith, omega arith, omega (arith, blank-length))

pub loop-preserved : goal.loop-preserved
loop-preserved c = going-turn c.loop.invariant (omega arith) c.blank-front.ensures c.blank-cells.ensures c.rest_of_line-written.ensures

pub returns : goal.returns
returns c = going_end c.loop.invariant (omega arith)
