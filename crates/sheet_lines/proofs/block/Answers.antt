-- `block` meets its contract: its first line, and the further ones behind it.
use native.Mathlib.Omega.{arith}
use Rattle.block_sheet.specs.definitions.Sheet.{line_count}
use Rattle.block_sheet.proofs.argument.SheetLaws.{cell-length}
use Rattle.sheet_lines.specs.LinesLaws.{further-room, block_written}
use Rattle.sheet_lines.proofs.block.Goals as goal

pub cell-front-requires : goal.cell-front-requires
unfolding line_count
cell-front-requires c = omega arith

pub cell-cells-requires : goal.cell-cells-requires
unfolding line_count
cell-cells-requires c = omega (arith, cell-length c.args.b)

pub rest_of_line-first-requires : goal.rest_of_line-first-requires
unfolding line_count
rest_of_line-first-requires c = (omega arith, omega arith, omega (arith, cell-length c.args.b, cell-length c.args.size))

pub overflow_sub-line_count : goal.overflow_sub-line_count
unfolding line_count
overflow_sub-line_count c = omega (arith, c.line_count.ensures)

pub further_lines-requires : goal.further_lines-requires
unfolding line_count
further_lines-requires c =
    let p = c.requires in
    (p.0, c.rest_of_line-first.ensures.inside, further-room _ _ c.cell-front.ensures c.cell-cells.ensures c.rest_of_line-first.ensures _ (omega (arith, p.1)) (omega (arith, c.line_count.ensures)) p.3)

pub returns : goal.returns
unfolding line_count
returns c =
    block_written _ _ c.cell-front.ensures c.cell-cells.ensures c.rest_of_line-first.ensures _ (omega (arith, c.requires.1)) (omega (arith, c.line_count.ensures)) c.further_lines.ensures
