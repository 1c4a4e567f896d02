-- `cell` meets its contract: each column stands behind the one before it.
use mathlib.Core.Path.{refl}
use Rattle.sheet_lines.specs.LinesLaws.{cell-written}
use Rattle.sheet_lines.proofs.cell.Goals as goal

pub returns : goal.returns
returns c =
    cell-written c.byte-second.ensures c.byte-third.ensures c.byte-last.ensures c.byte.ensures
    _ c.column.ensures.0 c.column-2.ensures.0 c.column-3.ensures.0 refl
