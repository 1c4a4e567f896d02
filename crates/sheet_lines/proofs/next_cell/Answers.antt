-- `next_cell` meets its contract: the next member, or none.
use Rattle.std.proofs.Common.{arith}
use Rattle.sheet_lines.specs.LinesLaws.{cell-taken, none-taken}
use Rattle.sheet_lines.proofs.next_cell.Goals as goal

pub returns-in_default : goal.returns-in_default
returns-in_default c = none-taken c.in_default.ensures (omega arith) (omega arith) c.blank-next.ensures

pub returns : goal.returns
returns c =
    let (small, next) = c.in-Some.ensures in
    cell-taken next small c.cell-next.ensures
