-- `further_lines` meets its contract. The invariant is `Going`.
use Prim.Native.Nat.{◌-◌}
use mathlib.Core.List.{◌++◌}
use Rattle.pairs.specs.Rows.{row_bit}
use Rattle.block_sheet.specs.definitions.Sheet.{blank, lines}
use Rattle.sheet_lines.specs.Lines.{members_from}
use Rattle.sheet_lines.specs.LinesLaws.{Going}
use Rattle.sheet_lines.proofs.further_lines.Given as goal

abbrev pub invariant-loop : goal.invariant-loop
invariant-loop l =
    Going (row_bit l.rows l.v) (lines l.count (blank ++ blank) (members_from (row_bit l.rows l.v) l.from)) l.at l.initial.out (l.count - l.counter) l.member l.next l.out
