-- `rest_of_line` meets its contract. The invariant is `Filling`.
use Prim.Native.Nat.{◌-◌}
use Rattle.pairs.specs.Rows.{row_bit}
use Rattle.sheet_lines.specs.LinesLaws.{Filling}
use Rattle.sheet_lines.proofs.rest_of_line.Given as goal

abbrev pub invariant-loop : goal.invariant-loop
invariant-loop l =
    Filling (row_bit l.rows l.v) l.from l.at l.initial.out (16 - l.counter) l.member l.next l.out
