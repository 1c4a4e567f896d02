-- `rest_of_line` meets its contract. The invariant is `Filling`.
use native.Mathlib.Omega.{arith}
use mathlib.Core.Path.{refl}
use Rattle.sheet_lines.specs.LinesLaws.{filling-start, filling-turn, filling-end}
use Rattle.sheet_lines.proofs.rest_of_line.Goals as goal

pub loop-init : goal.loop-init
loop-init c = filling-start (omega arith) (omega arith)

pub loop-preserved : goal.loop-preserved
loop-preserved c = filling-turn c.loop.invariant (omega arith) c.next_cell-taken.ensures

pub returns : goal.returns
returns c = filling-end c.loop.invariant (omega arith) refl c.byte.ensures
