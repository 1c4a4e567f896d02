-- `write_decimal` meets its contract. The invariant is `Filling`.
use Prim.Native.Nat.{◌+◌}
use mathlib.Core.Path.{sym, ap}
use lib.ListN.{length}
use native.Mathlib.Omega.{arith}
use Rattle.writer.specs.AppendsLaws.{appended-as}
use Rattle.decimals.specs.DigitsLaws.{filling-start, filling-size, filling-room, filling-turn, filling-end}
use Rattle.decimals.proofs.write_decimal.Goals as goal

pub loop-left-init : goal.loop-left-init
loop-left-init c = filling-start _ (omega arith)

pub overflow_sub-from-in-loop-left : goal.overflow_sub-from-in-loop-left
overflow_sub-from-in-loop-left c = omega (arith, filling-room c.loop-left.invariant (omega arith))

pub loop-left-preserved : goal.loop-left-preserved
loop-left-preserved c = filling-turn c.loop-left.invariant (omega arith)

pub slice_bounds-part-end : goal.slice_bounds-part-end
slice_bounds-part-end c = omega (arith, filling-size c.loop-left.invariant (0x30 + c.loop-left.left))

pub part-requires : goal.part-requires
part-requires c =
    omega (arith, c.requires, ap length (filling-end c.loop-left.invariant (omega arith)))

pub returns : goal.returns
returns c =
    appended-as (sym (filling-end c.loop-left.invariant (omega arith))) c.part.ensures
