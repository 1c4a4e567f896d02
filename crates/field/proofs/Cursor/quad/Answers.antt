-- `Cursor::quad` meets its contract: the second pair stands two bytes after the first.
use native.Mathlib.Omega.{arith}
use Rattle.rules.specs.definitions.Bytes.{four_at}
use Rattle.field.specs.Taken.{taken_at}
use Rattle.field.proofs.Cursor.quad.Goals as goal

pub returns : goal.returns
unfolding four_at
returns c =
    omega (arith, taken_at c.pair-low.ensures _ c.pair-high.ensures.next)
