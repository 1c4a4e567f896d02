-- `Cursor::price` meets its contract: the price is known by the field of four bytes.
use native.Mathlib.Omega.{arith}
use mir.Syntax.{w64}
use mir.Facts.{to_z-of_z}
use Rattle.field.specs.TakenLaws.{signed-four}
use Rattle.field.proofs.Cursor.price.Goals as goal

pub returns : goal.returns
returns c =
    rw (to_z-of_z {w = w64} {z = c.lowered.result} (record { sfits = omega arith }))
    (record { value = signed-four _ _ _ c.lowered.ensures.small (omega arith); small = omega arith; next = omega arith })
