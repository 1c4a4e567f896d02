-- `byte_of` meets its contract: the byte is the number of a row.
use mathlib.Core.Path.{refl}
use native.Mathlib.Omega.{arith}
use Rattle.classes.proofs.byte_of.Goals as goal

pub overflow_cast-result : goal.overflow_cast-result
overflow_cast-result c = omega (arith, c.requires.2.small _ c.requires.0)

pub returns : goal.returns
returns c = (refl, c.requires.2.small _ c.requires.0)
