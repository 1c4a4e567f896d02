-- `Cursor::byte` meets its contract: the element of the slice is the field.
use native.Mathlib.Omega.{arith}
use Rattle.rules.specs.definitions.Bytes.{byte_at}
use Rattle.field.proofs.Cursor.byte.Goals as goal

pub returns : goal.returns
unfolding byte_at
returns c = omega arith
