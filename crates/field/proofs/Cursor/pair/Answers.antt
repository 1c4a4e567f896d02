-- `Cursor::pair` meets its contract: the two elements are below 256, so the sum fits and is the field.
use native.Mathlib.Omega.{arith}
use Rattle.rules.specs.definitions.Bytes.{byte_at, two_at}
use Rattle.field.proofs.Cursor.pair.Goals as goal

pub returns : goal.returns
unfolding two_at byte_at
returns c = omega arith
