-- `count_alone` meets its contract.
use native.Mathlib.Nat.{mul-le-mul_right}
use native.Mathlib.Omega.{arith}
use Rattle.composed_size.proofs.count_alone.Goals as goal

pub overflow_mul-result : goal.overflow_mul-result
overflow_mul-result c = omega (arith, mul-le-mul_right c.args.entries c.requires.0)

pub returns : goal.returns
returns c = record { are = omega arith; few = omega (arith, mul-le-mul_right c.args.entries c.requires.0) }
