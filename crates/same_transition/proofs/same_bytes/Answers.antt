-- `same_bytes` meets its contract. The invariant: the bytes from `i` on agree.
use Prim.Native.Nat.{◌-◌}
use mathlib.Core.Path.{sym}
use native.Mathlib.Omega.{arith}
use Rattle.rules.specs.definitions.Bytes.{byte_at}
use Rattle.same_transition.specs.SameTransitionLaws.{from_more, bytes_same, bytes-not}
use Rattle.same_transition.proofs.same_bytes.Goals as goal

pub returns-then-s-first : goal.returns-then-s-first
unfolding byte_at
returns-then-s-first c = bytes-not _ _ _ _ (c.loop-i.i - 1) (omega arith) c.if-s-first.true

pub loop-i-preserved : goal.loop-i-preserved
unfolding byte_at
loop-i-preserved c = from_more _ _ _ (omega arith) c.loop-i.invariant c.if-s-first.false

pub returns : goal.returns
returns c = sym (bytes_same _ _ _ _ (λ i less. c.loop-i.invariant i (omega arith) less))
