-- `same_bytes` meets its contract. The invariant: the bytes from `i` on agree.
use Prim.Native.Nat.{ℕ, ◌≤◌, ◌<◌}
use Rattle.same_transition.specs.SameTransitionLaws.{ByteAgrees}
use Rattle.same_transition.proofs.same_bytes.Given as goal

abbrev pub invariant-loop-i : goal.invariant-loop-i
invariant-loop-i l = (j : ℕ) → l.i ≤ j → j < l.count → ByteAgrees l.s l.first l.second l.count j
