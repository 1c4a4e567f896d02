-- `is_repeated` meets its contract. The invariant: none of the records before `place` is the same as the last. The measure is what is left
-- before `at`.
use Prim.Native.Nat.{◌-◌}
use Rattle.same_transition.specs.SameTransitionLaws.{Walked}
use Rattle.same_transition.proofs.is_repeated.Given as goal

abbrev pub invariant-loop-place : goal.invariant-loop-place
invariant-loop-place l = Walked l.s l.start l.at l.place

abbrev pub decreases-loop-place : goal.decreases-loop-place
decreases-loop-place l = l.at - l.place
