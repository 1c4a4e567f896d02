-- `is_repeated` meets its contract. The invariant: none of the records before `place` is the same as the last. The measure is what is left
-- before `at`.
use Prim.Native.Nat.{◌+◌}
use mathlib.Core.Path.{subst⁻¹}
use native.Mathlib.Omega.{arith}
use Rattle.rules.specs.definitions.Reading.{after_transition, entry_count_at}
use Rattle.field.specs.Taken.{taken_at}
use Rattle.same_transition.specs.SameTransitionLaws.{last-inside, Walked, walk_start, walk_inside, walk-found, walk_turn, walk_end}
use Rattle.same_transition.proofs.is_repeated.Goals as goal

pub byte-count-requires : goal.byte-count-requires
unfolding after_transition
byte-count-requires c = omega (arith, last-inside c.requires)

pub loop-place-init : goal.loop-place-init
loop-place-init c = walk_start

pub pass-next-requires : goal.pass-next-requires
unfolding after_transition entry_count_at
pass-next-requires c =
    let h = c.requires in
    let counted = taken_at c.byte-count.ensures (c.args.at + 6) (omega arith) in
    record { inside = omega (arith, last-inside h, counted); counted = counted; before = walk_inside c.loop-place.invariant c.loop-place-test.true h }

pub returns-then-next-place : goal.returns-then-next-place
returns-then-next-place c =
    walk-found c.loop-place.invariant c.loop-place-test.true (c.pass-next.ensures.same c.if-next-place.true)

pub loop-place-smaller : goal.loop-place-smaller
unfolding after_transition
loop-place-smaller c = omega (arith, (c.pass-next.ensures.other c.if-next-place.false).0, c.loop-place-test.true)

pub loop-place-preserved : goal.loop-place-preserved
loop-place-preserved c =
    let passed = c.pass-next.ensures.other c.if-next-place.false in
    subst⁻¹ (Walked _ _ _) passed.0 (walk_turn c.loop-place.invariant c.loop-place-test.true passed.1)

pub returns : goal.returns
returns c = walk_end c.loop-place.invariant c.loop-place-test.false
