-- `divisor_of` meets its contract. The invariant: the divisor so far with the weights left is that of all.
use native.Mathlib.Omega.{arith}
use Prim.Native.Nat.{ℕ, ◌+◌, ◌-◌}
use mathlib.Core.Path.{◌≡◌, refl, sym, ◌∙◌, ap}
use Rattle.numbers.specs.definitions.Divisor.{divisor_of}
use Rattle.field.specs.Taken.{taken_at}
use Rattle.transition_terms.specs.Divisors.{weights_at, divisor_at}
use Rattle.transition_terms.specs.DivisorsLaws.{weights-end, goes_on, settled}
use Rattle.transition_terms.proofs.divisor_of.Goals as goal

pub loop-init : goal.loop-init
loop-init c =
    let e : c.args.count - 0 ≡ c.args.count = omega arith in
    (omega arith, ap (λ (k : ℕ). divisor_at c.args.s.now k c.args.first.at) e)

pub overflow_add-place : goal.overflow_add-place
overflow_add-place c = omega arith

pub pair-weight-requires : goal.pair-weight-requires
pair-weight-requires c = omega arith

pub returns-then-shared-eq1 : goal.returns-then-shared-eq1
returns-then-shared-eq1 c =
    let l = c.loop in
    settled _ _ _ _ _ l.invariant.1 (omega arith) _ _ (taken_at c.pair-weight.ensures (l.place.at + 1) (omega arith)) c.with_weight-shared.ensures (omega arith)

pub loop-preserved : goal.loop-preserved
loop-preserved c =
    let l = c.loop in
    let e : c.args.count - (l.counter + 1) ≡ c.args.count - l.counter - 1 = omega arith in
    let next = c.pair-weight.result.next.at in (
      omega arith,
      ap (λ (k : ℕ). divisor_of c.with_weight-shared.result (weights_at c.args.s.now k next)) e
          ∙ goes_on _ _ _ _ _ l.invariant.1 (omega arith) _ _ (taken_at c.pair-weight.ensures (l.place.at + 1) (omega arith)) c.with_weight-shared.ensures _ (omega arith),
    )

pub returns : goal.returns
returns c = sym (weights-end _ _ _ _ (omega arith)) ∙ c.loop.invariant.1
