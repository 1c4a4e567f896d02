-- `is_name` meets its contract. The invariant: whether the bytes up to here are all shown.
use native.Mathlib.Omega.{arith}
use Rattle.std.proofs.Common.{rules, ◌≡◌, ℕ, length, subst}
use Rattle.text_fields.specs.FieldLaws.{ShownTo, all-shown-start, all-shown-next, shown-tells, no-name}
use Rattle.text_fields.proofs.is_name.Goals as goal

pub loop-b-init : goal.loop-b-init
loop-b-init c = all-shown-start c.args.s.now

pub loop-b-preserved : goal.loop-b-preserved
loop-b-preserved c = all-shown-next c.args.s.now c.loop-b.b-index c.loop-b.invariant (search rules)

pub returns-then-not-is_empty : goal.returns-then-not-is_empty
returns-then-not-is_empty c =
    let s = c.args.s.now in
    let last : c.loop-b.b-index ≡ length s = omega arith in
    shown-tells s (search rules) (subst (λ (k : ℕ). ShownTo s k c.loop-b.shown) last c.loop-b.invariant)

pub returns-else-not-is_empty : goal.returns-else-not-is_empty
returns-else-not-is_empty c =
    let none : length c.args.s.now ≡ 0 = search rules in
    rw c.if-not-is_empty.false (no-name c.args.s.now none)
