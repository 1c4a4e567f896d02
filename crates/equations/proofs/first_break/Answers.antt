-- `first_break` meets its contract. The invariant: the remainders left have the break of all.
use native.Mathlib.Omega.{arith}
use Rattle.std.proofs.Common.{ℕ, ◌+◌, ◌-◌, ◌≡◌}
use mathlib.Core.Path.{refl, sym, ◌∙◌, ap}
use Rattle.bisimulation.proofs.argument.ChoiceLaws.{via, same, not_same}
use Rattle.rules.specs.definitions.Faults.{fault_by}
use Rattle.fault.specs.Faults.{number_of}
use Rattle.remainders.specs.Remainders.{remainder_at}
use Rattle.remainders.specs.NonzeroLaws.{zero_bits, not-zero-bits}
use Rattle.equations.specs.Differences.{remainder_break}
use Rattle.equations.specs.EquationsLaws.{break-end, break-turn}
use borrow.Author.Rules.{rules}
use Rattle.equations.proofs.first_break.Goals as goal

pub loop-v-init : goal.loop-v-init
loop-v-init c =
    let a = c.args in
    let all : a.n - 0 ≡ a.n = omega arith in
    ap (λ (l : ℕ). remainder_break (number_of a.refusal) a.remainders.now a.first l 0) all

pub returns-then-remainder-ne0 : goal.returns-then-remainder-ne0
returns-then-remainder-ne0 c =
    let v = c.loop-v.v in
    let a = c.args in
    let one = not-zero-bits (remainder_at a.remainders.now (a.first + v)) c.if-remainder-ne0.true in
    via (break-turn _ _ _ (a.n - v) v (omega arith)) (not_same _ (λ z. omega (arith, z, one)) (c.broken.ensures ∙ ap (fault_by (number_of a.refusal) v) (search rules))) ∙ c.loop-v.invariant

pub loop-v-preserved : goal.loop-v-preserved
loop-v-preserved c =
    let v = c.loop-v.v in
    let a = c.args in
    let left : a.n - (v + 1) ≡ a.n - v - 1 = omega arith in
    ap (λ (l : ℕ). remainder_break (number_of a.refusal) a.remainders.now a.first l (v + 1)) left
    ∙ same _ (zero_bits (search rules) c.if-remainder-ne0.false) refl
    ∙ sym (break-turn _ _ _ (a.n - v) v (omega arith))
    ∙ c.loop-v.invariant

pub returns : goal.returns
returns c = break-end _ _ _ (c.args.n - c.loop-v.v) c.loop-v.v (omega arith) ∙ c.loop-v.invariant
