-- `label_fault` meets its contract. The invariant: the labels left have the fault of all.
use native.Mathlib.Omega.{arith}
use Prim.Native.Nat.{ℕ, ◌+◌, ◌-◌}
use mathlib.Core.Path.{◌≡◌, refl, ◌∙◌, ap}
use Rattle.std.proofs.Math.Path.{ap₂}
use Rattle.bisimulation.proofs.argument.ChoiceLaws.{via, less, not_less}
use Rattle.rules.specs.definitions.Limits.{limits}
use Rattle.rules.specs.definitions.Reading.{label_fault}
use Rattle.rules.proofs.argument.ReadingLaws.{label_fault-end, label_fault-turn}
use Rattle.field.specs.Parts.{byte-of-part}
use Rattle.model_head.proofs.label_fault.Goals as goal

pub loop-label-init : goal.loop-label-init
loop-label-init c = let e : c.args.n - 0 ≡ c.args.n = omega arith in ap (λ (k : ℕ). label_fault limits c.args.s.now k 8) e

pub returns-then-label-gt-LABEL : goal.returns-then-label-gt-LABEL
returns-then-label-gt-LABEL c =
    let i = c.loop-label.label-index in
    let is = byte-of-part c.args.s.now 8 (8 + c.args.n) i (omega arith) in
    via (label_fault-turn limits _ (c.args.n - i) (8 + i) (omega arith)) (less _ (omega (arith, is)) c.fault.ensures) ∙ c.loop-label.invariant

pub loop-label-preserved : goal.loop-label-preserved
loop-label-preserved c =
    let s = c.args.s.now in
    let i = c.loop-label.label-index in
    let is = byte-of-part s 8 (8 + c.args.n) i (omega arith) in
    let left : c.args.n - (i + 1) ≡ c.args.n - i - 1 = omega arith in
    let at : 8 + (i + 1) ≡ 8 + i + 1 = omega arith in
    via (label_fault-turn limits s (c.args.n - i) (8 + i) (omega arith)) (not_less _ (omega (arith, is)) (ap₂ (label_fault limits s) left at)) ∙ c.loop-label.invariant

pub returns : goal.returns
returns c =
    let i = c.loop-label.label-index in
    via (label_fault-end limits _ (c.args.n - i) (8 + i) (omega arith)) refl ∙ c.loop-label.invariant
