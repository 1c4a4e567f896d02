-- `counted` meets its contract.
-- a block has an entry where it has a weight
use mathlib.Core.Path.{◌≡◌, refl}
use Prim.Native.Nat.{ℕ}
use native.Mathlib.Omega.{arith}
use Rattle.bisimulation.specs.definitions.Choice.{if_same}
use Rattle.bisimulation.proofs.argument.ChoiceLaws.{same, not_same}
use Rattle.merged_transition.proofs.counted.Goals as goal

no-entry : {weight : ℕ} → weight ≡ 0 → ◌≡◌ {A = ℕ} 0 (if_same weight 0 0 1)
no-entry e = same 1 e refl

an-entry : {weight : ℕ} → (weight ≡ 0 → ⊥) → ◌≡◌ {A = ℕ} 1 (if_same weight 0 0 1)
an-entry n = not_same 0 n refl

pub returns-then-before-ne0 : goal.returns-then-before-ne0
returns-then-before-ne0 c = omega (arith, an-entry c.if-before-ne0.true, an-entry {weight = c.args.after} (λ e. c.if-before-ne0.true (omega (arith, e, c.requires.1))))

pub returns : goal.returns
returns c = omega (arith, no-entry c.if-before-ne0.false, an-entry c.if-after-eq0.false)
