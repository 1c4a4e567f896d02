-- `fair_to` meets its contract: each way by the condition.
use mathlib.Core.Path.{◌≡◌, refl}
use mir.Facts.{to_z-of_z}
use Rattle.rule_kind.specs.declared.Condition.{Condition}
use Rattle.rule_kind.specs.declared.Condition.TheVariants.{Across, Within, Unasked}
use Rattle.conditions.specs.ConditionsLaws.{fair-across, fair-within, fair-unasked}
use Rattle.conditions.proofs.fair_to.Goals as goal

-- a condition that is neither
neither : (told : Condition) → (told ≡ Across → ⊥) → (told ≡ Within → ⊥) → told ≡ Unasked
neither Across e f = absurd (e refl)
neither Within e f = absurd (f refl)
neither Unasked e f = refl

pub returns-in-Across : goal.returns-in-Across
returns-in-Across c =
    let fields = c.fields-fields.ensures in
    fair-across _ _ _ _ _ _ _ _ _ c.condition_of-condition.ensures fields.source fields.action c.in-Across.is (rw (to_z-of_z c.ranges.l) at c.fair.ensures)

pub returns-in-Within : goal.returns-in-Within
returns-in-Within c =
    let fields = c.fields-fields.ensures in
    fair-within _ _ _ _ _ _ _ _ _ c.condition_of-condition.ensures fields.source fields.action c.in-Within.is (rw (to_z-of_z c.ranges.l) at c.fair_twice.ensures)

pub returns : goal.returns
returns c =
    let fields = c.fields-fields.ensures in
    fair-unasked _ _ _ _ _ _ _ _ _ c.condition_of-condition.ensures fields.source fields.action (neither _ c.in_default.not-Across c.in_default-condition.not-Within)
