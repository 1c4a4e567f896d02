-- `conditions_fault` meets its contract: each test in its order.
use native.Mathlib.Omega.{arith}
use mathlib.Core.Path.{refl, sym, ◌∙◌, ap}
use mir.Facts.{to_z-of_z}
use borrow.Author.Tests.{not-true, not-false}
use Rattle.bisimulation.proofs.argument.ChoiceLaws.{is_true, is_false}
use Rattle.rules.specs.definitions.Faults.{fault_by}
use Rattle.rules.specs.definitions.PlainRule.{below, last_fault}
use Rattle.transition.specs.KnownLaws.{known-states, few-states}
use Rattle.conditions.specs.Conditions.{conditions_fault}
use Rattle.conditions.specs.ConditionsLaws.{off-back, off-tells}
use Rattle.refutation_prices.specs.RulePrices.{prices-there, all_asked, last-asked}
use borrow.Author.Rules.{rules}
use Rattle.refutation_prices.proofs.conditions_fault.Goals as goal

pub all_fair-requires : goal.all_fair-requires
all_fair-requires c =
    let pre = c.requires in
    let k = c.args.model.known in
    (rw (to_z-of_z c.ranges.l) (all_asked k pre.0 _ pre.4), prices-there k pre.1, prices-there k pre.2)

pub returns-then-not-all_fair : goal.returns-then-not-all_fair
unfolding conditions_fault
returns-then-not-all_fair c =
    let back = to_z-of_z c.ranges.l in
    record { number = λ R held. is_false _ (sym (rw back at c.all_fair.ensures) ∙ c.if-not-all_fair.true) c.fault.ensures }

pub all_related-requires : goal.all_related-requires
all_related-requires c =
    let pre = c.requires in
    (few-states c.args.model.known, search rules, search rules)

pub returns-then-not-all_related : goal.returns-then-not-all_related
unfolding conditions_fault
returns-then-not-all_related c =
    let back = to_z-of_z c.ranges.l in
    record {
      number = λ R held.
          is_true _ (sym (rw back at c.all_fair.ensures) ∙ c.if-not-all_fair.false)
          (is_false _ (sym (c.all_related.ensures.tells _ R (known-states c.args.model.known) held) ∙ c.if-not-all_related.true)
          c.fault-then-not-all_related.ensures);
    }

pub last_off-off-requires : goal.last_off-off-requires
last_off-off-requires c =
    let pre = c.requires in
    rw (to_z-of_z c.ranges.l) (last-asked c.args.model.known pre.0 _ pre.4 pre.1 pre.3)

pub broken-requires : goal.broken-requires
broken-requires c =
    let asked = c.requires.0 in omega (arith, asked.defender, few-states c.args.model.known)

pub returns-then-off-ge0 : goal.returns-then-off-ge0
unfolding conditions_fault last_fault below
returns-then-off-ge0 c =
    let pre = c.requires in
    let back = to_z-of_z c.ranges.l in
    let asked = last-asked c.args.model.known pre.0 _ pre.4 pre.1 pre.3 in
    let off = rw back at c.last_off-off.ensures in
    record {
      number = λ R held.
          is_true _ (sym (rw back at c.all_fair.ensures) ∙ c.if-not-all_fair.false)
          (is_true _ (sym (c.all_related.ensures.tells _ R (known-states c.args.model.known) held) ∙ c.if-not-all_related.false)
          (is_false _ (not-true _ (sym (off-tells c.args.model.known asked off) ∙ c.if-off-ge0.true))
          (c.broken.ensures ∙ ap (fault_by 16 _) (off-back c.args.model.known asked off))));
    }

pub returns : goal.returns
unfolding conditions_fault last_fault below
returns c =
    let pre = c.requires in
    let back = to_z-of_z c.ranges.l in
    let off = rw back at c.last_off-off.ensures in
    record {
      number = λ R held.
          is_true _ (sym (rw back at c.all_fair.ensures) ∙ c.if-not-all_fair.false)
          (is_true _ (sym (c.all_related.ensures.tells _ R (known-states c.args.model.known) held) ∙ c.if-not-all_related.false)
          (is_true _ (not-false _ (sym (off-tells c.args.model.known (last-asked c.args.model.known pre.0 _ pre.4 pre.1 pre.3) off) ∙ c.if-off-ge0.false))
          refl));
    }
