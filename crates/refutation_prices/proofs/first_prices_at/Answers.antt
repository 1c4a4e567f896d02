-- `first_prices_at` meets its contract: one price for every state by the strong rule, a price for each by the others.
use mathlib.Core.Path.{◌≡◌, refl, ap}
use mathlib.Core.Bool.{false}
use native.Mathlib.Omega.{arith}
use Rattle.rule_kind.specs.declared.Kind.{Kind}
use Rattle.rule_kind.specs.declared.Kind.TheVariants.{Plain, Costs, Strong}
use Rattle.rule_kind.specs.Kinds.{is_strong}
use Rattle.rule_kind.specs.StepsLaws.{weak-first, strong-first}
use Rattle.refutation_prices.specs.RulePrices.{weak-held, strong-held}
use Rattle.refutation_prices.proofs.first_prices_at.Goals as goal

-- a rule that is not the strong one
weak : (kind : Kind) → (kind ≡ Strong → ⊥) → is_strong kind ≡ false
weak Plain other = refl
weak Costs other = refl
weak Strong other = absurd (other refl)

pub same_price-requires : goal.same_price-requires
same_price-requires c =
    (c.requires.0, omega (arith, c.requires.1, strong-first c.args.kind (ap is_strong c.in-Strong.is) c.args.n), c.requires.2)

pub returns-in-Strong : goal.returns-in-Strong
returns-in-Strong c =
    strong-held c.args.kind (ap is_strong c.in-Strong.is) _ _ c.same_price.ensures

pub prices_at-requires : goal.prices_at-requires
prices_at-requires c =
    let kind = c.args.kind in
    (c.requires.0, omega (arith, c.requires.1, weak-first kind (weak kind c.in_default.not-Strong) c.args.n), c.requires.2)

pub returns : goal.returns
returns c =
    let kind = c.args.kind in
    weak-held kind (weak kind c.in_default.not-Strong) _ _ c.prices_at.ensures
