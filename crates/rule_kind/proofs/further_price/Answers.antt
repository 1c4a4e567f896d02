-- `further_price` meets its contract: by the kind of the rule.
use native.Mathlib.Omega.{arith}
use mathlib.Core.Path.{refl, ap}
use Rattle.rule_kind.specs.Steps.{further_prices}
use Rattle.rule_kind.specs.StepsLaws.{further-none, further-read}
use Rattle.rule_kind.specs.declared.Kind.TheVariants.{Plain, Strong}
use Rattle.rule_kind.proofs.further_price.Goals as goal

pub price-requires : goal.price-requires
price-requires c =
    omega (arith, c.requires, c.new.ensures, ap further_prices c.in-Costs.is)

pub returns-in-Plain : goal.returns-in-Plain
returns-in-Plain c = further-none Plain (λ C at. refl) c.in-Plain.is refl

pub returns-in-Costs : goal.returns-in-Costs
returns-in-Costs c =
    further-read c.in-Costs.is c.price.ensures c.new.ensures

pub returns-in-Strong : goal.returns-in-Strong
returns-in-Strong c = further-none Strong (λ C at. refl) c.in-Strong.is refl
