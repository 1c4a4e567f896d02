-- `last_off` meets its contract: it is d times the price less the sum with the cost.
use mathlib.Core.Path.{◌∙◌}
use Rattle.prices.specs.PricesLaws.{summable}
use Rattle.conditions.specs.ConditionsLaws.{state-price, priced-transition, cost-addable, side-is, side-fits, off-is, off-back}
use Rattle.conditions.proofs.last_off.Goals as goal

pub fields-challenger-requires : goal.fields-challenger-requires
fields-challenger-requires c = c.requires.challenger.below

pub sum_of-sum-requires : goal.sum_of-sum-requires
sum_of-sum-requires c =
    let pre = c.requires in
    summable (priced-transition c.args.model.known pre.challenger) c.fields-challenger.ensures pre.third

pub with_cost-requires : goal.with_cost-requires
with_cost-requires c = cost-addable c.args.model.known c.requires.challenger c.fields-challenger.ensures c.sum_of-sum.ensures

pub excess-requires : goal.excess-requires
excess-requires c =
    let pre = c.requires in
    let fields = c.fields-challenger.ensures in
    let side = side-is c.args.model.known pre.challenger fields c.sum_of-sum.ensures c.with_cost.ensures pre.third in
    (state-price c.args.model.known fields pre.first pre.defender, side-fits c.args.model.known pre.challenger pre.third side)

pub returns : goal.returns
returns c =
    let fields = c.fields-challenger.ensures in
    off-back c.args.model.known c.requires
    (c.excess.ensures
    ∙ off-is c.args.x.now c.args.t fields
    (side-is c.args.model.known c.requires.challenger fields c.sum_of-sum.ensures c.with_cost.ensures c.requires.third))
