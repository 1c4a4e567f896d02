-- `fair` meets its contract: the sum with the cost and the price of the source are the two sides of the condition.
use mathlib.Core.Path.{◌∙◌}
use Rattle.prices.specs.PricesLaws.{summable}
use Rattle.conditions.specs.ConditionsLaws.{state-price, priced-transition, cost-addable, side-is, condition-is}
use Rattle.conditions.proofs.fair.Goals as goal

pub fields-t-requires : goal.fields-t-requires
fields-t-requires c = c.requires.0.below

pub sum_of-sum-requires : goal.sum_of-sum-requires
sum_of-sum-requires c =
    let pre = c.requires in
    summable (priced-transition c.args.model.known pre.0) c.fields-t.ensures pre.2

pub with_cost-requires : goal.with_cost-requires
with_cost-requires c = cost-addable c.args.model.known c.requires.0 c.fields-t.ensures c.sum_of-sum.ensures

pub at_least-requires : goal.at_least-requires
at_least-requires c =
    let pre = c.requires in
    let fields = c.fields-t.ensures in
    state-price c.args.model.known fields pre.1 fields.from

pub returns : goal.returns
returns c =
    let fields = c.fields-t.ensures in
    c.at_least.ensures
    ∙ condition-is c.args.x.now fields
    (side-is c.args.model.known c.requires.0 fields c.sum_of-sum.ensures c.with_cost.ensures c.requires.2)
