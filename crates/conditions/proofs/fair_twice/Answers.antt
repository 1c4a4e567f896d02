-- `fair_twice` meets its contract: the condition of each table.
use mathlib.Core.Path.{sym, ◌∙◌}
use Rattle.prices.specs.PricesLaws.{summable}
use Rattle.conditions.specs.ConditionsLaws.{state-price, priced-transition, cost-addable, side-is, condition-is, twice-not, twice-then}
use Rattle.conditions.proofs.fair_twice.Goals as goal

pub fields-t-requires : goal.fields-t-requires
fields-t-requires c = c.requires.0.below

pub sums_of-sums-requires : goal.sums_of-sums-requires
sums_of-sums-requires c =
    let pre = c.requires in
    let k = priced-transition c.args.model.known pre.0 in
    (summable k c.fields-t.ensures pre.1, summable k c.fields-t.ensures pre.2)

pub with_cost-first-requires : goal.with_cost-first-requires
with_cost-first-requires c =
    cost-addable c.args.model.known c.requires.0 c.fields-t.ensures c.sums_of-sums.ensures.0

pub at_least-requires : goal.at_least-requires
at_least-requires c =
    let pre = c.requires in
    state-price c.args.model.known c.fields-t.ensures pre.1 c.fields-t.ensures.from

pub returns-then-not-at_least : goal.returns-then-not-at_least
returns-then-not-at_least c =
    let fields = c.fields-t.ensures in
    let side = side-is c.args.model.known c.requires.0 fields c.sums_of-sums.ensures.0 c.with_cost-first.ensures c.requires.1 in
    twice-not _ _ _ _ _ _ (sym (c.at_least.ensures ∙ condition-is c.args.x.now fields side) ∙ c.if-not-at_least.true)

pub with_cost-second-requires : goal.with_cost-second-requires
with_cost-second-requires c =
    cost-addable c.args.model.known c.requires.0 c.fields-t.ensures c.sums_of-sums.ensures.1

pub at_least-requires-2 : goal.at_least-requires-2
at_least-requires-2 c =
    let pre = c.requires in
    state-price c.args.model.known c.fields-t.ensures pre.2 c.fields-t.ensures.from

pub returns : goal.returns
returns c =
    let fields = c.fields-t.ensures in
    let side = side-is c.args.model.known c.requires.0 fields c.sums_of-sums.ensures.0 c.with_cost-first.ensures c.requires.1 in
    let other = side-is c.args.model.known c.requires.0 fields c.sums_of-sums.ensures.1 c.with_cost-second.ensures c.requires.2 in
    twice-then _ _ _ _ _ _
    (sym (c.at_least.ensures ∙ condition-is c.args.x.now fields side) ∙ c.if-not-at_least.false)
    (c.at_least-2.ensures ∙ condition-is c.args.y.now fields other)
