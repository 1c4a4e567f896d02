-- `with_cost` meets its contract: the term of the cost is added, where there is one.
use native.Mathlib.Omega.{arith}
use Rattle.transition.specs.KnownLaws.{known-own}
use Rattle.conditions.specs.ConditionsLaws.{weight-small, term-addable, no-term, with-its-term}
use Rattle.conditions.proofs.with_cost.Goals as goal

pub cost_of-cost-requires : goal.cost_of-cost-requires
cost_of-cost-requires c =
    record { known = known-own c.args.model.known; stands = c.requires.stands; below = c.requires.below }

pub returns-then-cost-eq0 : goal.returns-then-cost-eq0
returns-then-cost-eq0 c =
    no-term c.requires c.cost_of-cost.ensures c.if-cost-eq0.true

pub overflow_mul-cost : goal.overflow_mul-cost
overflow_mul-cost c =
    record { fits = omega (arith, weight-small c.requires c.cost_of-cost.ensures) }

pub with_term-requires : goal.with_term-requires
with_term-requires c =
    term-addable c.requires c.cost_of-cost.ensures

pub returns : goal.returns
returns c =
    with-its-term c.requires c.cost_of-cost.ensures c.with_term.ensures
