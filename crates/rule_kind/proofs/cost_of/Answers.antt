-- `cost_of` meets its contract: the table has where the transitions end, and the costs stand behind the mark.
use mathlib.Core.Path.{refl}
use native.Mathlib.Omega.{arith}
use Rattle.rule_kind.specs.KindsLaws.{no-cost, end-in-table, cost-inside, cost-is}
use Rattle.field.specs.Taken.{taken_at}
use Rattle.rule_kind.specs.declared.Kind.TheVariants.{Plain, Strong}
use Rattle.rule_kind.proofs.cost_of.Goals as goal

pub offset_bounds-places-count : goal.offset_bounds-places-count
offset_bounds-places-count c = omega (arith, end-in-table c.requires c.in-Costs.is, c.requires.known.size)

pub bounds-places-count : goal.bounds-places-count
bounds-places-count c = omega (arith, end-in-table c.requires c.in-Costs.is, c.requires.known.size)

pub overflow_add-end : goal.overflow_add-end
overflow_add-end c =
    omega (arith, cost-inside c.requires c.in-Costs.is, c.well_formed.1.0.0)

pub overflow_add-end-in-Costs : goal.overflow_add-end-in-Costs
overflow_add-end-in-Costs c =
    omega (arith, cost-inside c.requires c.in-Costs.is, c.well_formed.1.0.0)

pub byte-requires : goal.byte-requires
byte-requires c =
    omega (arith, c.new.ensures, cost-inside c.requires c.in-Costs.is)

pub returns-in-Plain : goal.returns-in-Plain
returns-in-Plain c = no-cost Plain (λ C at. refl) c.in-Plain.is (omega arith)

pub returns-in-Costs : goal.returns-in-Costs
returns-in-Costs c =
    cost-is c.requires c.in-Costs.is (taken_at c.byte.ensures _ c.new.ensures)

pub returns-in-Strong : goal.returns-in-Strong
returns-in-Strong c = no-cost Strong (λ C at. refl) c.in-Strong.is (omega arith)
