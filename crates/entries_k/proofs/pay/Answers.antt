-- `pay` meets its contract: a cost of 0 is not multiplied.
use native.Mathlib.Omega.{arith}
use Rattle.entries_k.specs.KEntriesLaws.{pays-none, k-times-d, price-low, pays}
use Rattle.entries_k.proofs.pay.Goals as goal

pub returns-then-cost-eq0 : goal.returns-then-cost-eq0
returns-then-cost-eq0 c = pays-none c.cost_of-cost.ensures _ c.if-cost-eq0.true _

pub overflow_mul-result : goal.overflow_mul-result
overflow_mul-result c =
    omega (arith, k-times-d c.cost_of-cost.ensures _ c.requires.small c.fields.ensures)

pub overflow_mul-result-2 : goal.overflow_mul-result-2
overflow_mul-result-2 c =
    omega (arith, price-low c.cost_of-cost.ensures _ c.requires.small c.fields.ensures)

pub overflow_add-result : goal.overflow_add-result
overflow_add-result c =
    omega (arith, price-low c.cost_of-cost.ensures _ c.requires.small c.fields.ensures, c.requires.fits)

pub returns : goal.returns
returns c =
    pays c.cost_of-cost.ensures _ c.requires.small c.fields.ensures _
