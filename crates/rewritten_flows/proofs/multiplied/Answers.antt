-- `multiplied` meets its contract: the transition is in the table, and the product is small.
use native.Mathlib.Omega.{arith}
use mathlib.Core.Path.{refl}
use Rattle.rewritten_flows.specs.KsLaws.{product_small, entry_listed, entry-multiplied}
use Rattle.rewritten_flows.proofs.multiplied.Goals as goal

pub overflow_add-place : goal.overflow_add-place
overflow_add-place c = omega arith

pub new-requires : goal.new-requires
new-requires c = tt

pub pair-r-requires : goal.pair-r-requires
pair-r-requires c = omega arith

pub quad-k-requires : goal.quad-k-requires
quad-k-requires c = omega arith

pub offset_bounds-divisors-transition : goal.offset_bounds-divisors-transition
offset_bounds-divisors-transition c = omega arith

pub bounds-divisors-transition : goal.bounds-divisors-transition
bounds-divisors-transition c =
    omega (arith, entry_listed c.requires c.pair-r.ensures c.new.ensures)

pub overflow_mul-result : goal.overflow_mul-result
overflow_mul-result c =
    omega (arith, product_small c.requires.divisors c.pair-r.result.value c.quad-k.ensures)

pub returns : goal.returns
returns c =
    entry-multiplied c.requires c.pair-r.ensures c.new.ensures c.quad-k.ensures refl refl
