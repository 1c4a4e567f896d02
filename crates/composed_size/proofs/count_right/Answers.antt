-- `count_right` meets its contract. The invariant: the first r transitions are counted.
use mathlib.Core.Path.{◌≡◌}
use native.Mathlib.Omega.{arith}
use Rattle.transition.specs.KnownLaws.{few-transitions}
use Rattle.composed_size.specs.CountedLaws.{none-counted, may_add, one_more}
use Rattle.composed_size.proofs.count_right.Goals as goal

pub loop-r-init : goal.loop-r-init
loop-r-init c = none-counted (omega arith)

pub add-sizes-requires : goal.add-sizes-requires
add-sizes-requires c =
    may_add c.loop-r.invariant c.count_right_move.ensures
    (omega (arith, few-transitions c.args.right.known.known)) (omega arith)

pub loop-r-preserved : goal.loop-r-preserved
loop-r-preserved c = one_more c.loop-r.invariant c.count_right_move.ensures c.add-sizes.ensures

pub returns : goal.returns
returns c =
    let e : c.loop-r.r ≡ c.args.right.model.transitions = omega arith in
    rw e at c.loop-r.invariant
