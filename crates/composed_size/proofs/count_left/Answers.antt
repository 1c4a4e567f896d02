-- `count_left` meets its contract. The invariant: the first q transitions are counted.
use mathlib.Core.Path.{◌≡◌}
use native.Mathlib.Omega.{arith}
use Rattle.transition.specs.KnownLaws.{few-transitions}
use Rattle.composed_size.specs.CountedLaws.{none-counted, may_add, one_more}
use Rattle.composed_size.proofs.count_left.Goals as goal

pub loop-q-init : goal.loop-q-init
loop-q-init c = none-counted (omega arith)

pub add-sizes-requires : goal.add-sizes-requires
add-sizes-requires c =
    may_add c.loop-q.invariant c.count_left_move.ensures
    (omega (arith, few-transitions c.args.left.known.known)) (omega arith)

pub loop-q-preserved : goal.loop-q-preserved
loop-q-preserved c = one_more c.loop-q.invariant c.count_left_move.ensures c.add-sizes.ensures

pub returns : goal.returns
returns c =
    let e : c.loop-q.q ≡ c.args.left.model.transitions = omega arith in
    rw e at c.loop-q.invariant
