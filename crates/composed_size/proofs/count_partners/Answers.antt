-- `count_partners` meets its contract. The invariant: the pairs with the first r transitions are counted.
use mathlib.Core.Path.{◌≡◌}
use native.Mathlib.Omega.{arith}
use Rattle.transition.specs.KnownLaws.{known-transition, few-transitions}
use Rattle.composed_size.specs.CountedLaws.{none-counted, may_add, one_more, small-fields, partner-counted}
use Rattle.composed_size.proofs.count_partners.Goals as goal

pub loop-r-init : goal.loop-r-init
loop-r-init c = none-counted (omega arith)

pub fields_of-u-requires : goal.fields_of-u-requires
fields_of-u-requires c = known-transition c.args.right.known.known c.loop-r-test.true

pub count_pair-requires : goal.count_pair-requires
count_pair-requires c =
    (c.requires, small-fields (known-transition c.args.right.known.known c.loop-r-test.true) c.fields_of-u.ensures)

pub add-sizes-requires : goal.add-sizes-requires
add-sizes-requires c =
    may_add c.loop-r.invariant (partner-counted c.fields_of-u.ensures c.count_pair.ensures)
    (omega (arith, few-transitions c.args.right.known.known)) (omega arith)

pub loop-r-preserved : goal.loop-r-preserved
loop-r-preserved c =
    one_more c.loop-r.invariant (partner-counted c.fields_of-u.ensures c.count_pair.ensures) c.add-sizes.ensures

pub returns : goal.returns
returns c =
    let e : c.loop-r.r ≡ c.args.right.model.transitions = omega arith in
    rw e at c.loop-r.invariant
