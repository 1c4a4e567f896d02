-- `all_related` meets its contract. The invariant is `Covering`.
use Rattle.std.proofs.Common.{◌≡◌, arith}
use Rattle.related_prices.specs.HighestLaws.{cover-start, cover-past, cover-turn, cover-not, cover-end}
use Rattle.related_prices.proofs.all_related.Goals as goal

pub loop-v-init : goal.loop-v-init
loop-v-init c = cover-start

pub loop-v-preserved-then-top-price : goal.loop-v-preserved-then-top-price
loop-v-preserved-then-top-price c =
    cover-past c.requires.1 (omega arith) (omega arith) c.price_of-price.ensures _ c.loop-v.invariant c.highest_of_all-top.ensures c.if-top-price.true

pub highest_after-most-requires : goal.highest_after-most-requires
highest_after-most-requires c = (omega arith, c.loop-v.invariant.before)

pub returns-then-price-most : goal.returns-then-price-most
returns-then-price-most c =
    let pre = c.requires in
    cover-not pre.1 (omega arith) (omega arith) c.price_of-price.ensures c.highest_after-most.ensures pre.2 c.if-price-most.true

pub loop-v-preserved : goal.loop-v-preserved
loop-v-preserved c =
    let pre = c.requires in
    cover-turn pre.1 (omega arith) (omega arith) c.price_of-price.ensures c.highest_after-most.ensures pre.2 c.loop-v.invariant c.if-price-most.false

pub returns : goal.returns
returns c =
    let l = c.loop-v in
    let e : l.v ≡ c.args.n = omega arith in
    cover-end (omega arith) (rw e at l.invariant.covered)
