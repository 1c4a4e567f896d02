-- `highest_in` meets its contract. The invariant is `Seeking`.
use native.Mathlib.Omega.{arith}
use Rattle.related_prices.specs.HighestLaws.{highest-back, seek-start, seek-further, seek-turn, seek-end}
use Rattle.related_prices.proofs.highest_in.Goals as goal

pub loop-u-init : goal.loop-u-init
loop-u-init c = seek-start c.part-rest.ensures c.next_bit-u.ensures.0 (highest-back c.requires.2)

pub loop-u-smaller : goal.loop-u-smaller
loop-u-smaller c =
    omega (arith, seek-further c.loop-u.invariant (omega arith) c.without-rest.ensures c.next_bit-u-in-loop-u.ensures.0)

pub loop-u-preserved : goal.loop-u-preserved
loop-u-preserved c =
    seek-turn c.loop-u.invariant (omega arith) c.without-rest.ensures c.price_of-price.ensures c.larger-most.ensures c.next_bit-u-in-loop-u.ensures.0

pub returns : goal.returns
returns c = seek-end c.loop-u.invariant (omega arith)
