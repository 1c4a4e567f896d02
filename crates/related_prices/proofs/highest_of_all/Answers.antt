-- `highest_of_all` meets its contract. The invariant is `AboveAll`, for the states so far.
use Rattle.std.proofs.Common.{arith}
use Rattle.related_prices.specs.HighestLaws.{all_none, all_more}
use Rattle.related_prices.proofs.highest_of_all.Goals as goal

pub loop-u-init : goal.loop-u-init
loop-u-init c = all_none

pub loop-u-preserved : goal.loop-u-preserved
loop-u-preserved c =
    all_more c.loop-u.invariant (c.requires.1.small _ (omega arith)) c.price_of-price.ensures c.larger-most.ensures
