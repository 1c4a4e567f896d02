-- `prices_at` meets its contract. The invariant: the table holds the prices so far.
use Rattle.std.proofs.Common.{◌≡◌, ap, arith, length-append, length-drop}
use Rattle.rules.specs.definitions.Bytes.{signed_at}
use Rattle.prices.specs.PricesLaws.{filled-none, filled-holds, read_filled}
use Rattle.prices.proofs.prices_at.Goals as goal

pub loop-price-init : goal.loop-price-init
loop-price-init c = (omega arith, filled-none _ _)

pub loop-price-preserved : goal.loop-price-preserved
loop-price-preserved c =
    let l = c.loop-price in
    (omega (arith, c.price-field.ensures.next), read_filled c.price-field.ensures l.invariant.1 (omega arith) (ap (signed_at c.args.s.now) l.invariant.0))

pub returns : goal.returns
returns c =
    let l = c.loop-price in
    let e : l.price-index ≡ c.args.n = omega arith in
    filled-holds _ (rw e at l.invariant.1) (omega arith) (rw length-append (omega (arith, length-drop c.args.n c.args.out.now)))
