-- `sums_of` meets its contract. The invariant is `SummingBoth`.
use Rattle.std.proofs.Common.{refl, arith}
use Rattle.prices.specs.PricesLaws.{summing_start, summing-back, summing-end}
use Rattle.prices.specs.AddingLaws.{adds_none, adds_then, ready, ready-then}
use Rattle.prices.proofs.sums_of.Goals as goal

pub loop-init : goal.loop-init
loop-init c =
    (adds_none refl).adds _ c.args.count _ (omega arith)
    (record {
      one = summing_start c.requires.0 c.new.ensures;
      other = summing_start c.requires.1 c.new.ensures;
    })

pub with_two-half-requires : goal.with_two-half-requires
with_two-half-requires c = ready c.loop.invariant (omega arith)

pub with_two-sums-requires : goal.with_two-sums-requires
with_two-sums-requires c = ready-then (ready c.loop.invariant (omega arith)) c.with_two-half.ensures refl

pub loop-preserved : goal.loop-preserved
loop-preserved c = (adds_then c.with_two-half.ensures c.with_two-sums.ensures refl).adds _ _ _ (omega arith) c.loop.invariant

pub with_rest-all-requires : goal.with_rest-all-requires
with_rest-all-requires c = (omega arith, ready c.loop.invariant (omega arith))

pub returns : goal.returns
returns c =
    let summed = c.with_rest-all.ensures.adds _ _ 0 (omega arith) c.loop.invariant in
    (summing-end 0 (summing-back summed.one) (omega arith), summing-end 0 (summing-back summed.other) (omega arith))
