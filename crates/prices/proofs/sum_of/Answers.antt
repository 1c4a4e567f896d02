-- `sum_of` meets its contract. The invariant is `Summing`.
use Rattle.std.proofs.Common.{◌-◌, ◌+◌, ◌≡◌, pos, subst, arith}
use Rattle.rules.specs.definitions.Reading.{entries_at}
use Rattle.prices.specs.Adding.{Summing}
use Rattle.prices.specs.PricesLaws.{summing_start, summing-price, summing-asks, summing-turn, summing-end}
use Rattle.prices.proofs.sum_of.Goals as goal

pub loop-init : goal.loop-init
loop-init c =
    let a = c.args in
    subst (λ k. Summing a.s.now a.prices.now (entries_at a.s.now a.count a.at) k c.new-place.result.at (pos 0)) (omega arith) (summing_start c.requires c.new-place.ensures)

pub entry_at-entry-requires : goal.entry_at-entry-requires
entry_at-entry-requires c = omega (arith, c.loop.invariant.whole)

pub price_of-price-requires : goal.price_of-price-requires
price_of-price-requires c = (summing-price _ c.loop.invariant (omega arith) c.entry_at-entry.ensures).state

pub with_term-sum-requires : goal.with_term-sum-requires
with_term-sum-requires c = summing-asks _ c.loop.invariant (omega arith) c.entry_at-entry.ensures c.price_of-price.ensures

pub loop-preserved : goal.loop-preserved
loop-preserved c =
    let e : (c.args.count - c.loop.counter) - 1 ≡ c.args.count - (c.loop.counter + 1) = omega arith in
    rw e at (summing-turn _ c.loop.invariant (omega arith) c.entry_at-entry.ensures c.price_of-price.ensures c.with_term-sum.ensures)

pub returns : goal.returns
returns c = summing-end _ c.loop.invariant (omega arith)
