-- `with_entry` meets its contract, for each table by itself.
use native.Mathlib.Omega.{arith}
use Rattle.prices.specs.PricesLaws.{summing-back, summing-price, summing-asks, summing-turn}
use Rattle.prices.specs.AddingLaws.{adds_one}
use Rattle.prices.proofs.with_entry.Goals as goal

pub entry_at-entry-requires : goal.entry_at-entry-requires
entry_at-entry-requires c = omega (arith, c.requires.enough, c.requires.summing.one.whole)

pub price_of-price-requires : goal.price_of-price-requires
price_of-price-requires c =
    let ready = c.requires in
    (summing-price _ ready.summing.one ready.enough c.entry_at-entry.ensures).state

pub price_of-other_price-requires : goal.price_of-other_price-requires
price_of-other_price-requires c =
    let ready = c.requires in
    (summing-price _ ready.summing.one ready.enough c.entry_at-entry.ensures).state

pub with_term-one-requires : goal.with_term-one-requires
with_term-one-requires c =
    let ready = c.requires in
    summing-asks _ (summing-back ready.summing.one) ready.enough c.entry_at-entry.ensures c.price_of-price.ensures

pub with_term-other-requires : goal.with_term-other-requires
with_term-other-requires c =
    let ready = c.requires in
    summing-asks _ (summing-back ready.summing.other) ready.enough c.entry_at-entry.ensures c.price_of-other_price.ensures

pub returns : goal.returns
returns c =
    let entry = c.entry_at-entry.ensures in
    adds_one
    (λ all left some h. record {
      one = summing-turn left (summing-back h.one) some entry c.price_of-price.ensures c.with_term-one.ensures;
      other = summing-turn left (summing-back h.other) some entry c.price_of-other_price.ensures c.with_term-other.ensures;
    })
