-- `prices_at` meets its contract. The invariant: the table holds the prices so far.
use Rattle.std.proofs.Common.{◌+◌, ◌*◌, ◌≡◌}
use Rattle.rules.specs.definitions.Bytes.{signed_at}
use Rattle.prices.specs.PricesLaws.{Filled}
use Rattle.prices.proofs.prices_at.Given as goal

abbrev pub invariant-loop-price : goal.invariant-loop-price
invariant-loop-price l =
    (l.place.at ≡ l.at + 4 * l.price-index) × Filled (λ k. signed_at l.s (l.at + 4 * k)) l.price-index l.price-items
