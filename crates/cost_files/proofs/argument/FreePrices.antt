-- Where every cost is 0, the price conditions are document 01's own, whatever L is.
use Rattle.std.specs.Prelude.{ℕ, ◌≡◌, ℤ}
use Rattle.std.proofs.Common.{ap}
use Rattle.bisimulation.specs.definitions.Automaton.{Automaton}
use Rattle.bisimulation.specs.definitions.Prices.{Side, price_of_targets}
use Rattle.bisimulation.specs.definitions.Pairs.{Pairs}
use Rattle.rules.specs.definitions.PlainRule.{internal_prices_fault, external_prices_fault}
use Rattle.costs.specs.definitions.CostPrices.{price_with_cost}
use Rattle.costs.proofs.argument.Free.{free, free_price}

module _ (A : Automaton) (L : ℤ) where
  -- the side of the targets
  free_side : price_with_cost free A L ≡ price_of_targets A
  free_side = λ k X r. free_price A L X r k

  -- by the challenger's kind
  pub free-internal : (R : Pairs) (q t : ℕ) (X G : ℕ → ℤ) → internal_prices_fault A (price_with_cost free A L) R q t X G ≡ internal_prices_fault A (price_of_targets A) R q t X G
  free-internal R q t X G = ap (λ (side : Side). internal_prices_fault A side R q t X G) free_side

  pub free-external : (R : Pairs) (q t : ℕ) (X Y G : ℕ → ℤ) → external_prices_fault A (price_with_cost free A L) R q t X Y G ≡ external_prices_fault A (price_of_targets A) R q t X Y G
  free-external R q t X Y G = ap (λ (side : Side). external_prices_fault A side R q t X Y G) free_side
