-- `prices_fault` meets its contract: the tables hold the prices of the record.
use mathlib.Core.Path.{refl, sym, ◌∙◌}
use native.Mathlib.Omega.{arith}
use Rattle.transition.specs.KnownLaws.{few-states}
use Rattle.prices.specs.PricesLaws.{prices-small}
use Rattle.refutation_prices.specs.RulePrices.{first-whole, stays-whole, moves-whole, further-small, judged-stays, judged-moves}
use Rattle.refutation_prices.proofs.prices_fault.Goals as goal

pub first_prices_at-requires : goal.first_prices_at-requires
first_prices_at-requires c =
    (few-states c.args.model.known, first-whole _ _ _ _ c.requires.2 refl, c.requires.3.first)

pub overflow_mul-past : goal.overflow_mul-past
overflow_mul-past c = record { fits = omega (arith, first-whole _ _ _ _ c.requires.2 c.first_prices.ensures) }

pub overflow_add-past : goal.overflow_add-past
overflow_add-past c = record { fits = omega (arith, first-whole _ _ _ _ c.requires.2 c.first_prices.ensures) }

pub prices_at-requires : goal.prices_at-requires
prices_at-requires c =
    let whole = stays-whole _ _ _ _ c.requires.2 c.first_prices.ensures c.has_move.ensures c.if-not-has_move.true in
    (few-states c.args.model.known, omega (arith, whole), c.requires.3.third)

pub overflow_mul-n : goal.overflow_mul-n
overflow_mul-n c =
    record { fits = omega (arith, stays-whole _ _ _ _ c.requires.2 c.first_prices.ensures c.has_move.ensures c.if-not-has_move.true) }

pub overflow_add-past-then-not-has_move : goal.overflow_add-past-then-not-has_move
overflow_add-past-then-not-has_move c =
    record { fits = omega (arith, stays-whole _ _ _ _ c.requires.2 c.first_prices.ensures c.has_move.ensures c.if-not-has_move.true) }

pub further_price-l-requires : goal.further_price-l-requires
further_price-l-requires c =
    omega (arith, stays-whole _ _ _ _ c.requires.2 c.first_prices.ensures c.has_move.ensures c.if-not-has_move.true)

pub conditions_fault-requires : goal.conditions_fault-requires
conditions_fault-requires c =
    let x = prices-small c.first_prices_at.ensures in
    (c.requires.0, x, x, prices-small c.prices_at.ensures, further-small c.further_price-l.ensures)

pub returns-then-not-has_move : goal.returns-then-not-has_move
returns-then-not-has_move c =
    let x = c.first_prices_at.ensures in
    let g = c.prices_at.ensures in
    record {
      fault = record {
        number = λ R held.
            c.conditions_fault.ensures.number R held
            ∙ judged-stays c.args.model.known c.requires.0 _ _ R c.first_prices.ensures c.requires.1 x g c.further_price-l.ensures (sym c.has_move.ensures ∙ c.if-not-has_move.true);
      };
      tables = record { first = x.size; second = c.requires.3.second; third = g.size };
    }

pub prices_at-requires-2 : goal.prices_at-requires-2
prices_at-requires-2 c =
    let whole = moves-whole _ _ _ _ c.requires.2 c.first_prices.ensures c.has_move.ensures c.if-not-has_move.false in
    (few-states c.args.model.known, omega (arith, whole), c.requires.3.second)

pub overflow_mul-n-2 : goal.overflow_mul-n-2
overflow_mul-n-2 c =
    record { fits = omega (arith, moves-whole _ _ _ _ c.requires.2 c.first_prices.ensures c.has_move.ensures c.if-not-has_move.false) }

pub overflow_add-past-2 : goal.overflow_add-past-2
overflow_add-past-2 c =
    record { fits = omega (arith, moves-whole _ _ _ _ c.requires.2 c.first_prices.ensures c.has_move.ensures c.if-not-has_move.false) }

pub prices_at-requires-3 : goal.prices_at-requires-3
prices_at-requires-3 c =
    let whole = moves-whole _ _ _ _ c.requires.2 c.first_prices.ensures c.has_move.ensures c.if-not-has_move.false in
    (few-states c.args.model.known, omega (arith, whole), c.requires.3.third)

pub overflow_mul-n-3 : goal.overflow_mul-n-3
overflow_mul-n-3 c =
    record { fits = omega (arith, moves-whole _ _ _ _ c.requires.2 c.first_prices.ensures c.has_move.ensures c.if-not-has_move.false) }

pub overflow_add-past-3 : goal.overflow_add-past-3
overflow_add-past-3 c =
    record { fits = omega (arith, moves-whole _ _ _ _ c.requires.2 c.first_prices.ensures c.has_move.ensures c.if-not-has_move.false) }

pub further_price-l-requires-2 : goal.further_price-l-requires-2
further_price-l-requires-2 c =
    omega (arith, moves-whole _ _ _ _ c.requires.2 c.first_prices.ensures c.has_move.ensures c.if-not-has_move.false)

pub conditions_fault-requires-2 : goal.conditions_fault-requires-2
conditions_fault-requires-2 c = (
  c.requires.0,
  prices-small c.first_prices_at.ensures,
  prices-small c.prices_at-2.ensures,
  prices-small c.prices_at-3.ensures,
  further-small c.further_price-l-2.ensures,
)

pub returns : goal.returns
returns c =
    let x = c.first_prices_at.ensures in
    let y = c.prices_at-2.ensures in
    let g = c.prices_at-3.ensures in
    record {
      fault = record {
        number = λ R held.
            c.conditions_fault-2.ensures.number R held
            ∙ judged-moves c.args.model.known c.requires.0 _ _ R c.first_prices.ensures c.requires.1 x y g c.further_price-l-2.ensures (sym c.has_move.ensures ∙ c.if-not-has_move.false);
      };
      tables = record { first = x.size; second = y.size; third = g.size };
    }
