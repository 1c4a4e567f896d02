-- `excess` meets its contract: the product and the difference fit.
use mathlib.Core.Path.{refl}
use native.Mathlib.Omega.{arith}
use mir.Facts.{to_z-of_z}
use Rattle.cost_files.specs.definitions.CostModel.{highest_cost}
use Rattle.prices.specs.Prices.{price_in}
use Rattle.prices.specs.PricesLaws.{product_is, product-fits}
use Rattle.conditions.specs.ConditionsLaws.{off_small}
use Rattle.conditions.proofs.excess.Goals as goal

pub overflow_mul-result : goal.overflow_mul-result
overflow_mul-result c =
    let a = c.args in
    let p = c.requires.0 in
    product-fits a.d c.price_of-price.ensures p.0 p.2

pub overflow_sub-result : goal.overflow_sub-result
overflow_sub-result c =
    let a = c.args in
    let p = c.requires.0 in
    rw (to_z-of_z (overflow_mul-result c), to_z-of_z c.ranges.sum, product_is a.d c.price_of-price.ensures p.0 p.2)
    (record { sfits = omega (arith, off_small highest_cost a.d (price_in a.x.now a.v) a.sum p.0 p.2 c.requires.1) })

pub returns : goal.returns
returns c =
    let a = c.args in
    let p = c.requires.0 in
    rw (to_z-of_z (overflow_sub-result c), to_z-of_z (overflow_mul-result c), to_z-of_z c.ranges.sum, product_is a.d c.price_of-price.ensures p.0 p.2) refl
