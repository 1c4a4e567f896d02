-- `at_least` meets its contract: the product fits.
use mathlib.Core.Path.{refl}
use mir.Facts.{to_z-of_z}
use Rattle.prices.specs.PricesLaws.{product_is, product-fits}
use Rattle.conditions.proofs.at_least.Goals as goal

pub overflow_mul-result : goal.overflow_mul-result
overflow_mul-result c =
    let a = c.args in
    let p = c.requires in
    product-fits a.d c.price_of-price.ensures p.0 p.2

pub returns : goal.returns
returns c =
    let a = c.args in
    let p = c.requires in
    rw (to_z-of_z (overflow_mul-result c), to_z-of_z c.ranges.sum, product_is a.d c.price_of-price.ensures p.0 p.2) refl
