-- `price_of` meets its contract: four bytes are read, and fit eight.
use mathlib.Core.Path.{◌∙◌}
use native.Mathlib.Omega.{arith}
use mir.Syntax.{w32, w64}
use mir.Val.{of_z}
use mir.Facts.{to_z-of_z}
use Rattle.prices.specs.Prices.{price_in}
use Rattle.prices.specs.PricesLaws.{four-fit}
use Rattle.prices.proofs.price_of.Goals as goal

pub overflow_cast-result : goal.overflow_cast-result
overflow_cast-result c = four-fit (of_z w32 (price_in c.args.prices.now c.args.v))

pub returns : goal.returns
returns c = record { is = λ small. to_z-of_z {w = w64} (overflow_cast-result c) ∙ to_z-of_z {w = w32} (record { sfits = omega (arith, small) }) }
