-- `highest` meets its contract: by the first word of the row, then by the second.
use native.Mathlib.Omega.{arith}
use Rattle.related_prices.specs.HighestLaws.{highest-none, highest-back}
use Rattle.related_prices.proofs.highest.Goals as goal

pub highest_in-most-requires : goal.highest_in-most-requires
highest_in-most-requires c = (omega arith, omega arith, highest-none)

pub highest_in-requires : goal.highest_in-requires
highest_in-requires c = (omega arith, omega arith, highest-back c.highest_in-most.ensures)

pub returns : goal.returns
returns c = highest-back c.highest_in.ensures
