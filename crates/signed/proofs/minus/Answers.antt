-- `minus` meets its contract: the number fits.
use Rattle.signed.specs.TermsLaws.{difference-fits, minus_is, minus-back}
use native.Mathlib.Omega.{arith}
use Rattle.signed.proofs.minus.Goals as goal

pub overflow_sub-result : goal.overflow_sub-result
overflow_sub-result c = difference-fits 0 c.args.amount (omega arith) c.requires

pub returns : goal.returns
returns c = minus-back (minus_is c.requires) c.requires
