-- `next_bit` meets its contract: the zeros below the lowest bit are counted.
use native.Mathlib.Omega.{arith}
use Rattle.word.specs.BitsLaws.{zeros-fit, bit-fits, next_bit, bit-near}
use Rattle.word.proofs.next_bit.Goals as goal

pub overflow_cast-result : goal.overflow_cast-result
overflow_cast-result c = record { fits = zeros-fit _ }

pub overflow_add-result : goal.overflow_add-result
overflow_add-result c = record { fits = bit-fits _ _ (omega arith) }

pub returns : goal.returns
returns c = (next_bit _ _, bit-near _ _ (omega arith))
