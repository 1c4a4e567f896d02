-- `ones` meets its contract: the digits that are set are counted.
use native.Mathlib.Omega.{arith}
use Rattle.word.specs.BitsLaws.{ones-counted, ones-fit}
use Rattle.word.specs.Bits.{word_bits}
use Rattle.word.proofs.ones.Goals as goal

pub overflow_cast-result : goal.overflow_cast-result
overflow_cast-result c = record { fits = ones-fit _ (omega arith) }

pub returns : goal.returns
returns c = ones-counted word_bits _ (omega arith)
