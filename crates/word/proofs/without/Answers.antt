-- `without` meets its contract: the mask clears the bit.
use native.Mathlib.Omega.{arith}
use Rattle.word.specs.Bits.{word_bits}
use Rattle.word.specs.BitsLaws.{clear_bit-and}
use Rattle.word.proofs.without.Goals as goal

pub returns : goal.returns
returns c = clear_bit-and word_bits _ _ _ (omega arith) (omega arith) (omega arith)
