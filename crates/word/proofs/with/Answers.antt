-- `with` meets its contract: the mask sets the bit.
use native.Mathlib.Omega.{arith}
use Rattle.word.specs.Bits.{word_bits}
use Rattle.word.specs.BitsLaws.{set_bit-or}
use Rattle.word.proofs.with.Goals as goal

pub returns : goal.returns
returns c = set_bit-or word_bits _ _ (omega arith)
