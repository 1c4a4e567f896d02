-- `word_of` meets its contract: the quotient tells the word.
use native.Mathlib.Omega.{arith}
use Rattle.pairs.specs.RowsLaws.{word-place}
use Rattle.pairs.proofs.word_of.Goals as goal

pub returns : goal.returns
returns c = (word-place _ _ (omega arith), omega arith)
