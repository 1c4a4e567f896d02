-- `word_at` meets its contract.
use mathlib.Core.Path.{refl}
use Rattle.pairs.specs.Rows.{word_at}
use Rattle.pairs.proofs.word_at.Goals as goal

pub returns : goal.returns
unfolding word_at
returns c = refl
