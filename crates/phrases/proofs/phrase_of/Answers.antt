-- `phrase_of` meets its contract: the number's entry in the table, or the phrase of all others.
use native.Mathlib.Omega.{arith}
use Rattle.sentences.specs.definitions.Phrases.{bytes_of, other_phrase}
use Rattle.phrases.specs.TableLaws.{phrase-at, phrase-past}
use Rattle.phrases.proofs.phrase_of.Goals as goal

pub returns-then-row-table : goal.returns-then-row-table
returns-then-row-table c = phrase-at _ c.requires _ (omega arith)

pub returns-else-row-table : goal.returns-else-row-table
unfolding bytes_of other_phrase
returns-else-row-table c = phrase-past _ c.requires (omega arith)
