-- `write_phrase` meets its contract: the table has the phrases, which one computed equation says.
use mathlib.Core.Path.{refl}
use Rattle.sentences.specs.definitions.Phrases.{bytes_of, phrases}
use Rattle.phrases.proofs.write_phrase.Goals as goal

pub phrase_of-requires : goal.phrase_of-requires
unfolding bytes_of phrases
phrase_of-requires c = refl
