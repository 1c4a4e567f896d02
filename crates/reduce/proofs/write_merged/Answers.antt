-- `write_merged` meets its contract: the file was written, or there was no room for it.
use Rattle.answer.specs.AnsweredLaws.{gives-file}
use Rattle.reduce.proofs.write_merged.Goals as goal

pub invariant_of-sound : goal.invariant_of-sound
invariant_of-sound c = record { known = c.places_of-places.ensures }

pub returns : goal.returns
returns c = gives-file 23 _ _ c.write_file-size.ensures c.of_file.ensures
