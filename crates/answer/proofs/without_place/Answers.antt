-- `without_place` meets its contract.
use Rattle.rules.specs.definitions.Answers.{answer_without_place}
use mathlib.Core.Path.{refl}
use Rattle.answer.proofs.without_place.Goals as goal

pub returns : goal.returns
unfolding answer_without_place
returns c = record { answer = refl; wrote = refl }
