-- `first_defender` meets its contract.
use mathlib.Core.Path.{refl}
use Rattle.runs.specs.Runs.{no_run, asked}
use Rattle.runs.proofs.first_defender.Goals as goal

pub returns-then-first-past : goal.returns-then-first-past
returns-then-first-past c = no_run c.if-first-past.true refl

pub returns : goal.returns
returns c = asked c.if-first-past.false c.next_defender.ensures
