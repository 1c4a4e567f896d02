-- `run_from` meets its contract.
use native.Mathlib.Omega.{arith}
use mathlib.Core.Path.{refl}
use Rattle.bisimulation.proofs.argument.ChoiceLaws.{less, not_less}
use Rattle.rules.specs.definitions.Answers.{run_answer}
use Rattle.fetch.proofs.run_from.Goals as goal

pub returns-then-run : goal.returns-then-run
unfolding run_answer
returns-then-run c = record { answer = less _ (omega arith) refl; wrote = refl }

pub returns : goal.returns
unfolding run_answer
returns c = record { answer = not_less _ (omega arith) c.written.ensures.answer; wrote = c.written.ensures.wrote }
