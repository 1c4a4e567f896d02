-- `passes_limit` meets its contract.
use mathlib.Core.Path.{refl}
use native.Mathlib.Omega.{arith}
use Rattle.bisimulation.proofs.argument.ChoiceLaws.{less, not_less}
use Rattle.join.specs.Join.{passes_sizes}
use Rattle.join.proofs.passes_limit.Goals as goal

pub returns-then-states-gt-STATES : goal.returns-then-states-gt-STATES
unfolding passes_sizes
returns-then-states-gt-STATES c = less _ (omega arith) refl

pub returns-then-transitions-gt-TRANSITIONS : goal.returns-then-transitions-gt-TRANSITIONS
unfolding passes_sizes
returns-then-transitions-gt-TRANSITIONS c = not_less _ (omega arith) (less _ (omega arith) refl)

pub returns-then-entry_bytes : goal.returns-then-entry_bytes
unfolding passes_sizes
returns-then-entry_bytes c = not_less _ (omega arith) (not_less _ (omega arith) (less _ (omega arith) refl))

pub returns : goal.returns
unfolding passes_sizes
returns c = not_less _ (omega arith) (not_less _ (omega arith) (not_less _ (omega arith) refl))
