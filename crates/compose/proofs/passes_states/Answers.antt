-- `passes_states` meets its contract.
use mathlib.Core.Path.{refl}
use native.Mathlib.Omega.{arith}
use Rattle.bisimulation.proofs.argument.ChoiceLaws.{less, not_less}
use Rattle.compose.specs.Compose.{passes_states}
use Rattle.compose.proofs.passes_states.Goals as goal

pub returns-then-states-gt-STATES : goal.returns-then-states-gt-STATES
unfolding passes_states
returns-then-states-gt-STATES c = less _ (omega arith) refl

pub returns-then-label-gt-LABEL : goal.returns-then-label-gt-LABEL
unfolding passes_states
returns-then-label-gt-LABEL c = not_less _ (omega arith) (less _ (omega arith) refl)

pub returns : goal.returns
unfolding passes_states
returns c = not_less _ (omega arith) (not_less _ (omega arith) refl)
