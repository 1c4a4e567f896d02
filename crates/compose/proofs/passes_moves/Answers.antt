-- `passes_moves` meets its contract.
use mathlib.Core.Path.{refl}
use native.Mathlib.Omega.{arith}
use Rattle.bisimulation.proofs.argument.ChoiceLaws.{less, not_less}
use Rattle.compose.specs.Compose.{passes_moves}
use Rattle.compose.proofs.passes_moves.Goals as goal

pub returns-then-transitions-gt-TRANSITIONS : goal.returns-then-transitions-gt-TRANSITIONS
unfolding passes_moves
returns-then-transitions-gt-TRANSITIONS c = less _ (omega arith) refl

pub returns-then-entries-gt-ENTRIES : goal.returns-then-entries-gt-ENTRIES
unfolding passes_moves
returns-then-entries-gt-ENTRIES c = not_less _ (omega arith) (less _ (omega arith) refl)

pub returns-then-long-gt0 : goal.returns-then-long-gt0
unfolding passes_moves
returns-then-long-gt0 c = not_less _ (omega arith) (not_less _ (omega arith) (less _ (omega arith) refl))

pub returns : goal.returns
unfolding passes_moves
returns c = not_less _ (omega arith) (not_less _ (omega arith) (not_less _ (omega arith) refl))
