-- `test_parts` meets its contract.
use native.Mathlib.Omega.{arith}
use mathlib.Core.Path.{refl}
use Rattle.bisimulation.proofs.argument.ChoiceLaws.{less, not_less}
use Rattle.joined.specs.definitions.AlikeAnswer.{parts_number}
use Rattle.alike.proofs.test_parts.Goals as goal

pub returns-then-n-first_count : goal.returns-then-n-first_count
unfolding parts_number
returns-then-n-first_count c = less _ (omega arith) refl

pub returns-then-first_count-first_state : goal.returns-then-first_count-first_state
unfolding parts_number
returns-then-first_count-first_state c = not_less _ (omega arith) (not_less _ (omega arith) refl)

pub returns-then-second_state-first_count : goal.returns-then-second_state-first_count
unfolding parts_number
returns-then-second_state-first_count c = not_less _ (omega arith) (less _ (omega arith) (less _ (omega arith) refl))

pub returns-then-n-second_state : goal.returns-then-n-second_state
unfolding parts_number
returns-then-n-second_state c = not_less _ (omega arith) (less _ (omega arith) (not_less _ (omega arith) (not_less _ (omega arith) refl)))

pub returns : goal.returns
unfolding parts_number
returns c = not_less _ (omega arith) (less _ (omega arith) (not_less _ (omega arith) (less _ (omega arith) refl)))
