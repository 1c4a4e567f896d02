-- `range_fault` meets its contract: each return follows the tests before it through `range_fault`.
use native.Mathlib.Omega.{arith}
use mathlib.Core.Path.{refl}
use Rattle.bisimulation.proofs.argument.ChoiceLaws.{less, not_less}
use Rattle.rules.specs.definitions.Reading.{range_fault}
use Rattle.model_head.proofs.range_fault.Goals as goal

pub returns-then-n-eq0 : goal.returns-then-n-eq0
unfolding range_fault
returns-then-n-eq0 c = not_less _ (omega arith) c.fault.ensures

pub returns-then-n-gt-STATES : goal.returns-then-n-gt-STATES
unfolding range_fault
returns-then-n-gt-STATES c = less _ (omega arith) (less _ (omega arith) c.fault-then-n-gt-STATES.ensures)

pub returns-then-m-eq0 : goal.returns-then-m-eq0
unfolding range_fault
returns-then-m-eq0 c = less _ (omega arith) (not_less _ (omega arith) (not_less _ (omega arith) c.fault-then-m-eq0.ensures))

pub returns-then-m-gt-ACTIONS : goal.returns-then-m-gt-ACTIONS
unfolding range_fault
returns-then-m-gt-ACTIONS c = less _ (omega arith) (not_less _ (omega arith) (less _ (omega arith) (less _ (omega arith) c.fault-then-m-gt-ACTIONS.ensures)))

pub returns-then-count-gt-TRANSITIONS : goal.returns-then-count-gt-TRANSITIONS
unfolding range_fault
returns-then-count-gt-TRANSITIONS c = less _ (omega arith) (not_less _ (omega arith) (less _ (omega arith) (not_less _ (omega arith) (less _ (omega arith) c.fault-then-count-gt-TRANSITIONS.ensures))))

pub returns : goal.returns
unfolding range_fault
returns c = less _ (omega arith) (not_less _ (omega arith) (less _ (omega arith) (not_less _ (omega arith) (not_less _ (omega arith) refl))))
