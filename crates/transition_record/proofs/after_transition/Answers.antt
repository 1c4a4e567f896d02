-- `after_transition` meets its contract: the record lies in the file, so no sum wraps.
use Prim.Native.Nat.{◌+◌}
use native.Mathlib.Omega.{arith}
use Rattle.field.specs.Taken.{taken_at}
use Rattle.rules.specs.definitions.Reading.{entry_count_at, after_transition}
use Rattle.transition_record.proofs.after_transition.Goals as goal

pub overflow_add-at : goal.overflow_add-at
unfolding after_transition
overflow_add-at c = omega arith

pub byte-count-requires : goal.byte-count-requires
unfolding after_transition
byte-count-requires c = omega arith

pub overflow_add-result : goal.overflow_add-result
unfolding after_transition
overflow_add-result c = omega arith

pub overflow_add-result-2 : goal.overflow_add-result-2
unfolding after_transition entry_count_at
overflow_add-result-2 c = omega (arith, taken_at c.byte-count.ensures (c.args.at + 6) (omega arith))

pub returns : goal.returns
unfolding after_transition entry_count_at
returns c = omega (arith, taken_at c.byte-count.ensures (c.args.at + 6) (omega arith))
