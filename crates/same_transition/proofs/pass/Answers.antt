-- `pass` meets its contract.
use mathlib.Core.Path.{sym, ◌∙◌}
use native.Mathlib.Omega.{arith}
use Rattle.rules.specs.definitions.Reading.{after_transition}
use Rattle.field.specs.Taken.{taken_at}
use Rattle.same_transition.specs.SameTransitionLaws.{pass-longer, pass_same, pass-other}
use Rattle.same_transition.proofs.pass.Goals as goal

pub overflow_add-place : goal.overflow_add-place
unfolding after_transition
overflow_add-place c = omega arith

pub byte-requires : goal.byte-requires
unfolding after_transition
byte-requires c = omega arith

pub returns-then-byte-count : goal.returns-then-byte-count
returns-then-byte-count c =
    pass-longer c.requires (taken_at c.byte.ensures _ (omega arith)) c.if-byte-count.true c.after_transition.ensures

pub same_bytes-requires : goal.same_bytes-requires
unfolding after_transition
same_bytes-requires c = omega arith

pub returns-then-same_bytes : goal.returns-then-same_bytes
returns-then-same_bytes c = pass_same c.requires (sym c.same_bytes.ensures ∙ c.if-same_bytes.true)

pub overflow_add-result-2 : goal.overflow_add-result-2
unfolding after_transition
overflow_add-result-2 c = omega arith

pub returns : goal.returns
returns c =
    pass-other c.requires (taken_at c.byte.ensures _ (omega arith)) c.if-byte-count.false (sym c.same_bytes.ensures ∙ c.if-same_bytes.false) (omega arith)
