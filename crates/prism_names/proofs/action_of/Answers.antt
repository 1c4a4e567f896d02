-- `action_of` meets its contract. The invariant: the name is new to the names before i.
use native.Mathlib.Omega.{arith}
use mathlib.Core.Path.{sym, ◌∙◌}
use Rattle.prism_names.specs.NamesLaws.{new_none, new-more, action-none, action-known, action-new}
use Rattle.prism_names.proofs.action_of.Goals as goal

pub returns-then-from-to : goal.returns-then-from-to
returns-then-from-to c = action-none _ _ _ _ c.if-from-to.true

pub loop-i-init : goal.loop-i-init
loop-i-init c = new_none _ _ _

pub returns-then-same : goal.returns-then-same
returns-then-same c =
    let a = c.args in
    action-known _ _ a.count a.from a.to (omega arith) (omega arith) c.loop-i.invariant (omega arith) (sym c.if-same.true ∙ c.same.ensures)

pub loop-i-preserved : goal.loop-i-preserved
loop-i-preserved c = new-more _ _ c.loop-i.invariant (sym c.same.ensures ∙ c.if-same.false)

pub returns : goal.returns
returns c =
    let a = c.args in
    action-new _ _ a.count a.from a.to (omega arith) (omega arith) c.loop-i.invariant (omega arith)
