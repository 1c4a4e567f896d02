-- `verdict` meets its contract: the table that has a remainder is searched.
use mathlib.Core.Path.{refl}
use Rattle.std.proofs.lemmas.Result.{err_from_is_err_and}
use Rattle.bisimulation.proofs.argument.ChoiceLaws.{same, not_same}
use Rattle.rules.proofs.argument.FaultLaws.{first_stops, first_passes}
use Rattle.fault.specs.FaultsLaws.{refuses}
use Rattle.equations.specs.Differences.{cost_break, verdict_of}
use Rattle.equations.proofs.verdict.Goals as goal

pub returns-in_err-first_break : goal.returns-in_err-first_break
unfolding verdict_of
returns-in_err-first_break c =
    let p = err_from_is_err_and c.from_residual.result c.from_residual.ensures.1 in
    rw (p.1, p.2) (not_same _ c.if-nonzero-ne0.true (first_stops _ _ c.in_err-first_break.ensures (refuses _)))

pub returns-in_err-first_break-2 : goal.returns-in_err-first_break-2
unfolding verdict_of
returns-in_err-first_break-2 c =
    let p = err_from_is_err_and c.from_residual-in_err-first_break-2.result c.from_residual-in_err-first_break-2.ensures.1 in
    rw (p.1, p.2)
    (not_same _ c.if-nonzero-ne0.true (first_passes _ _ c.in_ok-first_break.ensures refl (first_stops _ _ c.in_err-first_break-2.ensures (refuses _))))

pub returns-then-nonzero-ne0 : goal.returns-then-nonzero-ne0
unfolding verdict_of
returns-then-nonzero-ne0 c =
    not_same _ c.if-nonzero-ne0.true
    (first_passes _ _ c.in_ok-first_break.ensures refl (first_passes _ _ c.in_ok-first_break-2.ensures refl c.fault.ensures))

pub returns-in_err-first_break-3 : goal.returns-in_err-first_break-3
unfolding verdict_of
returns-in_err-first_break-3 c =
    let p = err_from_is_err_and c.from_residual-in_err-first_break-3.result c.from_residual-in_err-first_break-3.ensures.1 in
    rw (p.1, p.2)
    (same _ c.if-nonzero-ne0.false (not_same _ c.if-asked-ne0.true (first_stops _ _ c.in_err-first_break-3.ensures (refuses _))))

pub returns-then-asked-ne0 : goal.returns-then-asked-ne0
unfolding verdict_of
returns-then-asked-ne0 c =
    same _ c.if-nonzero-ne0.false
    (not_same _ c.if-asked-ne0.true (first_passes _ _ c.in_ok-first_break-3.ensures refl c.fault-then-asked-ne0.ensures))

pub returns-then-paid-owed : goal.returns-then-paid-owed
unfolding verdict_of cost_break
returns-then-paid-owed c =
    same _ c.if-nonzero-ne0.false (same _ c.if-asked-ne0.false (not_same _ c.if-paid-owed.true c.fault-then-paid-owed.ensures))

pub returns : goal.returns
unfolding verdict_of cost_break
returns c = same _ c.if-nonzero-ne0.false (same _ c.if-asked-ne0.false (same _ c.if-paid-owed.false refl))
