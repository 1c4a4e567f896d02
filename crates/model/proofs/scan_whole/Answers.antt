-- `scan_whole` meets its contract: bytes left after the records of a sound model.
use mathlib.Core.Path.{refl, sym, ◌∙◌, ap, subst}
use Rattle.std.proofs.lemmas.Result.{err_from_is_err_and}
use Rattle.bisimulation.proofs.argument.ChoiceLaws.{via}
use Rattle.rules.specs.definitions.Reading.{scan_whole, refuse_bytes_left}
use Rattle.model.specs.Scanned.{PlacesOf, scans, left-held}
use Rattle.model.proofs.scan_whole.Goals as goal

pub returns-in_err-m : goal.returns-in_err-m
unfolding scan_whole refuse_bytes_left
returns-in_err-m c =
    let p = err_from_is_err_and c.from_residual.result c.from_residual.ensures.1 in
    let told = c.in_err-m.ensures in
    rw (p.1, p.2) (scans _ (via (sym (ap (refuse_bytes_left c.args.s.now) told.answer)) refl) tt told.size)

pub returns : goal.returns
unfolding scan_whole
returns c =
    let told = c.in_ok-m.ensures in
    let s = c.args.s.now in
    scans c.whole.result (c.whole.ensures ∙ ap (refuse_bytes_left s) told.answer)
    (subst (PlacesOf s c.scan_model.new.places) (sym c.whole.ensures) (left-held s _ _ told.places)) told.size
