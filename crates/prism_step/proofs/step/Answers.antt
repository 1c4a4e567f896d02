-- `step` meets its contract.
use Rattle.std.proofs.Common.{sym, ◌∙◌, ◌≡◌, false}
use borrow.Author.Rules.{rules}
use Rattle.prism_step.specs.PartLaws.{can-extend, can-begin}
use Rattle.prism_step.specs.StepLaws.{none-says, whole, unfit-says, action-next, extends-take, begins-take}
use Rattle.prism_step.specs.Progressing.{goes_on_by}
use Rattle.prism_step.proofs.step.Goals as goal
use Rattle.prism_step.proofs.step.Goals.{in-Some+else-goes_on, in_default}

pub returns-in_err-whole : goal.returns-in_err-whole
returns-in_err-whole c = rw c.from_residual.ensures (none-says c.requires (sym c.in_err-whole.ensures))

pub returns-then-not-fits : goal.returns-then-not-fits
returns-then-not-fits c =
    unfit-says c.requires (sym c.in_ok-whole.ensures) (sym c.fits.ensures ∙ c.if-not-fits.true)

pub extend-requires : goal.extend-requires
extend-requires c =
    let h = c.requires in
    can-extend h.holds h.most _ c.in-Some.is (sym c.fits.ensures ∙ c.if-not-fits.false) (whole h (sym c.in_ok-whole.ensures)).most

pub returns-then-goes_on : goal.returns-then-goes_on
returns-then-goes_on c =
    extends-take c.requires (sym c.in_ok-whole.ensures) c.action_of-action.ensures (sym c.fits.ensures ∙ c.if-not-fits.false) c.in-Some.is (sym c.goes_on.ensures ∙ c.if-goes_on.true) c.extend.ensures

pub begin-requires : goal.begin-requires
begin-requires c =
    let h = c.requires in
    can-begin h.holds h.most _ (action-next h (sym c.in_ok-whole.ensures) c.action_of-action.ensures) h.room

pub returns : goal.returns
returns c =
    let off : goes_on_by c.args.p.begun c.args.line ≡ false = elim c.match-p.branch [
      | in-Some+else-goes_on w ↦ rw w.in-Some.is (sym w.goes_on.ensures ∙ w.if-goes_on.false)
      | in_default w ↦ search rules
    ] in
    begins-take c.requires (sym c.in_ok-whole.ensures) c.action_of-action.ensures (sym c.fits.ensures ∙ c.if-not-fits.false) off c.begin.ensures (search rules)
