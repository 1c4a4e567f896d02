-- `begin` meets its contract.
use native.Mathlib.Omega.{arith}
use mathlib.Core.Path.{refl, sym, ◌∙◌}
use Rattle.bisimulation.proofs.argument.ChoiceLaws.{less, not_less, is_true, is_false}
use Rattle.prism_step.specs.Progressing.{begins_by}
use Rattle.prism_step.proofs.begin.Goals as goal

pub returns-then-not-follows : goal.returns-then-not-follows
unfolding begins_by
returns-then-not-follows c = sym (is_false _ (sym c.follows.ensures ∙ c.if-not-follows.true) refl)

pub returns-then-choices-ge-TRANSITIONS : goal.returns-then-choices-ge-TRANSITIONS
unfolding begins_by
returns-then-choices-ge-TRANSITIONS c =
    sym (is_true _ (sym c.follows.ensures ∙ c.if-not-follows.false) (not_less _ (omega arith) refl))

pub returns-then-action-ge-ACTIONS : goal.returns-then-action-ge-ACTIONS
unfolding begins_by
returns-then-action-ge-ACTIONS c =
    sym (is_true _ (sym c.follows.ensures ∙ c.if-not-follows.false) (less _ (omega arith) (not_less _ (omega arith) refl)))

pub returns : goal.returns
unfolding begins_by
returns c =
    record {
      good = sym (is_true _ (sym c.follows.ensures ∙ c.if-not-follows.false) (less _ (omega arith) (less _ (omega arith) refl)));
      progress = rw c.choices_of-choices.ensures refl;
      kept = c.with_name-seen.ensures;
      ended = c.end_choice-used.ensures;
      table = refl;
    }
