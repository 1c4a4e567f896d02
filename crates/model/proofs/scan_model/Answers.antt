-- `scan_model` meets its contract: the labels and the transitions in the order of `scan_model`.
use Prim.Native.Nat.{ℕ, ◌+◌}
use mathlib.Core.Path.{sym, ◌∙◌, ap}
use native.Mathlib.Omega.{arith}
use Rattle.std.proofs.lemmas.Result.{err_from_is_err_and}
use Rattle.rules.specs.definitions.Limits.{limits}
use Rattle.rules.specs.definitions.Reading.{refused, scan_transitions, scan_model, labels_fault}
use Rattle.rules.proofs.argument.ReadingLaws.{refuse-stops, refuse-passes, head-terms, labels-terms, head_passed, labels-passed}
use Rattle.limits.specs.TermsBy.{limits_by}
use Rattle.fault.specs.Faults.{fault_of}
use Rattle.fault.specs.FaultsLaws.{refuses, nothing, found_passes}
use Rattle.model_head.specs.HeadLaws.{of-head}
use Rattle.model.specs.Scanned.{scans}
use Rattle.model.proofs.scan_model.Goals as goal

pub head_at-head-requires : goal.head_at-head-requires
head_at-head-requires c = (head_passed limits _ c.requires.1).whole

pub labels_fault-requires : goal.labels_fault-requires
labels_fault-requires c = ((head_passed limits _ c.requires.1).whole, c.head_at-head.ensures.small)

pub returns-in_err-labels_fault : goal.returns-in_err-labels_fault
unfolding scan_model
returns-in_err-labels_fault c =
    let p = err_from_is_err_and c.from_residual.result c.from_residual.ensures.1 in
    let pre = c.requires in
    let wrong = c.in_err-labels_fault.ensures in
    rw (p.1, p.2) (
    scans _
    (ap (refused (fault_of c.in_err-labels_fault.field-0.0)) wrong.at
    ∙ refuse-passes _ (sym (head-terms _ limits _)) pre.1
    (refuse-stops _ _ _ (wrong.is ∙ ap (labels_fault limits _) c.head_at-head.ensures.states ∙ sym (labels-terms _ limits _ _)) (refuses _)))
    tt pre.0
    )

pub scan_transitions-requires : goal.scan_transitions-requires
scan_transitions-requires c =
    let pre = c.requires in
    let h = head_passed limits _ pre.1 in (
      c.head_at-head.ensures.states,
      (labels-passed limits _ _ (found_passes c.labels_fault.ensures.is c.in_ok-labels_fault.was)).whole,
      omega arith,
      pre.0,
    )

pub returns : goal.returns
unfolding scan_model
returns c =
    let head = c.head_at-head.ensures in
    let s = c.args.s.now in
    scans _
    (refuse-passes _ (sym (head-terms _ limits _)) c.requires.1
    (refuse-passes _ (c.labels_fault.ensures.is ∙ ap (labels_fault limits _) head.states ∙ sym (labels-terms _ limits _ _)) (nothing c.in_ok-labels_fault.was)
    (c.scan_transitions.ensures.answer ∙ of-head (λ (n m count : ℕ). scan_transitions (limits_by c.args.terms) s n m count count 0 0 (8 + n)) head)))
    c.scan_transitions.ensures.places c.scan_transitions.ensures.size
