-- `judge_flows` meets its contract. Before each flow the questions left are judged as all are (`Going`); the loops go through the
-- questions of a state, of a state against t, and of the transitions of the run.
use native.Mathlib.Omega.{arith}
use Rattle.std.proofs.Math.Path.{refl}
use Rattle.std.proofs.Common.{sym, ◌∙◌, ◌≡◌, ap}
use Rattle.std.proofs.lemmas.Option.{none-some, same_Some}
use Rattle.field.specs.declared.Cursor.{Cursor}
use Rattle.transition.specs.KnownLaws.{known-own, few-states}
use Rattle.runs.specs.RunsLaws.{splits-start, splits-next}
use Rattle.flows.specs.Going.{going-stops, going-passes, going-left, going-ends}
use Rattle.flows.specs.GoingLaws.{next-asked, first-asked, going-all, going-state, states-end, going-first, going_next, going-defender, defenders-end, going-transition, run_ends}
use Rattle.flows.proofs.judge_flows.Goals as goal
use Rattle.flows.proofs.judge_flows.Goals.{else-flows-test, then-flows-test+then-loop-t-test+then-loop-r-test+in-Err}

pub flows-init : goal.flows-init
flows-init c = (
  refl,
  splits-start c.args.model.known,
  going-all c.args.model.known c.new-place.ensures c.requires.0 c.no_remainders-remainders.ensures c.no_remainders-target.ensures,
)

pub run_past-past-requires : goal.run_past-past-requires
run_past-past-requires c = (known-own c.args.model.known, c.flows.invariant.1.most)

pub first_defender-t-requires : goal.first_defender-t-requires
first_defender-t-requires c = omega (arith, c.flows-test.true, few-states c.args.model.known)

pub loop-t-init : goal.loop-t-init
loop-t-init c =
    let l = c.flows in (
      l.invariant.0,
      first-asked (few-states c.args.model.known) c.first_defender-t.ensures,
      going-first c.args.model.known c.requires.2 l.state l.first _ l.invariant.1 c.run_past-past.ensures c.flows-test.true _ c.first_defender-t.ensures (going-state l.state c.args.model.known c.flows-test.true l.invariant.2),
    )

pub loop-r-init : goal.loop-r-init
loop-r-init c =
    let l = c.flows in (
      c.loop-t.invariant.0,
      going-defender c.args.model.known c.requires.2 l.state l.first _ l.invariant.1 c.run_past-past.ensures c.flows-test.true c.loop-t.t c.loop-t.invariant.1 c.loop-t-test.true c.loop-t.invariant.2,
    )

pub judge_flow-requires : goal.judge_flow-requires
judge_flow-requires c =
    let going = c.loop-r.invariant.1 in (
      omega (arith, c.loop-r-test.true, c.run_past-past.ensures.most),
      c.loop-t-test.true,
      going.inside,
      going.moves,
      going.targets,
      c.requires.1,
    )

pub loop-r-preserved : goal.loop-r-preserved
loop-r-preserved c =
    let asked = going-transition c.flows.state c.loop-t.t c.loop-r.r c.run_past-past.result c.loop-r-test.true c.loop-r.invariant.1 in
    (c.loop-r.invariant.0, going-passes _ _ _ _ _ _ asked c.in-Ok.ensures)

pub next_defender-t-requires : goal.next_defender-t-requires
next_defender-t-requires c =
    (omega (arith, c.flows-test.true, few-states c.args.model.known), omega (arith, c.loop-t-test.true, few-states c.args.model.known))

pub loop-t-preserved : goal.loop-t-preserved
loop-t-preserved c =
    let l = c.flows in
    let ended = run_ends l.state c.loop-t.t c.loop-r.r c.run_past-past.result (omega (arith, c.loop-r-test.false)) c.loop-r.invariant.1 in (
      c.loop-r.invariant.0,
      next-asked (few-states c.args.model.known) c.next_defender-t.ensures,
      going_next c.args.model.known c.requires.2 l.state l.first _ l.invariant.1 c.run_past-past.ensures c.flows-test.true _ _ c.next_defender-t.ensures ended,
    )

pub flows-preserved : goal.flows-preserved
flows-preserved c =
    let l = c.flows in (
      c.loop-t.invariant.0,
      splits-next c.args.model.known l.invariant.1 c.run_past-past.ensures,
      defenders-end l.state c.loop-t.t (omega (arith, c.loop-t-test.false)) c.loop-t.invariant.2,
    )

pub returns-in-Some : goal.returns-in-Some
returns-in-Some c =
    elim c.flows-test.branch [
      | else-flows-test w ↦ absurd (none-some _ (sym c.flows.invariant.0 ∙ sym w.refused-is ∙ c.in-Some.is))
      | then-flows-test+then-loop-t-test+then-loop-r-test+in-Err w ↦
          let asked = going-transition c.flows.state w.loop-t.t w.loop-r.r w.run_past-past.result w.loop-r-test.true w.loop-r.invariant.1 in
          rw (same_Some _ _ (sym c.in-Some.is ∙ w.refused-is)) (going-stops _ _ _ _ _ _ asked _ w.in-Err.ensures)
    ]

pub returns-then-place-cert : goal.returns-then-place-cert
returns-then-place-cert c =
    elim c.flows-test.branch [
      | else-flows-test w ↦
          let ended = states-end c.flows.state (omega (arith, w.flows-test.false)) c.flows.invariant.2 in
          let here : c.flows-test.place.at ≡ c.flows.place.at = ap (λ (p : Cursor). p.at) w.place-is in
          going-left _ _ _ _ _ _ _ ended (omega (arith, here, c.if-place-cert.true)) c.fault.ensures (rw (sym here) c.at.ensures)
      | then-flows-test+then-loop-t-test+then-loop-r-test+in-Err w ↦ absurd (c.in_default.not-Some _ w.refused-is)
    ]

pub returns : goal.returns
returns c =
    elim c.flows-test.branch [
      | else-flows-test w ↦
          let ended = states-end c.flows.state (omega (arith, w.flows-test.false)) c.flows.invariant.2 in
          let here : c.flows-test.place.at ≡ c.flows.place.at = ap (λ (p : Cursor). p.at) w.place-is in
          going-ends _ _ _ _ _ _ ended c.requires.0 (omega (arith, here, c.if-place-cert.false))
      | then-flows-test+then-loop-t-test+then-loop-r-test+in-Err w ↦ absurd (c.in_default.not-Some _ w.refused-is)
    ]
