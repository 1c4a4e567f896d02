-- `read_head` meets its contract: one field, two, or more.
use native.Mathlib.Omega.{arith}
use Rattle.std.proofs.Common.{⊎_elim}
use Rattle.prism_line.specs.LineLaws.{fields-two, head-one, head-two, no-states, no-choices, no-transitions, head-beyond, head-is}
use Rattle.prism_line.proofs.read_head.Goals as goal

pub returns-then-first-s : goal.returns-then-first-s
returns-then-first-s c = head-one _ _ c.piece_end-first.ensures c.if-first-s.true

pub returns-then-second-s : goal.returns-then-second-s
returns-then-second-s c = head-two _ _ c.piece_end-first.ensures c.if-first-s.false _ c.piece_end-second.ensures c.if-second-s.true

pub returns-in_err-states : goal.returns-in_err-states
returns-in_err-states c =
    let two = fields-two _ _ c.piece_end-first.ensures c.if-first-s.false _ c.piece_end-second.ensures c.if-second-s.false in
    rw c.from_residual.ensures (no-states two c.in_err-states.ensures)

pub returns-in_err-choices : goal.returns-in_err-choices
returns-in_err-choices c =
    let two = fields-two _ _ c.piece_end-first.ensures c.if-first-s.false _ c.piece_end-second.ensures c.if-second-s.false in
    rw c.from_residual-in_err-choices.ensures (no-choices two c.in_err-choices.ensures)

pub returns-in_err-transitions : goal.returns-in_err-transitions
returns-in_err-transitions c =
    let two = fields-two _ _ c.piece_end-first.ensures c.if-first-s.false _ c.piece_end-second.ensures c.if-second-s.false in
    rw c.from_residual-in_err-transitions.ensures (no-transitions two c.in_err-transitions.ensures)

pub returns-then-states-eq0 : goal.returns-then-states-eq0
returns-then-states-eq0 c =
    let two = fields-two _ _ c.piece_end-first.ensures c.if-first-s.false _ c.piece_end-second.ensures c.if-second-s.false in
    head-beyond two c.in_ok-states.ensures c.in_ok-choices.ensures c.in_ok-transitions.ensures
    (λ r. ⊎_elim (λ e. omega (arith, r.some_state)) (λ h. omega (arith, r.states, h.1)) c.then-states-eq0.either)

pub returns-then-choices-gt-TRANSITIONS : goal.returns-then-choices-gt-TRANSITIONS
returns-then-choices-gt-TRANSITIONS c =
    let two = fields-two _ _ c.piece_end-first.ensures c.if-first-s.false _ c.piece_end-second.ensures c.if-second-s.false in
    head-beyond two c.in_ok-states.ensures c.in_ok-choices.ensures c.in_ok-transitions.ensures
    (λ r. ⊎_elim (λ e. omega (arith, r.choices)) (λ h. omega (arith, r.transitions, h.1)) c.then-choices-gt-TRANSITIONS.either)

pub returns : goal.returns
returns c =
    let two = fields-two _ _ c.piece_end-first.ensures c.if-first-s.false _ c.piece_end-second.ensures c.if-second-s.false in
    head-is two c.in_ok-states.ensures c.in_ok-choices.ensures c.in_ok-transitions.ensures (omega arith) (omega arith) (omega arith) (omega arith)
