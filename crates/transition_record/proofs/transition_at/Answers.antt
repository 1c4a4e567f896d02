-- `transition_at` meets its contract: each return is one way out of `transition_fault`.
use native.Mathlib.Omega.{arith}
use Rattle.std.proofs.lemmas.Result.{err_from_is_err_and}
use Rattle.transition_record.specs.TransitionLaws.{fixed-whole, not_opened, not-fixed, cut, not-entries, not-terms, stands}
use Rattle.transition_record.proofs.transition_at.Goals as goal

pub returns-in_err-open_model : goal.returns-in_err-open_model
returns-in_err-open_model c =
    let p = err_from_is_err_and c.from_residual.result c.from_residual.ensures.1 in
    rw (p.1, p.2) (not_opened _ _ _ _ _ _ _ c.in_err-open_model.ensures)

pub fixed_fault-requires : goal.fixed_fault-requires
fixed_fault-requires c = (fixed-whole _ _ c.open_model.ensures.is c.in_ok-open_model.was, omega arith)

pub returns-in_err-at_place : goal.returns-in_err-at_place
returns-in_err-at_place c =
    let p = err_from_is_err_and c.from_residual-in_err-at_place.result c.from_residual-in_err-at_place.ensures.1 in
    rw (p.1, p.2) (not-fixed _ _ _ _ _ _ _ c.open_model.ensures.is c.in_ok-open_model.was c.fixed_fault.result c.fixed_fault.ensures c.in_err-at_place.ensures)

pub fields_at-t-requires : goal.fields_at-t-requires
fields_at-t-requires c = fixed-whole _ _ c.open_model.ensures.is c.in_ok-open_model.was

pub overflow_sub-s : goal.overflow_sub-s
overflow_sub-s c = omega (arith, fixed-whole _ _ c.open_model.ensures.is c.in_ok-open_model.was, c.fields_at-t.ensures.entries)

pub returns-then-s-start : goal.returns-then-s-start
returns-then-s-start c =
    cut _ _ _ _ _ _ _ c.open_model.ensures.is c.in_ok-open_model.was c.fixed_fault.result c.fixed_fault.ensures c.at_place.result c.at_place.ensures c.in_ok-at_place.was c.fields_at-t.result c.fields_at-t.ensures
    c.fault.result _ c.fault.ensures c.at.ensures (omega arith)

pub entries_at-judged-requires : goal.entries_at-judged-requires
entries_at-judged-requires c =
    let whole = fixed-whole _ _ c.open_model.ensures.is c.in_ok-open_model.was in
    (omega arith, omega arith)

pub returns-in_err-next : goal.returns-in_err-next
returns-in_err-next c =
    let p = err_from_is_err_and c.from_residual-in_err-next.result c.from_residual-in_err-next.ensures.1 in
    rw (p.1, p.2) (
    not-entries _ _ _ _ _ _ _ c.open_model.ensures.is c.in_ok-open_model.was c.fixed_fault.result c.fixed_fault.ensures c.at_place.result c.at_place.ensures c.in_ok-at_place.was c.fields_at-t.result c.fields_at-t.ensures
    c.entries_at-judged.result c.entries_at-judged.ensures (omega (arith, fixed-whole _ _ c.open_model.ensures.is c.in_ok-open_model.was)) c.in_err-next.ensures
    )

pub terms_fault-spelled-requires : goal.terms_fault-spelled-requires
terms_fault-spelled-requires c = omega (arith, fixed-whole _ _ c.open_model.ensures.is c.in_ok-open_model.was, c.fields_at-t.ensures.entries)

pub returns-in_err-at_place-2 : goal.returns-in_err-at_place-2
returns-in_err-at_place-2 c =
    let p = err_from_is_err_and c.from_residual-in_err-at_place-2.result c.from_residual-in_err-at_place-2.ensures.1 in
    rw (p.1, p.2) (
    not-terms _ _ _ _ _ _ _ c.open_model.ensures.is c.in_ok-open_model.was c.fixed_fault.result c.fixed_fault.ensures c.at_place.result c.at_place.ensures c.in_ok-at_place.was c.fields_at-t.result c.fields_at-t.ensures
    c.entries_at-judged.result c.entries_at-judged.ensures (omega (arith, fixed-whole _ _ c.open_model.ensures.is c.in_ok-open_model.was)) c.at_place-2.result c.at_place-2.ensures c.in_ok-next.was
    c.terms_fault-spelled.result c.terms_fault-spelled.ensures c.in_err-at_place-2.ensures
    )

pub returns : goal.returns
returns c =
    stands _ _ _ _ _ _ _ c.open_model.ensures.is c.in_ok-open_model.was c.fixed_fault.result c.fixed_fault.ensures c.at_place.result c.at_place.ensures c.in_ok-at_place.was c.fields_at-t.result c.fields_at-t.ensures
    c.entries_at-judged.result c.entries_at-judged.ensures (omega (arith, fixed-whole _ _ c.open_model.ensures.is c.in_ok-open_model.was)) c.at_place-2.result c.at_place-2.ensures c.in_ok-next.was
    c.terms_fault-spelled.result c.terms_fault-spelled.ensures c.at_place-3.result c.at_place-3.ensures c.in_ok-at_place-2.was
