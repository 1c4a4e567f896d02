-- `fetch_run` meets its contract: each case of the scan is a case of the answer.
use mathlib.Core.Path.{◌∙◌, ap₂}
use native.Mathlib.Omega.{arith}
use Rattle.std.proofs.lemmas.Result.{err_from_is_err_and}
use Rattle.rules.specs.definitions.Answers.{run_answer}
use Rattle.rules.specs.definitions.Bytes.{byte_at}
use Rattle.rules.specs.definitions.Limits.{current}
use Rattle.rules.specs.definitions.SoundModel.{Bytes}
use Rattle.rules.proofs.argument.AnswerLaws.{fetch-refused, fetch-no-state, fetch-runs}
use Rattle.limits.specs.TermsBy.{current_terms}
use Rattle.model.specs.Scanned.{head-refused}
use Rattle.transition.specs.KnownLaws.{known, few-states}
use Rattle.fetch.proofs.fetch_run.Goals as goal

pub returns-in_err-head_fault : goal.returns-in_err-head_fault
returns-in_err-head_fault c =
    let p = err_from_is_err_and c.from_residual.result c.from_residual.ensures.1 in
    rw (p.1, p.2) (fetch-refused current _ _ _ _ (head-refused current_terms _ c.in_err-head_fault.field-0.0 c.in_err-head_fault.ensures))

pub returns-in_err-m : goal.returns-in_err-m
returns-in_err-m c =
    let p = err_from_is_err_and c.from_residual-in_err-m.result c.from_residual-in_err-m.ensures.1 in
    let told = c.in_err-m.ensures in
    rw (p.1, p.2) (fetch-refused current c.args.s.now _ _ _ told.answer)

pub returns-then-n-state : goal.returns-then-n-state
returns-then-n-state c = let told = c.in_ok-m.ensures in fetch-no-state current c.args.s.now _ _ _ _ _ told.answer (omega arith)

pub invariant_of-found : goal.invariant_of-found
unfolding Bytes byte_at
invariant_of-found c =
    let told = c.in_ok-m.ensures in
    record { known = known current_terms c.args.s.now _ _ _ _ _ (λ i h. omega (arith, c.shared_slice_known-1.given i)) told.answer told.places told.size }

pub run_of-run-requires : goal.run_of-run-requires
unfolding Bytes byte_at
run_of-run-requires c =
    let told = c.in_ok-m.ensures in
    omega (arith, few-states (known current_terms c.args.s.now _ _ _ _ _ (λ i h. omega (arith, c.shared_slice_known-1.given i)) told.answer told.places told.size))

pub returns : goal.returns
returns c =
    let told = c.in_ok-m.ensures in
    ap₂ run_answer c.run_of-run.ensures.start c.run_of-run.ensures.end ∙ fetch-runs current c.args.s.now _ _ _ _ _ told.answer (omega arith)
