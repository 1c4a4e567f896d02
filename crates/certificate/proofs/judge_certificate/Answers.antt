-- `judge_certificate` meets its contract.
use native.Mathlib.Omega.{arith}
use Prim.Native.Nat.{◌+◌, ◌-◌}
use mathlib.Core.Path.{◌≡◌, refl}
use mathlib.Core.List.{[]}
use lib.ListN.{drop, length-drop}
use lib.Seq.{length-take-le}
use Rattle.std.proofs.lemmas.Result.{err_from_is_err_and}
use Rattle.rules.specs.definitions.Certificate.{refutation_count}
use Rattle.field.specs.Taken.{taken_at}
use Rattle.transition.specs.KnownLaws.{few-states}
use Rattle.certificate.specs.Labels.{labels-small, labels-hold}
use Rattle.certificate.specs.Refuting.{head-stops, head-whole, refuting-start, refuting-ends}
use Rattle.certificate.proofs.judge_certificate.Goals as goal

pub returns-in_err-head_fault : goal.returns-in_err-head_fault
returns-in_err-head_fault c =
    let p = err_from_is_err_and c.from_residual.result c.from_residual.ensures.1 in
    rw (p.1, p.2) (head-stops _ _ _ _ (c.in_err-head_fault.ensures.is _))

pub overflow_add-model : goal.overflow_add-model
overflow_add-model c = omega (arith, few-states c.args.model.known)

pub slice_bounds-start-end : goal.slice_bounds-start-end
slice_bounds-start-end c = omega (arith, c.args.model.known.labels)

pub start-requires : goal.start-requires
start-requires c =
    let k = c.args.model.known in
    let a = c.args in
    let part : 8 + a.model.states - 8 ≡ a.model.states = omega arith in (
      few-states k,
      omega (arith, part, k.labels, length-take-le (8 + a.model.states - 8) (drop 8 a.model.file.now) (omega (arith, part, k.labels, length-drop 8 a.model.file.now))),
      labels-small k _ part,
      c.no_rows-rows.ensures.whole,
    )

pub pair-refutations-requires : goal.pair-refutations-requires
pair-refutations-requires c =
    omega (arith, c.new.ensures, head-whole _ _ (c.in_ok-head_fault.ensures.is []).is)

pub judge_refutations-requires : goal.judge_refutations-requires
unfolding refutation_count
judge_refutations-requires c =
    let a = c.args in
    let part : 8 + a.model.states - 8 ≡ a.model.states = omega arith in (
      c.requires,
      refuting-start _ _ _ _ (c.in_ok-head_fault.ensures.is _) (taken_at c.pair-refutations.ensures _ c.new.ensures) refl
          (labels-hold c.args.model.known _ part c.start.ensures),
    )

pub returns-in_err-blocks : goal.returns-in_err-blocks
returns-in_err-blocks c =
    let p = err_from_is_err_and c.from_residual-in_err-blocks.result c.from_residual-in_err-blocks.ensures.1 in
    rw (p.1, p.2) c.in_err-blocks.ensures.stops

pub judge_blocks-requires : goal.judge_blocks-requires
judge_blocks-requires c = (c.in_ok-blocks.ensures.passes.inside, c.requires)

pub returns : goal.returns
returns c = refuting-ends _ _ _ _ c.in_ok-blocks.ensures.passes (omega arith) c.judge_blocks.ensures
