-- `judge_refutations` meets its contract. Before each refutation the rows hold the pairs left (`Refuting`).
use native.Mathlib.Omega.{arith}
use mathlib.Core.Path.{refl, sym}
use Rattle.std.proofs.lemmas.Result.{err_from_is_err_and}
use Rattle.transition.specs.KnownLaws.{few-states}
use Rattle.certificate.specs.Refuting.{refuting-as, refuting-stops, refuting-passes}
use Rattle.certificate.proofs.judge_refutations.Goals as goal

pub loop-init : goal.loop-init
loop-init c =
    (refuting-as c.requires.1 _ _ (omega arith) (sym c.new-place.ensures), record { first = refl; second = refl; third = refl })

pub judge_refutation-requires : goal.judge_refutation-requires
judge_refutation-requires c =
    (c.loop.invariant.0.inside, c.loop.invariant.1, c.requires.0)

pub returns-in_err-refuted : goal.returns-in_err-refuted
returns-in_err-refuted c =
    let p = err_from_is_err_and c.from_residual.result c.from_residual.ensures.1 in
    rw (p.1, p.2)
    (record { stops = refuting-stops _ _ _ _ c.loop.invariant.0 (omega arith) c.in_err-refuted.ensures; passes = tt })

pub remove-requires : goal.remove-requires
remove-requires c =
    let pair = c.in_ok-refuted.ensures.refutes in
    let few = few-states c.args.model.known in
    (omega (arith, pair.first, few), omega (arith, pair.second, few))

pub loop-preserved : goal.loop-preserved
loop-preserved c =
    let judged = c.in_ok-refuted.ensures in
    (refuting-passes _ _ _ _ c.loop.invariant.0 (omega arith) judged (few-states c.args.model.known) c.remove.ensures _ (omega arith), judged.tables)

pub returns : goal.returns
returns c = record { stops = tt; passes = refuting-as c.loop.invariant.0 _ _ (omega arith) refl }
