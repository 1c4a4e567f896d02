-- `sheet_answer` meets its contract: the pair is refused, or its sheet follows.
use native.Mathlib.Omega.{arith}
use Rattle.rules.specs.definitions.Bytes.{byte_at}
use Rattle.rules.specs.definitions.SoundModel.{Bytes}
use Rattle.judgement.specs.VerdictLaws.{found-accepted, found-refused}
use Rattle.sheet.specs.SheetLaws.{pair-refused, blocks-ready, sheet-written}
use Rattle.sheet.proofs.sheet_answer.Goals as goal

pub returns-in-Err : goal.returns-in-Err
unfolding Bytes byte_at
returns-in-Err c =
    let a = c.args in
    pair-refused (λ i h. omega (arith, c.shared_slice_known-1.given i)) (λ i h. omega (arith, c.shared_slice_known-2-1.given i))
    a.out.now (c.in-Err.ensures.refused _ _ _ _)

pub overflow_add-at : goal.overflow_add-at
overflow_add-at c =
    omega (arith, (found-accepted c.judge_files.ensures c.in-Ok.is).inside, c.well_formed.1.0.0)

pub slice_bounds-write_sheet-end : goal.slice_bounds-write_sheet-end
slice_bounds-write_sheet-end c = omega (arith, (found-accepted c.judge_files.ensures c.in-Ok.is).inside)

pub write_sheet-requires : goal.write_sheet-requires
unfolding Bytes byte_at
write_sheet-requires c =
    let a = c.args in
    blocks-ready (λ i h. omega (arith, c.shared_slice_known-1.given i)) (λ i h. omega (arith, c.shared_slice_known-2-1.given i))
    a.out.now (found-accepted c.judge_files.ensures c.in-Ok.is)

pub returns-in-Ok : goal.returns-in-Ok
unfolding Bytes byte_at
returns-in-Ok c =
    let a = c.args in
    sheet-written (λ i h. omega (arith, c.shared_slice_known-1.given i)) (λ i h. omega (arith, c.shared_slice_known-2-1.given i))
    a.out.now (found-accepted c.judge_files.ensures c.in-Ok.is) c.write_sheet.ensures

pub returns-in-Err-judge_files : goal.returns-in-Err-judge_files
unfolding Bytes byte_at
returns-in-Err-judge_files c =
    let a = c.args in
    pair-refused (λ i h. omega (arith, c.shared_slice_known-1.given i)) (λ i h. omega (arith, c.shared_slice_known-2-1.given i))
    a.out.now (found-refused c.judge_files.ensures c.in-Err-judge_files.is)
