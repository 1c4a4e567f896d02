-- `reduce_answer` meets its contract: the pair is refused, or its merged model follows.
use native.Mathlib.Omega.{arith}
use Rattle.rules.specs.definitions.Bytes.{byte_at}
use Rattle.rules.specs.definitions.SoundModel.{Bytes}
use Rattle.judgement.specs.VerdictLaws.{found-accepted, found-refused}
use Rattle.reduce.specs.ReduceLaws.{pair-refused, blocks-numbered, merged-written}
use Rattle.reduce.proofs.reduce_answer.Goals as goal

pub returns-in-Err : goal.returns-in-Err
unfolding Bytes byte_at
returns-in-Err c =
    let a = c.args in
    pair-refused (λ i h. omega (arith, c.shared_slice_known-1.given i)) (λ i h. omega (arith, c.shared_slice_known-2-1.given i))
    a.out.now (c.in-Err.ensures.refused _ _ _ _)

pub overflow_add-blocks : goal.overflow_add-blocks
overflow_add-blocks c =
    omega (arith, (found-accepted c.judge_files.ensures c.in-Ok.is).inside, c.well_formed.1.0.0)

pub slice_bounds-blocks-end : goal.slice_bounds-blocks-end
slice_bounds-blocks-end c = omega (arith, (found-accepted c.judge_files.ensures c.in-Ok.is).inside)

pub write_merged-requires : goal.write_merged-requires
unfolding Bytes byte_at
write_merged-requires c =
    let a = c.args in
    let found = found-accepted c.judge_files.ensures c.in-Ok.is in (
      found.known,
      blocks-numbered (λ i h. omega (arith, c.shared_slice_known-1.given i)) (λ i h. omega (arith, c.shared_slice_known-2-1.given i)) a.out.now found,
    )

pub returns-in-Ok : goal.returns-in-Ok
unfolding Bytes byte_at
returns-in-Ok c =
    let a = c.args in
    merged-written (λ i h. omega (arith, c.shared_slice_known-1.given i)) (λ i h. omega (arith, c.shared_slice_known-2-1.given i))
    a.out.now (found-accepted c.judge_files.ensures c.in-Ok.is) c.write_merged.ensures

pub returns-in-Err-judge_files : goal.returns-in-Err-judge_files
unfolding Bytes byte_at
returns-in-Err-judge_files c =
    let a = c.args in
    pair-refused (λ i h. omega (arith, c.shared_slice_known-1.given i)) (λ i h. omega (arith, c.shared_slice_known-2-1.given i))
    a.out.now (found-refused c.judge_files.ensures c.in-Err-judge_files.is)
