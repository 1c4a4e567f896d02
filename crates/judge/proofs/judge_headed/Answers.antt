-- `judge_headed` meets its contract: the pair is refused, or its blocks are written.
use native.Mathlib.Omega.{arith}
use Rattle.rules.specs.definitions.Bytes.{byte_at}
use Rattle.rules.specs.definitions.SoundModel.{Bytes}
use Rattle.judgement.specs.VerdictLaws.{found-accepted, found-refused}
use Rattle.judge.specs.JudgeLaws.{pair-refused, blocks-fit, blocks-written}
use Rattle.judge.proofs.judge_headed.Goals as goal

pub overflow_add-at : goal.overflow_add-at
overflow_add-at c =
    omega (arith, (found-accepted c.judge_files.ensures c.in-Ok.is).inside, c.well_formed.1.1.0.0)

pub slice_bounds-write_blocks-end : goal.slice_bounds-write_blocks-end
slice_bounds-write_blocks-end c = omega (arith, (found-accepted c.judge_files.ensures c.in-Ok.is).inside)

pub write_blocks-requires : goal.write_blocks-requires
unfolding Bytes byte_at
write_blocks-requires c =
    let a = c.args in
    blocks-fit a.kind (λ i h. omega (arith, c.shared_slice_known-1.given i)) (λ i h. omega (arith, c.shared_slice_known-2-1.given i))
    a.blocks.now (found-accepted c.judge_files.ensures c.in-Ok.is)

pub returns-in-Ok : goal.returns-in-Ok
unfolding Bytes byte_at
returns-in-Ok c =
    let a = c.args in
    blocks-written a.kind (λ i h. omega (arith, c.shared_slice_known-1.given i)) (λ i h. omega (arith, c.shared_slice_known-2-1.given i))
    a.blocks.now (found-accepted c.judge_files.ensures c.in-Ok.is) c.write_blocks.ensures

pub returns-in-Err : goal.returns-in-Err
unfolding Bytes byte_at
returns-in-Err c =
    let a = c.args in
    pair-refused a.kind (λ i h. omega (arith, c.shared_slice_known-1.given i)) (λ i h. omega (arith, c.shared_slice_known-2-1.given i))
    a.blocks.now (found-refused c.judge_files.ensures c.in-Err.is)
