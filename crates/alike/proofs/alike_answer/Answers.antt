-- `alike_answer` meets its contract: the pair is refused, or its blocks are compared.
use native.Mathlib.Omega.{arith}
use mathlib.Core.Path.{refl}
use Rattle.rules.specs.definitions.Bytes.{byte_at}
use Rattle.rules.specs.definitions.SoundModel.{Bytes}
use Rattle.judgement.specs.VerdictLaws.{found-accepted, found-refused}
use Rattle.alike.specs.AlikeLaws.{pair-refused, pair-compared}
use Rattle.alike.proofs.alike_answer.Goals as goal

pub returns-in-Err : goal.returns-in-Err
unfolding Bytes byte_at
returns-in-Err c =
    rw c.unsaid.ensures (
    pair-refused (λ i h. omega (arith, c.shared_slice_known-1.given i)) (λ i h. omega (arith, c.shared_slice_known-2-1.given i)) _
    (c.in-Err.ensures.refused _ _ _ _) refl
    )

pub overflow_add-blocks : goal.overflow_add-blocks
overflow_add-blocks c =
    omega (arith, (found-accepted c.judge_files.ensures c.in-Ok.is).inside, c.well_formed.1.1.0.0)

pub slice_bounds-blocks-end : goal.slice_bounds-blocks-end
slice_bounds-blocks-end c = omega (arith, (found-accepted c.judge_files.ensures c.in-Ok.is).inside)

pub returns-in-Ok : goal.returns-in-Ok
unfolding Bytes byte_at
returns-in-Ok c =
    pair-compared (λ i h. omega (arith, c.shared_slice_known-1.given i)) (λ i h. omega (arith, c.shared_slice_known-2-1.given i)) _
    (found-accepted c.judge_files.ensures c.in-Ok.is) c.compare.ensures

pub returns-in-Err-judge_files : goal.returns-in-Err-judge_files
unfolding Bytes byte_at
returns-in-Err-judge_files c =
    rw c.unsaid-in-Err-judge_files.ensures (
    pair-refused (λ i h. omega (arith, c.shared_slice_known-1.given i)) (λ i h. omega (arith, c.shared_slice_known-2-1.given i)) _
    (found-refused c.judge_files.ensures c.in-Err-judge_files.is) refl
    )
