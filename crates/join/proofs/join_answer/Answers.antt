-- `join_answer` meets its contract: a model is refused, or the two are joined.
use native.Mathlib.Omega.{arith}
use Rattle.rules.specs.definitions.Bytes.{byte_at}
use Rattle.rules.specs.definitions.SoundModel.{Bytes}
use Rattle.join.specs.JoinLaws.{two-sound, two-refused}
use Rattle.join.proofs.join_answer.Goals as goal

pub returns-in-Ok : goal.returns-in-Ok
unfolding Bytes byte_at
returns-in-Ok c =
    two-sound (λ i h. omega (arith, c.shared_slice_known-1.given i)) (λ i h. omega (arith, c.shared_slice_known-2-1.given i)) _
    c.in-Ok.ensures c.join_sound.ensures

pub returns-in-Err : goal.returns-in-Err
unfolding Bytes byte_at
returns-in-Err c =
    two-refused (λ i h. omega (arith, c.shared_slice_known-1.given i)) (λ i h. omega (arith, c.shared_slice_known-2-1.given i)) _
    c.in-Err.ensures
