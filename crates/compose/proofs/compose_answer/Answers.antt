-- `compose_answer` meets its contract: a model is refused, or the two are composed.
use native.Mathlib.Omega.{arith}
use Rattle.rules.specs.definitions.Bytes.{byte_at}
use Rattle.rules.specs.definitions.SoundModel.{Bytes}
use Rattle.compose.specs.ComposeLaws.{two-sound, two-refused}
use Rattle.compose.proofs.compose_answer.Goals as goal

pub returns-in-Ok : goal.returns-in-Ok
unfolding Bytes byte_at
returns-in-Ok c =
    two-sound (λ i h. omega (arith, c.shared_slice_known-1.given i))
    (λ i h. omega (arith, c.shared_slice_known-2-1.given i)) _
    c.in-Ok.ensures c.compose_sound.ensures

pub returns-in-Err : goal.returns-in-Err
unfolding Bytes byte_at
returns-in-Err c =
    two-refused (λ i h. omega (arith, c.shared_slice_known-1.given i))
    (λ i h. omega (arith, c.shared_slice_known-2-1.given i)) _
    c.in-Err.ensures
