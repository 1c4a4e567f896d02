-- `judge_files` meets its contract: the model is sound and its certificate judged, or refused.
use native.Mathlib.Omega.{arith}
use mathlib.Core.Path.{refl}
use Rattle.rules.specs.definitions.Bytes.{byte_at}
use Rattle.rules.specs.definitions.SoundModel.{Bytes}
use Rattle.answer.specs.AnsweredLaws.{refusal-as}
use Rattle.judgement.specs.KindsRead.{sound-by, refused-by}
use Rattle.judgement.specs.VerdictLaws.{refused_as}
use Rattle.judgement.proofs.judge_files.Goals as goal

pub invariant_of-sound : goal.invariant_of-sound
unfolding Bytes byte_at
invariant_of-sound c = record { known = (sound-by _ _ c.args.kind c.in-Ok.ensures refl (λ i h. omega (arith, c.shared_slice_known-1.given i))).0 }

pub judge_sound-requires : goal.judge_sound-requires
unfolding Bytes byte_at
judge_sound-requires c = (sound-by _ _ c.args.kind c.in-Ok.ensures refl (λ i h. omega (arith, c.shared_slice_known-1.given i))).1

pub refused_in-requires : goal.refused_in-requires
refused_in-requires c = omega (arith, (refused-by _ _ _ c.args.kind c.in-Err.ensures refl).1)

pub returns-in-Err : goal.returns-in-Err
returns-in-Err c =
    let told = refused-by _ _ _ c.args.kind c.in-Err.ensures refl in
    refused_as _ _ _ _ _ _ told.0 told.1 (refusal-as _ 1 _ _ c.refused_in.ensures (omega arith) (omega arith))
