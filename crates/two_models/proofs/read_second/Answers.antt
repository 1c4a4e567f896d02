-- `read_second` meets its contract: the second model is sound too, or refused as file 3.
use native.Mathlib.Omega.{arith}
use mathlib.Core.Path.{refl}
use Rattle.rules.specs.definitions.Bytes.{byte_at}
use Rattle.rules.specs.definitions.SoundModel.{Bytes}
use Rattle.limits.specs.TermsBy.{current_terms}
use Rattle.transition.specs.ModelRead.{refused-told}
use Rattle.answer.specs.AnsweredLaws.{refusal-as}
use Rattle.two_models.specs.TwoModelsLaws.{both-sound, refused-second}
use Rattle.two_models.proofs.read_second.Goals as goal

pub refused_in-requires : goal.refused_in-requires
refused_in-requires c = (refused-told current_terms _ c.in-Err.ensures _ refl).1

pub returns-in-Ok : goal.returns-in-Ok
unfolding Bytes byte_at
returns-in-Ok c =
    both-sound _ _ c.requires.0 c.in-Ok.ensures refl (λ i h. omega (arith, c.shared_slice_known-2-1.given i))

pub returns-in-Err : goal.returns-in-Err
returns-in-Err c =
    let told = refused-told current_terms _ c.in-Err.ensures _ refl in
    refused-second _ _ _ c.requires.0 told.0 told.1 (refusal-as _ 3 _ _ c.refused_in.ensures (omega arith) (omega arith))
