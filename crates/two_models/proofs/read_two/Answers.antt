-- `read_two` meets its contract: the first model is sound, or refused as file 1.
use native.Mathlib.Omega.{arith}
use mathlib.Core.Path.{refl}
use Rattle.rules.specs.definitions.Bytes.{byte_at}
use Rattle.rules.specs.definitions.SoundModel.{Bytes}
use Rattle.limits.specs.TermsBy.{current_terms}
use Rattle.transition.specs.ModelRead.{refused-told}
use Rattle.answer.specs.AnsweredLaws.{refusal-as}
use Rattle.two_models.specs.TwoModelsLaws.{sound-file, refused-first}
use Rattle.two_models.proofs.read_two.Goals as goal

pub read_second-requires : goal.read_second-requires
unfolding Bytes byte_at
read_second-requires c =
    (sound-file _ c.in-Ok.ensures refl (λ i h. omega (arith, c.shared_slice_known-1.given i)), c.scan_file.ensures.size)

pub refused_in-requires : goal.refused_in-requires
refused_in-requires c = (refused-told current_terms _ c.in-Err.ensures _ refl).1

pub returns-in-Err : goal.returns-in-Err
returns-in-Err c =
    let told = refused-told current_terms _ c.in-Err.ensures _ refl in
    refused-first _ _ _ told.0 told.1 (refusal-as _ 1 _ _ c.refused_in.ensures (omega arith) (omega arith))
