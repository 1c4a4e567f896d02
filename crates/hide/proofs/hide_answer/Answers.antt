-- `hide_answer` meets its contract: the model is refused, or its actions are hidden.
use native.Mathlib.Omega.{arith}
use mathlib.Core.Path.{refl}
use Rattle.rules.specs.definitions.Bytes.{byte_at}
use Rattle.rules.specs.definitions.SoundModel.{Bytes}
use Rattle.limits.specs.TermsBy.{current_terms}
use Rattle.transition.specs.ModelRead.{refused-told}
use Rattle.answer.specs.AnsweredLaws.{refusal-as}
use Rattle.hide.specs.HideLaws.{found-known, found-whole, model-hidden, model-refused}
use Rattle.hide.proofs.hide_answer.Goals as goal

pub invariant_of-found : goal.invariant_of-found
unfolding Bytes byte_at
invariant_of-found c =
    record { known = found-known c.in-Ok.ensures refl (λ i h. omega (arith, c.shared_slice_known-1.given i)) }

pub hide_sound-requires : goal.hide_sound-requires
unfolding Bytes byte_at
hide_sound-requires c =
    found-whole c.in-Ok.ensures refl
    (λ i h. omega (arith, c.shared_slice_known-1.given i))

pub refused_in-requires : goal.refused_in-requires
refused_in-requires c = (refused-told current_terms _ c.in-Err.ensures _ refl).1

pub returns-in-Ok : goal.returns-in-Ok
unfolding Bytes byte_at
returns-in-Ok c =
    model-hidden _ _ _ (λ i h. omega (arith, c.shared_slice_known-1.given i))
    c.in-Ok.ensures refl c.hide_sound.ensures

pub returns-in-Err : goal.returns-in-Err
unfolding Bytes byte_at
returns-in-Err c =
    let told = refused-told current_terms _ c.in-Err.ensures _ refl in
    model-refused _ _ _ (λ i h. omega (arith, c.shared_slice_known-1.given i)) _
    told.0 told.1 (refusal-as _ 1 _ _ c.refused_in.ensures (omega arith) (omega arith))
