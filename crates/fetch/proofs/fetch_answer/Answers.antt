-- `fetch_answer` meets its contract: each case of the fetch is answered as `answer_of` says.
-- what is answered for a case of the fetch, and the state that is fetched
use native.Mathlib.Omega.{arith}
use Prim.Native.Nat.{ℕ, ◌≤◌}
use mathlib.Core.List.{List}
use mathlib.Core.Path.{◌≡◌, refl, ◌∙◌, ap}
use lib.ListN.{length}
use Rattle.rules.specs.definitions.Limits.{current}
use Rattle.rules.specs.definitions.Bytes.{byte_at}
use Rattle.rules.specs.definitions.SoundModel.{Bytes}
use Rattle.rules.specs.definitions.Answers.{Answer, refusal_in, fetch_answer}
use Rattle.rules.specs.definitions.Faults.{Fault}
use Rattle.rules.proofs.argument.AnswerLaws.{fetch-inside}
use Rattle.fetch.specs.Fetched.{FetchAnswered, fetch-answered}
use Rattle.answer.specs.declared.Answer as declared
use Rattle.answer.specs.Answered.{Says}
use Rattle.answer.specs.AnsweredLaws.{refusal-as}
use Rattle.fetch.proofs.fetch_answer.Goals as goal

told : {a b : Answer} (s : List ℕ) (x y : ℕ) {r : declared.Answer} → Bytes s → Says a 0 r → a ≡ b → b ≡ fetch_answer current s x → x ≡ y → FetchAnswered s y r
told s x y b t e f g = fetch-answered s y b (record { answer = t.answer ∙ e ∙ f ∙ ap (fetch_answer current s) g; wrote = t.wrote })

-- a refusal that a fetch answers is at a place of the model
placed : (s : List ℕ) (state : ℕ) (f : Fault) (place : ℕ) → refusal_in f 1 place (length s) ≡ fetch_answer current s state → place ≤ length s
unfolding refusal_in
placed s state f place e = omega (arith, ap (λ (a : Answer). a.stretch_start) e, ap (λ (a : Answer). a.stretch_length) e, fetch-inside current s state)

pub refused_in-requires : goal.refused_in-requires
refused_in-requires c = placed _ _ _ _ c.in-Err.ensures

pub returns-in-Ok-Some : goal.returns-in-Ok-Some
unfolding Bytes byte_at
returns-in-Ok-Some c = told _ _ _ (λ i h. omega (arith, c.shared_slice_known-1.given i)) c.run_from.ensures refl (rw c.in-Ok-Some.field-0-is at c.in-Ok-Some.ensures) (omega arith)

pub returns-in-Ok-None : goal.returns-in-Ok-None
unfolding Bytes byte_at
returns-in-Ok-None c = told _ _ _ (λ i h. omega (arith, c.shared_slice_known-1.given i)) c.refused.ensures refl (rw c.in-Ok-None.field-0-is at c.in-Ok-None.ensures) (omega arith)

pub returns-in-Err : goal.returns-in-Err
unfolding Bytes byte_at
returns-in-Err c =
    told _ _ _ (λ i h. omega (arith, c.shared_slice_known-1.given i)) (refusal-as _ 1 _ _ c.refused_in.ensures (omega arith) (omega arith)) refl c.in-Err.ensures (omega arith)
