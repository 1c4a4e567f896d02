-- What a call that lends two buffers answers: both files are written, or neither is.
use Rattle.std.specs.Prelude.{ℕ, ◌≡◌, length, drop}
use Rattle.std.proofs.Math.Path.{ap, ap₂}
use mathlib.Core.List.{List, [], ◌∷◌, ◌++◌}
use Rattle.rules.specs.definitions.Answers.{Outcome, second_written, answer_without_place, filled_with, filled_each, filled}
use Rattle.answer.specs.declared.Answer.{Answer}
use Rattle.answer.specs.declared.PairAnswer.{PairAnswer}
use Rattle.answer.specs.Answered.{Says, Gives}
use Rattle.answer.specs.AnsweredLaws.{gives_as}

-- an answer with nothing written into the second buffer
abbrev pub Unwritten : Answer → PairAnswer → Type 0
Unwritten a r = (r.answer ≡ a) × (r.certificate_written ≡ 0)

-- both are written
module _ (first second one two : List ℕ) {o : Outcome} (e : filled (first ∷ second ∷ []) (one ∷ two ∷ []) ≡ o) where
  pub gives_both : {one_after two_after : List ℕ} {r : Answer} → Says (answer_without_place 0) (length first) r → one_after ≡ first ++ drop (length first) one → two_after ≡ second ++ drop (length second) two → Gives o (one_after ∷ two_after ∷ []) r
  unfolding filled filled_each filled_with
  gives_both s f g = gives_as e (record { answer = s.answer; buffers = ap₂ (λ (x y : List ℕ). x ∷ y ∷ []) f g; wrote = s.wrote })

  pub second-both : length second ≡ second_written o
  unfolding filled filled_each filled_with
  second-both = ap second_written e
