-- The call that joins keeps its demands.
use Rattle.std.specs.Prelude.{ℕ, ◌<◌, ◌≡◌, List, [], ◌∷◌, length}
use Rattle.std.proofs.Common.{sym, subst, inr}
use Rattle.std.proofs.Math.Logic.{inl}
use native.Mathlib.Omega.{arith}
use Rattle.rules.specs.definitions.Limits.{Limits, limits, longest_model}
use Rattle.rules.specs.definitions.Reading.{read_whole}
use Rattle.rules.specs.definitions.SoundModel.{Bytes, FitsWidths}
use Rattle.rules.specs.definitions.Accepted.{FileOf}
use Rattle.rules.specs.definitions.Answers.{left_in}
use Rattle.rules.proofs.argument.SoundModelLaws.{limits-fit}
use Rattle.rules.proofs.argument.AnswerLaws.{NoState}
use Rattle.rules.proofs.argument.LengthLaws.{sound-within, longest-file}
use Rattle.rules.proofs.argument.MadeLaws.{within-passes, passes-within, Making, two-number, two-short, two-zero, makes-model}
use Rattle.joined.specs.definitions.Joined.{joined}
use Rattle.joined.specs.definitions.JoinAnswer.{passes_joined, join_outcome, JoinNumber, JoinDemands}
use Rattle.joined.proofs.argument.JoinedLaws.{joined-sound}

-- the joined model passes no limit exactly where it is sound
pub joining : (L : Limits) → Making L joined (passes_joined L)
joining L =
    record {
      sound = λ M N f g e. joined-sound L M N f g (passes-within L (joined M N) e);
      within = λ M N f g s. sym (within-passes L (joined M N) (sound-within L (joined M N) s));
    }

module _ (L : Limits) (widths : FitsWidths L) (first second before : List ℕ) (b : Bytes first) (c : Bytes second) where
  join-number : JoinNumber L.terms (join_outcome L (read_whole L) first second before).answer.number
  unfolding JoinNumber
  join-number =
      two-number L widths joined (passes_joined L) (joining L) 25 26 (λ z. omega (arith, z)) (λ z. omega (arith, z)) first second before b c (JoinNumber L.terms)
      (λ k h. inl h) (inr (omega arith, omega arith)) (inr (omega arith, omega arith))

  -- 26 only for a buffer shorter than the longest model
  pub join-short : (join_outcome L (read_whole L) first second before).answer.number ≡ 26 → length before < longest_model L
  join-short =
      two-short L widths joined (passes_joined L) (joining L) 25 26 (λ z. omega (arith, z)) (λ z. omega (arith, z)) first second before b c (longest_model L) (omega arith) (λ z. omega (arith, z)) (λ z. omega (arith, z))
      (λ M N f g p. longest-file L (joined M N) (passes-within L (joined M N) p))

  -- document 02, K2
  pub join-zero : NoState (join_outcome L (read_whole L) first second before).answer
  join-zero = two-zero L widths joined (passes_joined L) (joining L) 25 26 (λ z. omega (arith, z)) (λ z. omega (arith, z)) first second before b c

  pub join-demands : (after : List ℕ) (number : ℕ) → number ≡ (join_outcome L (read_whole L) first second before).answer.number → after ∷ [] ≡ left_in (join_outcome L (read_whole L) first second before) → JoinDemands L (read_whole L) (FileOf L) first second before after number
  join-demands after number e left =
      makes-model L widths joined (passes_joined L) (joining L) 25 26 (λ z. omega (arith, z)) (λ z. omega (arith, z)) first second before b c after number e left
      (JoinNumber L.terms) (subst (JoinNumber L.terms) (sym e) join-number)

-- of less than 8,072 bytes
pub join-short-today : (first second before : List ℕ) → Bytes first → Bytes second → (join_outcome limits (read_whole limits) first second before).answer.number ≡ 26 → length before < 8072
join-short-today = join-short limits limits-fit
