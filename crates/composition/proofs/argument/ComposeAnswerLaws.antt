-- The call that composes two models keeps its demands.
use Rattle.std.specs.Prelude.{ℕ, ◌<◌, ◌≡◌, List, [], ◌∷◌, length, take}
use Rattle.std.proofs.Common.{sym, ◌∙◌, ap, inr}
use Rattle.std.proofs.Math.Path.{subst}
use Rattle.std.proofs.Math.Logic.{inl}
use native.Mathlib.Omega.{arith}
use Rattle.bisimulation.specs.definitions.StepRule.{Met}
use Rattle.bisimulation.specs.definitions.Largest.{Bisimulation, Links}
use Rattle.bisimulation.specs.definitions.Composed.{LinkedBeside}
use Rattle.bisimulation.proofs.argument.ComposedLaws.{composed_bisimulation}
use Rattle.rules.specs.definitions.Limits.{Limits, current, longest_model}
use Rattle.rules.specs.definitions.Model.{Model, automaton_of}
use Rattle.rules.specs.definitions.Reading.{read_whole}
use Rattle.rules.specs.definitions.SoundModel.{Bytes, SoundModel, FitsWidths}
use Rattle.rules.specs.definitions.Accepted.{FileOf}
use Rattle.rules.specs.definitions.Answers.{Outcome, answer_without_place, unwritten, left_in, first_written, first_lent}
use Rattle.rules.specs.definitions.Made.{made_outcome, OfTwo, MakesModel}
use Rattle.rules.proofs.argument.SoundModelLaws.{current-fit, sound-automaton}
use Rattle.rules.proofs.argument.AnswerLaws.{NoState}
use Rattle.rules.proofs.argument.LengthLaws.{longest-file}
use Rattle.rules.proofs.argument.MadeLaws.{made-cases, both_read, two-number, two-short, two-zero, makes-model}
use Rattle.composition.specs.definitions.Composition.{composed, composed_file}
use Rattle.composition.specs.definitions.ComposeAnswer.{passes_composed, compose_outcome, ComposeNumber, LinksBeside, ComposeDemands}
use Rattle.composition.proofs.argument.CompositionAutomaton.{composed-automaton}
use Rattle.composition.proofs.argument.SoundComposition.{passes-composed, composing}
use Rattle.composition.proofs.argument.WrittenLaws.{wrote_first, file-written, file-read, one-file}

-- 'then linking (s,e) to (t,e) for linked s, t does so on the composition', for relations of any kind and within whatever limits
pub composed-bisimulation : (L : Limits) (M N : Model) → SoundModel L M → SoundModel L N → (W : ℕ → ℕ → Type 0) → Bisimulation Met (automaton_of M) W → Bisimulation Met (automaton_of (composed M N)) (LinkedBeside (length N.labels) W)
unfolding automaton_of
composed-bisimulation L M N f g =
    composed_bisimulation (automaton_of M) (automaton_of N) (automaton_of (composed M N)) (sound-automaton L N g)
    (composed-automaton M N f.transitions g.transitions)

module _ (L : Limits) (widths : FitsWidths L) (left right before : List ℕ) (b : Bytes left) (c : Bytes right) where
  abbrev number_of : Outcome → ℕ
  number_of o = o.answer.number

  abbrev outcome : Outcome
  outcome = compose_outcome L (read_whole L) left right before

  pub compose-number : ComposeNumber L.terms (number_of outcome)
  unfolding ComposeNumber
  compose-number =
      two-number L widths composed (passes_composed L) (composing L) 37 38 (λ z. omega (arith, z)) (λ z. omega (arith, z)) left right before b c (ComposeNumber L.terms)
      (λ k h. inl h) (inr (omega arith, omega arith)) (inr (omega arith, omega arith))

  -- 38 only for a buffer shorter than the longest model
  pub compose-short : number_of outcome ≡ 38 → length before < longest_model L
  compose-short =
      two-short L widths composed (passes_composed L) (composing L) 37 38 (λ z. omega (arith, z)) (λ z. omega (arith, z)) left right before b c
      (longest_model L) (omega arith) (λ z. omega (arith, z)) (λ z. omega (arith, z))
      (λ M N f g p. longest-file L (composed M N) (passes-composed L M N p).sizes)

  -- document 02, K2
  pub compose-zero : NoState outcome.answer
  compose-zero = two-zero L widths composed (passes_composed L) (composing L) 37 38 (λ z. omega (arith, z)) (λ z. omega (arith, z)) left right before b c

  -- what is made of the two
  abbrev composes : OfTwo
  composes M N = made_outcome 37 38 (passes_composed L M N) (composed M N)

  -- the bytes written are the composition's
  module _ (M N : Model) (f : FileOf L left M) (g : FileOf L right N) where
    wrote : number_of outcome ≡ 0 → wrote_first outcome ≡ composed_file M N
    unfolding unwritten answer_without_place
    wrote =
        subst (λ (o : Outcome). number_of o ≡ 0 → wrote_first o ≡ composed_file M N)
        (both_read (read_whole L) composes left right (before ∷ []) (file-read L widths left M f) (file-read L widths right N g))
        (made-cases 37 38 (passes_composed L M N) (composed M N) (before ∷ []) (λ o. number_of o ≡ 0 → wrote_first o ≡ composed_file M N)
        (λ p z. absurd (omega (arith, z)))
        (λ p. file-written 38 (composed_file M N) before (λ z. omega (arith, z))))

  pub compose-demands : (after : List ℕ) (number : ℕ) → number ≡ number_of outcome → after ∷ [] ≡ left_in outcome → ComposeDemands L (read_whole L) (FileOf L) left right before after number
  compose-demands after number e lent = record { makes = made; links = links }
    where
      made : MakesModel L (read_whole L) (FileOf L) composed (ComposeNumber L.terms) left right before after number
      made =
          makes-model L widths composed (passes_composed L) (composing L) 37 38 (λ z. omega (arith, z)) (λ z. omega (arith, z)) left right before b c after number e lent
          (ComposeNumber L.terms) (subst (ComposeNumber L.terms) (sym e) compose-number)

      links : number ≡ 0 → (M N J : Model) → FileOf L left M → FileOf L right N → FileOf L (take (first_written outcome) after) J → LinksBeside M N J
      links z M N J f g h W w =
          let same : take (first_written outcome) after ≡ composed_file M N =
          ap (λ (l : List (List ℕ)). take (first_written outcome) (first_lent l)) lent ∙ wrote M N f g (sym e ∙ z) in
          let one = one-file L widths (composed_file M N) (composed M N) J (made.holds z M N f g) (subst (λ (s : List ℕ). FileOf L s J) same h) in
          subst (λ (X : Model). Bisimulation Met (automaton_of X) (LinkedBeside (length N.labels) (Links W))) one
          (composed-bisimulation L M N f.sound g.sound (Links W) w)

-- of less than 8,072 bytes
pub compose-short-today : (left right before : List ℕ) → Bytes left → Bytes right → (compose_outcome current (read_whole current) left right before).answer.number ≡ 38 → length before < 8072
compose-short-today = compose-short current current-fit
