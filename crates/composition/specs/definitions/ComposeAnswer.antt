-- Document 02, K11: what the call that composes two models answers, and what it leaves in the lent buffer.
use Rattle.std.specs.Prelude.{ℕ, ◌≤◌, ◌≡◌, ◌⊎◌, Bool, true, false, List, [], ◌∷◌, length, take}
use Rattle.bisimulation.specs.definitions.Choice.{if_less, if_true}
use Rattle.bisimulation.specs.definitions.StepRule.{Met}
use Rattle.bisimulation.specs.definitions.Pairs.{Pairs}
use Rattle.bisimulation.specs.definitions.Largest.{Bisimulation, Links}
use Rattle.bisimulation.specs.definitions.Composed.{highest_label, LinkedBeside}
use Rattle.rules.specs.definitions.Limits.{Terms, Limits}
use Rattle.rules.specs.definitions.Model.{Transition, Model, automaton_of}
use Rattle.rules.specs.definitions.SoundModel.{highest_denominator}
use Rattle.rules.specs.definitions.Reading.{ReadNumber}
use Rattle.rules.specs.definitions.Judging.{Reader}
use Rattle.rules.specs.definitions.Accepted.{IsFile}
use Rattle.rules.specs.definitions.Answers.{Outcome, first_written}
use Rattle.rules.specs.definitions.Made.{passes_limit, made_outcome, two_outcome, MakesModel}
use Rattle.composition.specs.definitions.Composition.{composed}

-- some denominator is more than its 2 bytes hold
unfoldable pub long_denominator : List Transition → Bool
long_denominator [] = false
long_denominator (t ∷ ts) = if_less highest_denominator t.denominator true (long_denominator ts)

-- 'composition passes a limit, labels included': of states, transitions or entries, of d, or of labels
unfoldable pub passes_composed : Limits → Model → Model → Bool
passes_composed L M N =
    let J = composed M N in
    if_true (passes_limit L J) true
    (if_true (long_denominator J.transitions) true
    (if_less L.label (highest_label (automaton_of J)) true
    false))

-- '37, composition passes a limit, labels included, after both are read; 38, buffer too short, last'; else its file is written
abbrev pub compose_outcome : Limits → Reader → (left right buffer : List ℕ) → Outcome
compose_outcome L read left right buffer = two_outcome read (λ M N. made_outcome 37 38 (passes_composed L M N) (composed M N)) left right (buffer ∷ [])

-- its numbers
unfoldable pub ComposeNumber : Terms → ℕ → Type 0
ComposeNumber terms k = ReadNumber terms k ⊎ ((37 ≤ k) × (k ≤ 38))

-- 'If a symmetric relation keeps labels and meets the step rule on the left model, then linking (s,e) to (t,e) for linked s, t does so on the
-- composition', J here; for sets of pairs, as a contract can say it. For relations of any kind `composed-bisimulation` has it of models, and
-- `composed_bisimulation` of automata: 'Sizes do not enter that claim'
abbrev pub LinksBeside : (M N J : Model) → Type 0
LinksBeside M N J =
    (W : Pairs) → Bisimulation (Met) (automaton_of M) (Links W) → Bisimulation (Met) (automaton_of J) (LinkedBeside (length N.labels) (Links W))

-- its demands, with these bytes in the lent buffer before and after it
pub record ComposeDemands (L : Limits) (read : Reader) (is_file : IsFile) (left right before after : List ℕ) (number : ℕ) : Type 0 where
  pub makes : MakesModel L read is_file composed (ComposeNumber L.terms) left right before after number
  -- the bytes that it wrote hold a model of which the request's claim is true
  pub links : number ≡ 0 → (M N J : Model) → is_file left M → is_file right N → is_file (take (first_written (compose_outcome L read left right before)) after) J → LinksBeside M N J
