-- The labels of a composition, row by row, and what their writers need.
use Rattle.std.specs.Prelude.{ℕ, ◌+◌, ◌*◌, ◌≤◌, ◌<◌, ◌≡◌, List, [], ◌∷◌, length}
use Rattle.bisimulation.specs.definitions.Composed.{highest_label}
use Rattle.rules.specs.definitions.Bytes.{byte_at}
use Rattle.rules.specs.definitions.Reading.{states_of}
use Rattle.rules.specs.definitions.SoundModel.{Each}
use Rattle.transition.specs.Known.{automaton_in}
use Rattle.composition.specs.definitions.Composition.{gathered}
use Rattle.composed_size.specs.Sides.{composed_in}

-- the label of (s,e), where s has this one, and those of each e below n
abbrev pub label_byte : (label factor : ℕ) (right : List ℕ) (e : ℕ) → List ℕ
label_byte label factor right e = (label * factor + byte_at right (8 + e)) ∷ []

abbrev pub label_row : (label factor : ℕ) (right : List ℕ) (n : ℕ) → List ℕ
label_row label factor right n = gathered n (label_byte label factor right)

pub record CanWriteLabelRow (label factor : ℕ) (right : List ℕ) (n : ℕ) (out : List ℕ) (at : ℕ) : Type 0 where
  pub inside : 8 + n ≤ length right
  pub fit : (e : ℕ) → e < n → label * factor + byte_at right (8 + e) < 256
  pub room : at + length (label_row label factor right n) ≤ length out

-- the labels of two models of so many states, that fit a byte when paired, and room for them
pub record CanWriteLabels (left : List ℕ) (left_states factor : ℕ) (right : List ℕ) (right_states : ℕ) (out : List ℕ) (at : ℕ) : Type 0 where
  pub first : (left_states ≡ states_of left) × (8 + left_states ≤ length left)
  pub second : (right_states ≡ states_of right) × (8 + right_states ≤ length right)
  pub label : factor ≡ highest_label (automaton_in right) + 1
  pub fit : Each (λ (b : ℕ). b < 256) (composed_in left right).labels
  pub room : at + length (composed_in left right).labels ≤ length out
