-- The records of a composition's moves, from the bytes of two models, and what their writers need.
use Rattle.std.specs.Prelude.{ℕ, ◌+◌, ◌*◌, ◌≤◌, ◌<◌, ◌≡◌, List, length}
use Rattle.rules.specs.definitions.Model.{Entry, entries_bytes, transition_bytes}
use Rattle.rules.specs.definitions.Reading.{states_of, entries_at, model_at}
use Rattle.rules.specs.definitions.SoundModel.{Each}
use Rattle.transition.specs.Known.{automaton_in, KnownTransition}
use Rattle.writer.specs.ChangedRecords.{EntryFits}
use Rattle.placed_entries.specs.Placed.{placed_entry}
use Rattle.composition.specs.definitions.Composition.{transition_of, pair_entries, pair_transition, still}

-- the left's transition q alone, at the state e of a right of n states
abbrev pub left_record : (left : List ℕ) (n q e : ℕ) → List ℕ
left_record left n q e = let t = transition_of (model_at left) q in transition_bytes (pair_transition n t (still t.action e))

-- the right's r alone, at the state s of the left
abbrev pub right_record : (right : List ℕ) (n s r : ℕ) → List ℕ
right_record right n s r = let u = transition_of (model_at right) r in transition_bytes (pair_transition n (still u.action s) u)

-- both together
abbrev pub together_record : (left right : List ℕ) (n q r : ℕ) → List ℕ
together_record left right n q r = transition_bytes (pair_transition n (transition_of (model_at left) q) (transition_of (model_at right) r))

-- the transition of a sound model, a composition whose states fit a byte, and room for the record
pub record CanWriteLeft (left table : List ℕ) (q n e : ℕ) (out : List ℕ) (at : ℕ) : Type 0 where
  pub transition : KnownTransition left table q
  pub state : e < n
  pub states : states_of left * n < 256
  pub room : at + length (left_record left n q e) ≤ length out

pub record CanWriteRight (right table : List ℕ) (r n s : ℕ) (out : List ℕ) (at : ℕ) : Type 0 where
  pub transition : KnownTransition right table r
  pub all : n ≡ states_of right
  pub states : s * n + n < 256
  pub room : at + length (right_record right n s r) ≤ length out

-- the same of two, whose denominators' product fits its field
pub record CanWriteTogether (left left_table : List ℕ) (q : ℕ) (right right_table : List ℕ) (r n : ℕ) (out : List ℕ) (at : ℕ) : Type 0 where
  pub first : KnownTransition left left_table q
  pub second : KnownTransition right right_table r
  pub all : n ≡ states_of right
  pub states : states_of left * n < 256
  pub denominator : (automaton_in left).denominator q * (automaton_in right).denominator r < 65536
  pub room : at + length (together_record left right n q r) ≤ length out

-- so many entries of each side, from a place on
abbrev pub pairs_at : (n : ℕ) (left : List ℕ) (count place : ℕ) (right : List ℕ) (right_count right_place : ℕ) → List ℕ
pairs_at n left count place right right_count right_place = entries_bytes (pair_entries n (entries_at left count place) (entries_at right right_count right_place))

-- an entry of the left with each of the right's: they fit their fields
pub record RowFits (n : ℕ) (fs : List Entry) (e : Entry) : Type 0 where
  pub first : e.state * n < 256
  pub each : Each (λ (f : Entry). EntryFits (placed_entry 1 (e.state * n) e.weight f)) fs

-- they do for every entry of the left, and there is room
pub record CanWritePairs (n : ℕ) (left : List ℕ) (count place : ℕ) (right : List ℕ) (right_count right_place : ℕ) (out : List ℕ) (at : ℕ) : Type 0 where
  pub inside : place + 3 * count ≤ length left
  pub right_inside : right_place + 3 * right_count ≤ length right
  pub fit : Each (RowFits n (entries_at right right_count right_place)) (entries_at left count place)
  pub room : at + 3 * (count * right_count) ≤ length out
