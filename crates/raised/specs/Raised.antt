-- What the writer of raised transition records writes, and what it needs.
use Rattle.std.specs.Prelude.{ℕ, ◌+◌, ◌*◌, ◌-◌, ◌≤◌, ◌<◌, List, map, length}
use Rattle.rules.specs.definitions.Model.{Transition, transitions_bytes}
use Rattle.rules.specs.definitions.Reading.{states_of, entry_count_at, place_of}
use Rattle.joined.specs.definitions.Joined.{raised_transition}

-- the bytes of transitions, raised by k
abbrev pub raised_transitions : ℕ → List Transition → List ℕ
raised_transitions k ts = transitions_bytes (map (raised_transition k) ts)

-- a transition r of a sound model of so many, whose states fit a byte when raised, and room for its record: raising makes no record longer
pub record CanRaiseTransition (s : List ℕ) (count r k : ℕ) (out : List ℕ) (at : ℕ) : Type 0 where
  pub less : r < count
  pub states : k + states_of s ≤ 256
  pub room : at + 7 + 3 * entry_count_at s (place_of s r) ≤ length out

-- the same of all its transitions
pub record CanRaise (s : List ℕ) (k : ℕ) (out : List ℕ) (at : ℕ) : Type 0 where
  pub states : k + states_of s ≤ 256
  pub room : at + (length s - (8 + states_of s)) ≤ length out
