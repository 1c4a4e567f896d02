-- An entry of a transition, as it is read.
use Rattle.std.specs.Prelude.{ℕ, ◌+◌, ◌<◌, ◌≡◌, List}
use Rattle.rules.specs.definitions.Bytes.{byte_at, two_at}
use Rattle.rules.specs.definitions.Model as rules
use Rattle.transition.specs.declared.Entry.{Entry}

-- one entry of a transition, 'state 1, weight 2', and the place moved past it
pub record EntryTaken (s : List ℕ) (at : ℕ) (r : Entry) : Type 0 where
  pub state : r.state ≡ byte_at s at
  pub weight : r.weight ≡ two_at s (at + 1)
  pub small : r.weight < 65536
  pub next : r.next.at ≡ at + 3

-- the entry of a transition that was read
abbrev pub entry_of : Entry → rules.Entry
entry_of e = record { state = e.state; weight = e.weight }
