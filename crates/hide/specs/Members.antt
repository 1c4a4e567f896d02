-- The table of a set's members.
use Rattle.std.specs.Prelude.{ℕ, ◌<◌, ◌≡◌, Bool, false, List, length, get_or}
use Rattle.composition.specs.definitions.Hiding.{member_of}

-- what a table says of an action
abbrev pub chosen_in : List Bool → ℕ → Bool
chosen_in members a = get_or members a false

-- it has an entry for each byte, and says whether it is a member
pub record HoldsMembers (set : List ℕ) (members : List Bool) : Type 0 where
  pub size : length members ≡ 256
  pub held : (a : ℕ) → a < 256 → chosen_in members a ≡ member_of set a
