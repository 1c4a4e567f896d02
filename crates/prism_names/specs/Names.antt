-- Names kept as places in the text.
use Rattle.std.specs.Prelude.{ℕ, zero, suc, ◌-◌, ◌≤◌, ◌<◌, ◌≡◌, List, [], ◌∷◌, ◌++◌, length, take, drop, get_or}
use Rattle.rules.specs.definitions.Limits.{limits}
use Rattle.prism_names.specs.declared.Name.{Name}
use Rattle.prism.specs.definitions.Reading.{action_of, with_name}

-- the bytes of the text from a place to another
abbrev pub between : List ℕ → (from to : ℕ) → List ℕ
between text from to = take (to - from) (drop from text)

-- the name with this number in a table, empty at the text's beginning where none is
abbrev pub placed_at : (table : List Name) (i : ℕ) → Name
placed_at table i = get_or table i (record { from = 0; to = 0 })

-- the names of a table
unfoldable pub names_in : (text : List ℕ) (table : List Name) → (count : ℕ) → List (List ℕ)
names_in text table zero = []
names_in text table (suc i) = names_in text table i ++ (between text (placed_at table i).from (placed_at table i).to ∷ [])

-- so many names stand in the table, each in the text; one more action is left for those without one
pub record KnownNames (text : List ℕ) (table : List Name) (count : ℕ) : Type 0 where
  pub size : length table ≡ limits.actions
  pub most : count < limits.actions
  pub order : (i : ℕ) → i < count → (placed_at table i).from ≤ (placed_at table i).to
  pub inside : (i : ℕ) → i < count → (placed_at table i).to ≤ length text

-- a name at these places of the text is kept where it is new
pub record NameKept (before after : List Name) (count action from to seen : ℕ) : Type 0 where
  pub known : (text : List ℕ) → KnownNames text before count → from ≤ to → to ≤ length text → KnownNames text after seen
  pub names : (text : List ℕ) → KnownNames text before count → action ≡ action_of (names_in text before count) (between text from to) → names_in text after seen ≡ with_name (names_in text before count) (between text from to)
