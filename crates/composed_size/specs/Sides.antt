-- Two sound models, as those who count and write their composition have them.
use Rattle.std.specs.Prelude.{ℕ, ◌≡◌, List}
use Rattle.rules.specs.definitions.Model.{Model}
use Rattle.rules.specs.definitions.Reading.{model_at}
use Rattle.model.specs.declared.Model.{Model as Found}
use Rattle.transition.specs.Known.{Known}
use Rattle.composition.specs.definitions.Composition.{composed}

-- a sound model, the numbers of its head, and the places of its transitions
pub record Side (s : List ℕ) (m : Found) (table : List ℕ) : Type 0 where
  pub known : Known s m.states m.transitions table
  pub actions : m.actions ≡ (model_at s).actions

pub record Sides (left : List ℕ) (m : Found) (left_table right : List ℕ) (k : Found) (right_table : List ℕ) : Type 0 where
  pub first : Side left m left_table
  pub second : Side right k right_table

-- each said of its own
pub two-sides : {left : List ℕ} {m : Found} {left_table right : List ℕ} {k : Found} {right_table : List ℕ} → Side left m left_table → Side right k right_table → Sides left m left_table right k right_table
two-sides x y = record { first = x; second = y }

-- the composition of two files
abbrev pub composed_in : (left right : List ℕ) → Model
composed_in left right = composed (model_at left) (model_at right)
