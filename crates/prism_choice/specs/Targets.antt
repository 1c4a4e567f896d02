-- The targets of a choice in a table, and its record.
use Rattle.std.specs.Prelude.{ℕ, zero, suc, ◌+◌, ◌*◌, ◌/◌, ◌≤◌, ◌<◌, ◌≡◌, List, [], ◌∷◌, ◌++◌, map, length, get_or}
use Rattle.rules.specs.definitions.Limits.{limits}
use Rattle.rules.specs.definitions.Model.{Entry, Transition}
use Rattle.prism.specs.definitions.HeldModel.{entry_over}
use Rattle.prism_choice.specs.declared.Target.{Target}

-- the target with this number in a table
abbrev pub target_at : (table : List Target) (i : ℕ) → Target
target_at table i = get_or table i (record { state = 0; parts = 0 })

-- the targets of a table, each with its ten-thousandths
unfoldable pub targets_in : (table : List Target) → (count : ℕ) → List Entry
targets_in table zero = []
targets_in table (suc i) = targets_in table i ++ (record { state = (target_at table i).state; weight = (target_at table i).parts } ∷ [])

-- the transition of a choice with these targets, its ten-thousandths divided
abbrev pub over_divisor : (table : List Target) → (count source action divisor : ℕ) → Transition
over_divisor table count source action divisor =
    record { source = source; action = action; denominator = 10000 / divisor; entries = map (entry_over divisor) (targets_in table count) }

-- states and ten-thousandths of the table are in range
pub record TargetsFit (table : List Target) (count : ℕ) : Type 0 where
  pub size : length table ≡ limits.states
  pub most : count ≤ limits.states
  pub states : (i : ℕ) → i < count → (target_at table i).state < limits.states
  pub parts : (i : ℕ) → i < count → (target_at table i).parts ≤ 10000

pub record CanWriteChoice (table : List Target) (count source action divisor : ℕ) (records : List ℕ) (at : ℕ) : Type 0 where
  pub targets : TargetsFit table count
  pub from : source < limits.states
  pub named : action < limits.actions
  pub divides : 1 ≤ divisor
  pub room : at + 7 + 3 * count ≤ length records
