-- The entries of a transition: their fault, or the cursor past them.
use Rattle.std.specs.Prelude.{ℕ, ◌+◌, ◌*◌, ◌≡◌, List, Result, IfOk}
use Rattle.rules.specs.definitions.Reading.{entries_fault}
use Rattle.field.specs.declared.Cursor.{Cursor}
use Rattle.fault.specs.Faults.{fault_in}
use Rattle.fault.specs.declared.Fault.{Fault}

pub record EntriesRead (s : List ℕ) (n d count at : ℕ) (r : Result Cursor Fault) : Type 0 where
  pub fault : fault_in r ≡ entries_fault s n d count at 0 0
  pub next : IfOk r (λ (place : Cursor). place.at ≡ at + 3 * count)
