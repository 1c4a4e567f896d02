-- The divisor of the weights of entries in a file, and 34.
use Rattle.std.specs.Prelude.{ℕ, ◌≡◌, List, map, Result}
use Rattle.numbers.specs.definitions.Divisor.{divisor_of}
use Rattle.rules.specs.definitions.Limits.{Terms}
use Rattle.rules.specs.definitions.Model.{Entry, Transition}
use Rattle.rules.specs.definitions.Reading.{entries_at, terms_fault}
use Rattle.fault.specs.Faults.{fault_in}
use Rattle.fault.specs.declared.Fault.{Fault}

-- the weights of so many entries from a place on
abbrev pub weights_at : List ℕ → (count at : ℕ) → List ℕ
weights_at s count at = map (λ (e : Entry). e.weight) (entries_at s count at)

-- their greatest common divisor
abbrev pub divisor_at : List ℕ → (count at : ℕ) → ℕ
divisor_at s count at = divisor_of 0 (weights_at s count at)

-- 34 of every transition that has these entries
pub record TermsJudged (terms : Terms) (s : List ℕ) (count at : ℕ) (r : Result (Unit {0}) Fault) : Type 0 where
  pub is : (t : Transition) → t.entries ≡ entries_at s count at → fault_in r ≡ terms_fault terms t
