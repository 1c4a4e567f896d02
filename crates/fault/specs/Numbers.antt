-- A fault by its number.
use Rattle.std.specs.Prelude.{ℕ, ◌≡◌}
use Rattle.rules.specs.definitions.Faults as rules
use Rattle.fault.specs.declared.Fault.{Fault}
use Rattle.fault.specs.declared.numbered.Numbered.{Numbered}
use Rattle.fault.specs.Faults.{fault_of}

-- the number, 0 for nothing, with its state and remainder
abbrev pub numbered_of : Numbered → rules.Fault
numbered_of f = rules.fault_by f.number f.state f.remainder

-- a fault, and the same by its number
pub record SameFault (f : Fault) (r : Numbered) : Type 0 where
  pub is : numbered_of r ≡ fault_of f
  pub at : r.place ≡ f.place

-- it is this fault, of the record that begins at a place
pub record NumberedAt (f : rules.Fault) (place : ℕ) (r : Numbered) : Type 0 where
  pub is : numbered_of r ≡ f
  pub at : r.place ≡ place
