-- Document 01, 'Refused, and where': what is wrong with a record, and how a record is opened.
use Rattle.std.specs.Prelude.{ℕ, ◌+◌, ◌≡◌, List, length, ℤ, pos}
use Rattle.bisimulation.specs.definitions.Choice.{if_less, if_same, unless_same}
use Rattle.rules.specs.definitions.Bytes.{two_at}

-- what is wrong with a record: the number of the refusal, 0 for nothing; and document 02, K2: 'a state and a signed .. remainder', by how
-- much the equation or the last price condition is off there
pub record Fault : Type 0 where
  pub number : ℕ
  pub state : ℕ
  pub remainder : ℤ

-- the fault of a number with its state and remainder
abbrev pub fault_by : (number state : ℕ) → (remainder : ℤ) → Fault
fault_by n state remainder = record { number = n; state = state; remainder = remainder }

-- the fault of a number that has none: 'Otherwise both are 0'
abbrev pub fault : ℕ → Fault
fault n = fault_by n 0 (pos 0)

-- nothing wrong
abbrev pub no_fault : Fault
no_fault = fault 0

-- a record passes by the number of its fault
abbrev pub Passes : Fault → Type 0
Passes f = f.number ≡ 0

-- the first of two faults in reading order
unfoldable pub first_of : Fault → Fault → Fault
first_of f next = if_same f.number 0 next f

-- the refusals of 'any record' of a file: 'file ends inside it', and 'wrong mark'
pub record AnyRecord : Type 0 where
  pub ends : ℕ
  pub mark : ℕ

-- 'any model record'
abbrev pub model_record : AnyRecord
model_record = record { ends = 1; mark = 2 }

-- 'any certificate record'
abbrev pub certificate_record : AnyRecord
certificate_record = record { ends = 11; mark = 12 }

-- a record opened at a place: 'A mark is compared once two bytes are there'; then its fixed part must be whole, so many bytes with the mark
unfoldable pub open_fault : AnyRecord → (mark size : ℕ) → List ℕ → (at : ℕ) → Fault
open_fault any mark size s at =
    if_less (length s) (at + 2) (fault any.ends)
    (unless_same (two_at s at) mark (fault any.mark)
    (if_less (length s) (at + size) (fault any.ends)
    no_fault))
