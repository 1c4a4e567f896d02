-- What a method of the cursor hands back.
use Rattle.std.specs.Prelude.{ℕ, ◌+◌, ◌%◌, ◌^◌, ◌<◌, ◌≡◌, List, ℤ}
use Rattle.std.proofs.Common.{◌∙◌, ap}
use Rattle.std.specs.Int.Signed.{mag}
use Rattle.rules.specs.definitions.Bytes.{signed_at}
use Rattle.rules.specs.definitions.Encoding.{complement}
use Rattle.field.specs.declared.Field.{Field}
use Rattle.field.specs.declared.Price.{Price}

-- the field that `read` finds at a place, of so many bytes and below a bound, and the place moved past it
pub record Taken (s : List ℕ) (read : List ℕ → ℕ → ℕ) (at width bound : ℕ) (r : Field) : Type 0 where
  pub value : r.value ≡ read s at
  pub small : r.value < bound
  pub next : r.next.at ≡ at + width

-- a byte as a wider number
pub record IsByte (x r : ℕ) : Type 0 where
  pub value : r ≡ x
  pub small : r < 256

-- a number moved down by half of what four bytes hold
pub record IsLowered (x : ℕ) (r : ℤ) : Type 0 where
  pub value : complement r ≡ (x + 0x8000_0000) % 0x1_0000_0000
  pub small : mag r < 2 ^ 31

-- the price at a place, and the place moved past it
pub record Priced (s : List ℕ) (at : ℕ) (r : Price) : Type 0 where
  pub value : r.value ≡ signed_at s at
  pub small : mag r.value < 2 ^ 31
  pub next : r.next.at ≡ at + 4

-- the field, at a place that is known by another sum
pub taken_at : {s : List ℕ} {read : List ℕ → ℕ → ℕ} {at width bound : ℕ} {r : Field} → Taken s read at width bound r → (place : ℕ) → at ≡ place → r.value ≡ read s place
taken_at {s} {read} t place e = t.value ∙ ap (read s) e
