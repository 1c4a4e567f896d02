-- Document 01, 'Multi-byte fields are most significant byte first, and unsigned but for prices'.
use Rattle.std.specs.Prelude.{ℕ, ◌+◌, ◌*◌, ◌/◌, ◌%◌, List, [], ◌∷◌, get_or, ℤ, pos}
use Rattle.std.proofs.Math.IntN.{sub_ℕ}
use Rattle.bisimulation.specs.definitions.Choice.{if_less}

-- a field of one byte, at a place
unfoldable pub byte_at : List ℕ → ℕ → ℕ
byte_at s at = get_or s at 0

-- a field of two bytes
unfoldable pub two_at : List ℕ → ℕ → ℕ
two_at s at = byte_at s at * 256 + byte_at s (at + 1)

-- a field of one byte and the field of two after it, as one number
unfoldable pub three_at : List ℕ → ℕ → ℕ
three_at s at = byte_at s at * 65536 + two_at s (at + 1)

-- a field of four bytes
unfoldable pub four_at : List ℕ → ℕ → ℕ
four_at s at = two_at s at * 65536 + two_at s (at + 2)

-- a price: 'each 4 bytes, two's complement'
unfoldable pub signed_at : List ℕ → ℕ → ℤ
signed_at s at = if_less (four_at s at) 0x8000_0000 (pos (four_at s at)) (sub_ℕ (four_at s at) 0x1_0000_0000)

-- a number as a field of two bytes
unfoldable pub two_bytes : ℕ → List ℕ
two_bytes x = x / 256 % 256 ∷ x % 256 ∷ []
