-- The laws of the fields of four bytes.
use Rattle.std.specs.Prelude.{ℕ, suc, ◌-◌, ◌^◌, ◌≤◌, ◌<◌, ◌≡◌, List, ℤ, pos, negsuc, ◌-ℤ◌}
use Rattle.std.proofs.Common.{sym, ◌∙◌, SFits, to_z, lt-ltb, le-ltb, arith}
use Rattle.std.specs.Int.Signed.{mag}
use Rattle.std.specs.Int.{w64}
use Rattle.std.proofs.Math.Facts.{to_z_pos}
use Rattle.std.proofs.Math.Decide.{dec_lt}
use Rattle.rules.specs.definitions.Bytes.{four_at, signed_at}
use Rattle.rules.specs.definitions.Encoding.{four_bytes, complement}
use Rattle.rules.proofs.argument.Standing.{stands-all, four_is, signed_is}
use Rattle.field.specs.Taken.{IsLowered}

-- a number moved down, by its two cases
lowered : (P : ℤ → Type 0) (x : ℕ) → x < 2 ^ 32 → (x < 0x8000_0000 → P (negsuc (0x8000_0000 - suc x))) → (0x8000_0000 ≤ x → P (pos (x - 0x8000_0000))) → P (to_z w64 x -ℤ pos 0x8000_0000)
lowered P x h below above = let fits : x < 2 ^ 63 = omega arith in rw to_z_pos (go (dec_lt x 0x8000_0000))
  where
    go : Dec (x < 0x8000_0000) → P (pos x -ℤ pos 0x8000_0000)
    go (yes l) = rw lt-ltb (below l)
    go (no l) = let g : 0x8000_0000 ≤ x = omega arith in rw le-ltb (above g)

pub lowered-fits : (x : ℕ) → x < 2 ^ 32 → SFits w64 (to_z w64 x -ℤ pos 0x8000_0000)
lowered-fits x h = lowered (SFits w64) x h (λ l. record { sfits = omega arith }) (λ l. record { sfits = omega arith })

pub lowered_is : (x : ℕ) → x < 2 ^ 32 → IsLowered x (to_z w64 x -ℤ pos 0x8000_0000)
unfolding complement
lowered_is x h = lowered (IsLowered x) x h (λ l. record { value = omega arith; small = omega arith }) (λ l. record { value = omega arith; small = omega arith })

complement-small : (z : ℤ) → mag z < 2 ^ 31 → complement z < 2 ^ 32
unfolding complement
complement-small (pos n) h = omega arith
complement-small (negsuc n) h = omega arith

-- a price is known by the field of four bytes
pub signed-four : (s : List ℕ) (at : ℕ) (z : ℤ) → mag z < 2 ^ 31 → complement z ≡ four_at s at → z ≡ signed_at s at
unfolding signed_at
signed-four s at z small e =
    let b : List ℕ = four_bytes (complement z) in
    let q : four_at s at ≡ four_at b 0 = sym e ∙ sym (four_is b 0 (complement z) (complement-small z small) (stands-all b)) in
    rw q (sym (signed_is b 0 z small (stands-all b)))
