-- Numbers in decimal: digits, most significant first, the bytes 30 to 39 (hexadecimal). They have as many digits as one will.
use Rattle.std.specs.Prelude.{ℕ, zero, suc, ◌+◌, ◌*◌, ◌-◌, ◌/◌, ◌%◌, Bool, true, false, List, [], ◌∷◌}
use Rattle.bisimulation.specs.definitions.Choice.{if_less, if_same, both}

unfoldable pub is_digit : ℕ → Bool
is_digit b = if_less b 0x30 false (if_less 0x39 b false true)

unfoldable pub all_digits : List ℕ → Bool
all_digits [] = true
all_digits (b ∷ bs) = both (is_digit b) (all_digits bs)

-- the value of digits that follow those of v
unfoldable pub value_from : (v : ℕ) → List ℕ → ℕ
value_from v [] = v
value_from v (b ∷ bs) = value_from (v * 10 + (b - 0x30)) bs

unfoldable pub value_of : List ℕ → ℕ
value_of bs = value_from 0 bs

-- a number 'without leading zeros': one digit, or more of which the first is not 0
unfoldable pub is_number : List ℕ → Bool
is_number [] = false
is_number (b ∷ []) = is_digit b
is_number (b ∷ c ∷ bs) = if_same b 0x30 false (all_digits (b ∷ c ∷ bs))

-- the digits of n in front of others; `most` is more than there are
unfoldable pub digits_before : (most n : ℕ) → List ℕ → List ℕ
digits_before zero n rest = rest
digits_before (suc most) n rest = if_less n 10 ((0x30 + n) ∷ rest) (digits_before most (n / 10) ((0x30 + n % 10) ∷ rest))

-- a number in decimal
unfoldable pub decimal : ℕ → List ℕ
decimal n = digits_before (suc n) n []
