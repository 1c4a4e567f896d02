-- The remainders of a table.
use Rattle.std.specs.Prelude.{ℕ, ◌<◌, ◌≡◌, List, length, get_or, ℤ, pos}
use Rattle.limits.specs.Sizes as sizes

-- the number in a remainder
abbrev pub remainder_at : List ℤ → ℕ → ℤ
remainder_at remainders i = get_or remainders i (pos 0)

-- every remainder is zero, as between flows
pub record AllZero (remainders : List ℤ) : Type 0 where
  pub size : length remainders ≡ sizes.remainders
  pub zero : (i : ℕ) → i < sizes.remainders → remainder_at remainders i ≡ pos 0
