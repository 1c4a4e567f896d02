-- What the fields of a text are read as.
use Rattle.std.specs.Prelude.{ℕ, ◌≤◌, ◌<◌, ◌≡◌, List, length, Option, MatchOption}
use Rattle.bisimulation.specs.definitions.Choice.{if_less, if_true}
use Rattle.rules.specs.definitions.Bytes.{byte_at}
use Rattle.numbers.specs.definitions.Decimal.{all_digits, value_from, value_of, is_number}

-- the piece from a place on ends at the first byte that parts, or at the end
pub record PieceEnds (s : List ℕ) (from parting end : ℕ) : Type 0 where
  pub after : from ≤ end
  pub within : end ≤ length s
  pub clear : (i : ℕ) → from ≤ i → i < end → byte_at s i ≡ parting → ⊥
  pub stops : end < length s → byte_at s end ≡ parting

-- a number below `most`; `most` for every other, and for what is no number
unfoldable pub number_below : (most : ℕ) → List ℕ → ℕ
number_below most bs = if_true (is_number bs) (if_less (value_of bs) most (value_of bs) most) most

-- digits behind those of v, read in the same way
unfoldable pub digits_from : (most v : ℕ) → List ℕ → ℕ
digits_from most v bs = if_true (all_digits bs) (if_less (value_from v bs) most (value_from v bs) most) most

-- none stands for `most`, and each number below it for itself
abbrev pub IsBelow : (most n : ℕ) → Option ℕ → Type 0
IsBelow most n r = MatchOption r (n ≡ most) (λ v. (v ≡ n) × (v < most))

-- none stands for 0, and each other number for itself
abbrev pub IsPositive : ℕ → Option ℕ → Type 0
IsPositive n r = MatchOption r (n ≡ 0) (λ v. (v ≡ n) × (1 ≤ v))
