-- How many remainders of a table are not zero.
use Rattle.std.specs.Prelude.{ℕ, zero, suc, ◌+◌, ◌≤◌, ◌≡◌, List, [], ◌∷◌, length, ℤ, pos, negsuc}
use Rattle.limits.specs.Sizes as sizes

-- 1 where the number is not zero
unfoldable pub is_nonzero : ℤ → ℕ
is_nonzero (pos zero) = 0
is_nonzero (pos (suc a)) = 1
is_nonzero (negsuc a) = 1

-- how many are not zero
unfoldable pub nonzero_in : List ℤ → ℕ
nonzero_in [] = 0
nonzero_in (z ∷ zs) = is_nonzero z + nonzero_in zs

-- a count of which one may be taken away where the old number is not zero
pub record CanChange (nonzero : ℕ) (old : ℤ) : Type 0 where
  pub some : is_nonzero old ≤ nonzero
  pub few : nonzero ≤ sizes.remainders

-- a table of remainders and its count
pub record Counted (remainders : List ℤ) (nonzero : ℕ) : Type 0 where
  pub size : length remainders ≡ sizes.remainders
  pub count : nonzero ≡ nonzero_in remainders

-- a table that became what was to come, and its count
pub record Became (to remainders : List ℤ) (nonzero : ℕ) : Type 0 where
  pub same : remainders ≡ to
  pub counted : Counted remainders nonzero
