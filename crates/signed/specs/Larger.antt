-- The larger of two numbers.
use Rattle.std.specs.Prelude.{◌≡◌, ◌⊎◌, ℤ, ◌≤ℤ◌}

-- r is one of the two, and at least each
pub record IsLarger (a b r : ℤ) : Type 0 where
  pub first : a ≤ℤ r
  pub second : b ≤ℤ r
  pub one : (r ≡ a) ⊎ (r ≡ b)
