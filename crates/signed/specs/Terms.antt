-- A sum with one more term.
use Rattle.std.specs.Prelude.{ℕ, ◌+◌, ◌*◌, ◌^◌, ◌≤◌, ◌<◌, ◌≡◌, ℤ, pos, ◌+ℤ◌, ◌*ℤ◌, nat_abs}
use Rattle.std.specs.Int.Signed.{mag}

-- a sum, a weight and a factor of which the next sum fits 8 bytes
pub record Addable (sum : ℤ) (weight : ℕ) (factor : ℤ) : Type 0 where
  pub room : nat_abs sum + weight * 2 ^ 32 < 2 ^ 63
  pub small : mag factor < 2 ^ 32

-- a sum with one more term, such as 'p(v)A(v)', and how large it is at most
pub record WithTerm (sum : ℤ) (weight : ℕ) (factor r : ℤ) : Type 0 where
  pub value : r ≡ sum +ℤ pos weight *ℤ factor
  pub small : (most : ℕ) → mag factor < most → nat_abs r ≤ nat_abs sum + weight * most
