-- Prices with a sign, raised by one number so that none is negative.
use Rattle.std.specs.Prelude.{ℕ, suc, ◌+◌, ◌-◌, ◌≤◌, ◌<◌, ◌≡◌, ℤ, pos, negsuc, nat_abs}
use Rattle.bisimulation.specs.definitions.Sum.{sum}

-- z raised by c is the natural number k
pub data Raised (c k : ℕ) : ℤ → Type 0 where
  above : (a : ℕ) → c + a ≡ k → Raised c k (pos a)
  below : (a : ℕ) → k + suc a ≡ c → Raised c k (negsuc a)

-- the price z raised by c
unfoldable pub raise : ℕ → ℤ → ℕ
raise c (pos a) = c + a
raise c (negsuc a) = c - suc a

-- raising by c leaves no price of the n states negative
pub record RaisedBy (n c : ℕ) (X : ℕ → ℤ) : Type 0 where
  pub enough : (v : ℕ) → v < n → nat_abs (X v) ≤ c

-- a number that is enough for the first n prices
unfoldable pub magnitudes : ℕ → (ℕ → ℤ) → ℕ
magnitudes n p = sum n (λ i. nat_abs (p i))
