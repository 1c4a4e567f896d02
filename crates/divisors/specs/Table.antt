-- The table of the divisors of a model's transitions.
use Rattle.std.specs.Prelude.{ℕ, ◌≤◌, ◌<◌, ◌≡◌, List, length, get_or}
use Rattle.rules.specs.definitions.Limits.{limits}
use Rattle.rules.specs.definitions.Reading.{model_at}
use Rattle.rewriting.specs.definitions.Rewritten.{divisor_at}

-- it holds the divisors of so many transitions
pub record HoldsDivisors (s : List ℕ) (count : ℕ) (table : List ℕ) : Type 0 where
  pub size : length table ≡ limits.transitions
  pub few : count ≤ limits.transitions
  pub held : (r : ℕ) → r < count → get_or table r 0 ≡ divisor_at (model_at s) r
  pub some : (r : ℕ) → r < count → 1 ≤ get_or table r 0
  pub small : (r : ℕ) → get_or table r 0 ≤ 65535
