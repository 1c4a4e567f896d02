-- The highest price among the states that are related to one.
use Rattle.std.specs.Prelude.{ℕ, ◌^◌, ◌≤◌, ◌<◌, ◌≡◌, Bool, true, Option, None, Some, List, ℤ, ◌≤ℤ◌}
use Rattle.std.specs.Int.Signed.{mag}
use Rattle.bisimulation.specs.definitions.Automaton.{Automaton}
use Rattle.bisimulation.specs.definitions.Pairs.{Pairs}
use Rattle.rules.specs.definitions.Limits.{limits}
use Rattle.rules.specs.definitions.PlainRule.{all_related}
use Rattle.pairs.specs.Rows.{row_bit, HoldsPairs}
use Rattle.prices.specs.Prices.{price_in, SmallPrices}

-- the states that are related to v are among the first n
pub record Inside (n : ℕ) (rows : List ℕ) (v : ℕ) : Type 0 where
  pub few : n ≤ limits.states
  pub inside : (u : ℕ) → row_bit rows v u ≡ true → u < n

-- r is at least the price of each state below m that is related to v, and at most what bounds the prices of all of them
pub record Bounds (rows : List ℕ) (v m : ℕ) (table : List ℤ) (r : ℤ) : Type 0 where
  pub above : (u : ℕ) → u < m → row_bit rows v u ≡ true → price_in table u ≤ℤ r
  pub least : (x : ℤ) → mag x < 2 ^ 31 → ((u : ℕ) → row_bit rows v u ≡ true → price_in table u ≤ℤ x) → r ≤ℤ x
  pub small : mag r < 2 ^ 31

-- so it is where the table has their prices
pub record HighestBelow (rows : List ℕ) (v m : ℕ) (table : List ℤ) (r : ℤ) : Type 0 where
  pub bounds : (n : ℕ) → SmallPrices n table → Inside n rows v → Bounds rows v m table r

-- r is the highest price among the states that are related to v
abbrev pub IsHighest : List ℕ → ℕ → List ℤ → ℤ → Type 0
IsHighest rows v = HighestBelow rows v limits.states

-- a state before v and the highest price among those that are related to it, if one is known
abbrev pub IsKnown : List ℕ → List ℤ → ℕ → Option (ℕ × ℤ) → Type 0
IsKnown rows table v None = Unit {0}
IsKnown rows table v (Some known) = (known.0 < v) × IsHighest rows known.0 table known.1

-- r is at least the price of each of the first n states
pub record AboveAll (n : ℕ) (table : List ℤ) (r : ℤ) : Type 0 where
  pub above : (u : ℕ) → u < n → price_in table u ≤ℤ r
  pub small : mag r < 2 ^ 31

-- the answer says, of the pairs that the rows hold, that 'For each related v, u' the price of v in x is at least that of u in g
pub record AreRelated (n : ℕ) (rows : List ℕ) (x g : List ℤ) (answer : Bool) : Type 0 where
  pub tells : (A : Automaton) (R : Pairs) → A.states ≡ n → HoldsPairs n R rows → answer ≡ all_related A R (price_in x) (price_in g)
