-- A refutation's prices in a table.
use Rattle.std.specs.Prelude.{ℕ, ◌+◌, ◌*◌, ◌^◌, ◌≤◌, ◌<◌, ◌≡◌, List, length, get_or, ℤ, pos, nat_abs}
use Rattle.std.specs.Int.Signed.{mag}
use Rattle.rules.specs.definitions.Limits.{limits}
use Rattle.rules.specs.definitions.Model.{Entry}
use Rattle.rules.specs.definitions.Reading.{entries_at}
use Rattle.rules.specs.definitions.SoundModel.{Each, sum_over}
use Rattle.rules.proofs.argument.EntryPrices.{price_of_entries}

-- the price of a state in a table
abbrev pub price_in : List ℤ → ℕ → ℤ
price_in table v = get_or table v (pos 0)

-- the first n prices of a table are those of X, 'each 4 bytes, two's complement'
pub record HoldsPrices (n : ℕ) (X : ℕ → ℤ) (table : List ℤ) : Type 0 where
  pub size : length table ≡ limits.states
  pub held : (i : ℕ) → i < n → price_in table i ≡ X i
  pub small : (i : ℕ) → i < n → mag (price_in table i) < 2 ^ 31

-- the first n prices of a table are numbers of four bytes
pub record SmallPrices (n : ℕ) (table : List ℤ) : Type 0 where
  pub size : length table ≡ limits.states
  pub small : (i : ℕ) → i < n → mag (price_in table i) < 2 ^ 31

-- r is the price of a state in a table, where that is a number of four bytes
pub record IsPrice (table : List ℤ) (v : ℕ) (r : ℤ) : Type 0 where
  pub is : mag (price_in table v) < 2 ^ 31 → r ≡ price_in table v

-- an entry whose state has a price in the table
pub record HasPrice (table : List ℤ) (e : Entry) : Type 0 where
  pub state : e.state < limits.states
  pub small : mag (price_in table e.state) < 2 ^ 31

-- the entries at a place lie in the file, have prices, and their weights are those of a transition
pub record Summable (s : List ℕ) (count at : ℕ) (table : List ℤ) : Type 0 where
  pub whole : at + 3 * count ≤ length s
  pub prices : Each (HasPrice table) (entries_at s count at)
  pub weights : sum_over (λ (e : Entry). e.weight) (entries_at s count at) ≤ 65535

-- 'the sum of p(v)A(v)' over the entries, for the prices of the table
pub record IsSum (es : List Entry) (table : List ℤ) (r : ℤ) : Type 0 where
  pub value : r ≡ price_of_entries es (price_in table)
  pub small : nat_abs r ≤ 2 ^ 31 * 65535
