-- Sums over entries, as they are added up.
use Rattle.std.specs.Prelude.{ℕ, ◌+◌, ◌*◌, ◌^◌, ◌≤◌, ◌≡◌, List, length, ℤ, ◌+ℤ◌, nat_abs}
use Rattle.rules.specs.definitions.Model.{Entry}
use Rattle.rules.specs.definitions.Reading.{entries_at}
use Rattle.rules.specs.definitions.SoundModel.{Each, sum_over}
use Rattle.rules.proofs.argument.EntryPrices.{price_of_entries}
use Rattle.prices.specs.declared.Running.{Running}
use Rattle.prices.specs.Prices.{price_in, HasPrice}

-- what is known before each entry: the sum so far and the entries left make up the sum over all
pub record Summing (s : List ℕ) (table : List ℤ) (all : List Entry) (left at : ℕ) (sum : ℤ) : Type 0 where
  pub whole : at + 3 * left ≤ length s
  pub prices : Each (HasPrice table) (entries_at s left at)
  pub small : nat_abs sum + 2 ^ 31 * sum_over (λ (e : Entry). e.weight) (entries_at s left at) ≤ 2 ^ 31 * 65535
  pub makes_up : sum +ℤ price_of_entries (entries_at s left at) (price_in table) ≡ price_of_entries all (price_in table)

-- the same of two sums, each with a table of its own
pub record SummingBoth (s : List ℕ) (first second : List ℤ) (all : List Entry) (left : ℕ) (sums : Running) : Type 0 where
  pub one : Summing s first all left sums.next.at sums.first
  pub other : Summing s second all left sums.next.at sums.second

-- n more entries can be added
pub record Ready (s : List ℕ) (first second : List ℤ) (n : ℕ) (sums : Running) : Type 0 where
  pub all : List Entry
  pub left : ℕ
  pub enough : n ≤ left
  pub summing : SummingBoth s first second all left sums

-- r is the sums with n more entries
pub record Adds (s : List ℕ) (first second : List ℤ) (n : ℕ) (sums r : Running) : Type 0 where
  pub adds : (all : List Entry) (before after : ℕ) → before ≡ n + after → SummingBoth s first second all before sums → SummingBoth s first second all after r
