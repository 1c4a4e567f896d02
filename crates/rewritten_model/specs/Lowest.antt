-- What the writer of a model in lowest terms writes, and what it needs.
use Rattle.std.specs.Prelude.{ℕ, ◌+◌, ◌*◌, ◌≤◌, ◌<◌, ◌≡◌, List, ◌++◌, map, length, take, drop}
use Rattle.rules.specs.definitions.Model.{transitions_bytes}
use Rattle.rules.specs.definitions.LowestTerms.{divided_entry, in_lowest}
use Rattle.rules.specs.definitions.Reading.{states_of, count_of, entry_count_at, model_at, place_of}
use Rattle.writer.specs.ChangedRecords.{CanChangeEntries}
use Rattle.divisors.specs.Table.{HoldsDivisors}
use Rattle.rewriting.specs.definitions.Rewritten.{divisor_at}

-- so many entries at a place, and a divisor
pub record CanDivideEntries (s : List ℕ) (left place g : ℕ) (out : List ℕ) (at : ℕ) : Type 0 where
  pub entries : CanChangeEntries (divided_entry g) s left place out at
  pub divisor : 1 ≤ g

-- a transition r of a sound model of so many, with its divisor, and room for its record
pub record CanDivide (s : List ℕ) (count r g : ℕ) (out : List ℕ) (at : ℕ) : Type 0 where
  pub less : r < count
  pub divisor : g ≡ divisor_at (model_at s) r
  pub some : 1 ≤ g
  pub room : at + 7 + 3 * entry_count_at s (place_of s r) ≤ length out

-- the records of all transitions in lowest terms
abbrev pub lowest_records : List ℕ → List ℕ
lowest_records s = transitions_bytes (map in_lowest (model_at s).transitions)

-- the divisors of a sound model; the records begin in the buffer where they begin in the file, and there is room for the file
pub record CanWriteRecords (s : List ℕ) (count : ℕ) (divisors out : List ℕ) (at : ℕ) : Type 0 where
  pub held : HoldsDivisors s count divisors
  pub place : at ≡ 8 + states_of s
  pub room : length s ≤ length out

-- the file with its records in lowest terms: what stands before and behind them stays
abbrev pub lowest_file : List ℕ → List ℕ
lowest_file s = take (8 + states_of s) s ++ (lowest_records s ++ drop (place_of s (count_of s)) s)
