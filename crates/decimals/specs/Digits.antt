-- Digits of a number in the end of a table.
use Rattle.std.specs.Prelude.{ℕ, suc, ◌^◌, ◌<◌, ◌≡◌, List, length, drop}
use Rattle.numbers.specs.definitions.Decimal.{digits_before, decimal}

-- those behind a place are there; with the digits of what is left before them they are the number, and there is room for these
pub record Filling (x : ℕ) (digits : List ℕ) (from left : ℕ) : Type 0 where
  pub size : length digits ≡ 20
  pub inside : from < 20
  pub small : left < 10 ^ suc from
  pub number : digits_before (suc left) left (drop (suc from) digits) ≡ decimal x
