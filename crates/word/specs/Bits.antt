-- The bits of a number, by recursion on the position.
use Rattle.std.specs.Prelude.{ℕ, zero, suc, ◌+◌, ◌*◌, ◌/◌, ◌%◌, ◌≤◌, ◌<◌, ◌≡◌, Bool, true, false, eqb}

-- how many bits the machine's word has
abbrev pub word_bits : ℕ
word_bits = 64

-- the bit at a position is 1
unfoldable pub bit_of : ℕ → ℕ → Bool
bit_of x zero = eqb (x % 2) 1
bit_of x (suc t) = bit_of (x / 2) t

-- the number with the bit at a position made d
unfoldable pub put_bit : ℕ → ℕ → ℕ → ℕ
put_bit d x zero = x / 2 * 2 + d
put_bit d x (suc t) = put_bit d (x / 2) t * 2 + x % 2

abbrev pub set_bit : ℕ → ℕ → ℕ
set_bit = put_bit 1

abbrev pub clear_bit : ℕ → ℕ → ℕ
clear_bit = put_bit 0

-- whether two words, or rows, have the same bits: one of those below the limit differs where they have not
pub record AreSame (limit : ℕ) (f g : ℕ → Bool) (answer : Bool) : Type 0 where
  pub alike : answer ≡ true → (i : ℕ) → f i ≡ g i
  pub differ : answer ≡ false → ((i : ℕ) → i < limit → f i ≡ g i) → ⊥

-- r is the first number from u on of which f holds; where f holds of none below the limit, r is not below it
pub record IsNextBelow (limit : ℕ) (f : ℕ → Bool) (u r : ℕ) : Type 0 where
  pub from : u ≤ r
  pub none : (i : ℕ) → u ≤ i → i < r → f i ≡ false
  pub some : r < limit → f r ≡ true
