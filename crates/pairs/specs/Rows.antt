-- Document 01, 'They are kept as a row of one bit for each state': bit u of row v says that the pair (v,u) is related.
-- Document 02, K7: 'The row of related states now takes two words'.
use Rattle.std.specs.Prelude.{ℕ, ◌+◌, ◌-◌, ◌*◌, ◌<◌, ◌≤◌, ◌≡◌, Bool, false, Option, None, Some, List, length, get_or, set}
use Rattle.bisimulation.specs.definitions.Choice.{if_less}
use Rattle.bisimulation.specs.definitions.Pairs.{Pairs}
use Rattle.rules.specs.definitions.Limits.{limits}
use Rattle.limits.specs.Sizes.{row_words}
use Rattle.word.specs.Bits.{word_bits, bit_of, put_bit, IsNextBelow}

-- how many bits a row has: it is two words
abbrev pub row_bits : ℕ
row_bits = 2 * word_bits

-- the word with the bit of (v,u): the first of row v, or the second
unfoldable pub word_of : ℕ → ℕ → ℕ
word_of v u = 2 * v + if_less u word_bits 0 1

-- where the bit of u stands in its word
unfoldable pub bit_in : ℕ → ℕ
bit_in u = if_less u word_bits u (u - word_bits)

-- the bit of a pair
unfoldable pub row_bit : List ℕ → Pairs
row_bit rows v u = bit_of (get_or rows (word_of v u) 0) (bit_in u)

-- word k of row v, the first or the second
unfoldable pub word_at : List ℕ → (v k : ℕ) → ℕ
word_at rows v k = get_or rows (2 * v + k) 0

-- the bits of row v from a state on, as a word
pub record IsPart (rows : List ℕ) (v from word : ℕ) : Type 0 where
  pub bits : (i : ℕ) → i < word_bits → bit_of word i ≡ row_bit rows v (from + i)

-- no pair is related
pub record NoRows (rows : List ℕ) : Type 0 where
  pub whole : length rows ≡ row_words
  pub bits : (v u : ℕ) → v < limits.states → row_bit rows v u ≡ false

-- the first m rows hold the related pairs of n states
pub record HoldsRows (m n : ℕ) (R : Pairs) (rows : List ℕ) : Type 0 where
  pub whole : length rows ≡ row_words
  pub bits : (v u : ℕ) → v < m → u < n → row_bit rows v u ≡ R v u
  pub rest : (v u : ℕ) → v < m → n ≤ u → row_bit rows v u ≡ false

-- the rows hold the related pairs of n states
abbrev pub HoldsPairs : ℕ → Pairs → List ℕ → Type 0
HoldsPairs n = HoldsRows n n

-- the rows with the bit of (v,u) made d
unfoldable pub put_rows : ℕ → ℕ → ℕ → List ℕ → List ℕ
put_rows d v u rows = set rows (word_of v u) (put_bit d (get_or rows (word_of v u) 0) (bit_in u))

-- the rows with the bit of (v,u) cleared
abbrev pub cleared_rows : ℕ → ℕ → List ℕ → List ℕ
cleared_rows = put_rows 0

-- the rows with the bit of (v,u) set
abbrev pub related_rows : ℕ → ℕ → List ℕ → List ℕ
related_rows = put_rows 1

-- the rows with the bits of (s,t) and (t,s) cleared
unfoldable pub removed_rows : ℕ → ℕ → List ℕ → List ℕ
removed_rows s t rows = cleared_rows s t (cleared_rows t s rows)

-- the rows with row v made row u of other rows
unfoldable pub copied_rows : List ℕ → ℕ → ℕ → List ℕ → List ℕ
copied_rows from u v rows = set (set rows (2 * v) (word_at from u 0)) (2 * v + 1) (word_at from u 1)

-- r is the first state from u on of which f holds; where f holds of none, r is no state
abbrev pub IsNext : (ℕ → Bool) → ℕ → ℕ → Type 0
IsNext = IsNextBelow limits.states

-- r is the first state from u on of which f holds, if there is one
abbrev pub IsNextState : (ℕ → Bool) → ℕ → Option ℕ → Type 0
IsNextState f u None = IsNext f u limits.states
IsNextState f u (Some r) = (r < limits.states) × IsNext f u r
