-- The rows of the states with one byte, a label or the number of a block.
use Rattle.std.specs.Prelude.{ℕ, ◌<◌, ◌≤◌, ◌≡◌, Bool, false, List, eqb, length, get_or}
use Rattle.bisimulation.specs.definitions.Choice.{all_below}
use Rattle.bisimulation.specs.definitions.Pairs.{Pairs}
use Rattle.rules.specs.definitions.Certificate.{agree, same_block}
use Rattle.rules.specs.definitions.Limits.{limits}
use Rattle.limits.specs.Sizes.{row_words}
use Rattle.pairs.specs.Rows.{row_bit, HoldsPairs}

-- the pairs of equal labels, the labels in a list
unfoldable pub same_labels : List ℕ → Pairs
same_labels labels v u = eqb (get_or labels v 0) (get_or labels u 0)

-- the row of a state with this byte, for the first n states: bit u says that state u has the byte
pub record IsRow (bytes : List ℕ) (byte n : ℕ) (row : ℕ → Bool) : Type 0 where
  pub bits : (u : ℕ) → u < n → row u ≡ eqb byte (get_or bytes u 0)
  pub rest : (u : ℕ) → n ≤ u → row u ≡ false

-- the bytes of n states are numbers of rows
pub record SmallBytes (n : ℕ) (bytes : List ℕ) : Type 0 where
  pub small : (u : ℕ) → u < n → get_or bytes u 0 < limits.states

-- row b is that of a state with byte b
pub record AreClasses (bytes : List ℕ) (n : ℕ) (rows : List ℕ) : Type 0 where
  pub whole : length rows ≡ row_words
  pub row : (b : ℕ) → b < limits.states → IsRow bytes b n (row_bit rows b)

-- two of n states share a block exactly when they are related
abbrev pub shared_as_related : ℕ → List ℕ → Pairs → Bool
shared_as_related n blocks R = all_below n (λ v. all_below n (λ u. agree (same_block blocks v u) (R v u)))

-- the answer says that of the pairs that the rows hold
pub record Agrees (blocks : List ℕ) (n : ℕ) (rows : List ℕ) (answer : Bool) : Type 0 where
  pub tells : (R : Pairs) → HoldsPairs n R rows → answer ≡ shared_as_related n blocks R
