-- The questions of the flow records, by the run of transitions that leave a state.
use Rattle.std.specs.Prelude.{ℕ, zero, suc, ◌+◌, ◌≤◌, ◌<◌, ◌≡◌, true, false, List, [], ◌∷◌}
use Rattle.bisimulation.specs.definitions.Choice.{if_same, if_true}
use Rattle.bisimulation.specs.definitions.Automaton.{Automaton}
use Rattle.rules.specs.definitions.Certificate.{same_block}
use Rattle.rules.specs.definitions.Judging.{Question}
use Rattle.rules.specs.definitions.Limits.{limits}
use Rattle.pairs.specs.Rows.{row_bit}

-- x is the first of the transitions from r on that does not leave a state
pub record IsPast (A : Automaton) (count state r x : ℕ) : Type 0 where
  pub from : r ≤ x
  pub most : x ≤ count
  pub leave : (i : ℕ) → r ≤ i → i < x → A.source i ≡ state
  pub stops : x < count → A.source x ≡ state → ⊥

-- the run from `first` to `past` asks t where the two states differ and lie in one block; else an empty one does
unfoldable pub run_end : List ℕ → (state t : ℕ) → (first past : ℕ) → ℕ
run_end blocks state t first past = if_same state t first (if_true (same_block blocks state t) past first)

-- x is the first state from t on that is related to a state, by the rows, and is another one; where there is none, x is no state
pub record IsDefender (rows : List ℕ) (state t x : ℕ) : Type 0 where
  pub from : t ≤ x
  pub none : (u : ℕ) → t ≤ u → u < x → (state ≡ u → ⊥) → row_bit rows state u ≡ false
  pub other : x < limits.states → state ≡ x → ⊥
  pub some : x < limits.states → row_bit rows state x ≡ true

-- x is the first state that the run from `first` to `past` asks; n where the run is empty
pub data IsFirstDefender (rows : List ℕ) (n state first past x : ℕ) : Type 0 where
  no_run : first ≡ past → x ≡ n → IsFirstDefender rows n state first past x
  asked : (first ≡ past → ⊥) → IsDefender rows state 0 x → IsFirstDefender rows n state first past x

-- the questions of so many transitions, counted from r on, against t
unfoldable pub run_questions : ℕ → (left r : ℕ) → List Question
run_questions t zero r = []
run_questions t (suc left) r = record { challenger = r; defender = t } ∷ run_questions t left (r + 1)

-- the transitions before `first` leave states below a state, and the others do not
pub record Splits (A : Automaton) (count state first : ℕ) : Type 0 where
  pub most : first ≤ count
  pub below : (i : ℕ) → i < first → A.source i < state
  pub above : (i : ℕ) → first ≤ i → i < count → state ≤ A.source i
