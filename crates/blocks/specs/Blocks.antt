-- What the judge of the blocks record hands up.
use Rattle.std.specs.Prelude.{ℕ, ◌+◌, ◌≤◌, ◌≡◌, List, length, Result, IfOk}
use Rattle.bisimulation.specs.definitions.Automaton.{Automaton}
use Rattle.bisimulation.specs.definitions.Pairs.{Pairs}
use Rattle.rules.specs.definitions.Certificate.{blocks_fault}
use Rattle.fault.specs.Faults.{fault_in, IsAt}
use Rattle.fault.specs.declared.Fault.{Fault}
use Rattle.pairs.specs.Rows.{HoldsPairs}

-- the fault is document 01's for an automaton of n states and the pairs that the rows hold, at its place; where there is none the record
-- lies in the file
pub record BlocksJudged {T : Type 0} (C : List ℕ) (at n : ℕ) (rows : List ℕ) (r : Result T Fault) : Type 0 where
  pub is : (A : Automaton) → A.states ≡ n → (R : Pairs) → HoldsPairs n R rows → fault_in r ≡ blocks_fault A C R at
  pub place : IsAt at r
  pub inside : IfOk r (λ _. at + 2 + n ≤ length C)
