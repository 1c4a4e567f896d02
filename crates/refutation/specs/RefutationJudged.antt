-- What the judge of a refutation hands up.
use Rattle.std.specs.Prelude.{ℕ, ◌+◌, ◌≤◌, ◌<◌, ◌≡◌, List, length, Result, IfOk, ℤ}
use Rattle.bisimulation.specs.definitions.Pairs.{Pairs}
use Rattle.rules.specs.definitions.Certificate.{FileRule, challenger_at, defender_at, after_refutation, pair_fault, refutation_fault}
use Rattle.fault.specs.Faults.{fault_in, IsAt}
use Rattle.fault.specs.declared.Fault.{Fault}
use Rattle.pairs.specs.Rows.{HoldsPairs}
use Rattle.transition.specs.Known.{automaton_in}
use Rattle.refutation_prices.specs.PricesJudged.{Tables, FaultIs}
use Rattle.refutation.specs.declared.Head.{Head}
use Rattle.refutation.specs.declared.Refuted.{Refuted}

-- the fixed fields of the refutation at a place, and where its prices begin
pub record HeadAt (C : List ℕ) (at : ℕ) (r : Head) : Type 0 where
  pub challenger : r.challenger ≡ challenger_at C at
  pub defender : r.defender ≡ defender_at C at
  pub prices : r.prices.at ≡ at + 5

-- 14 is judged, and no fault tells that the challenger and the defender are there
pub record PairJudged {T : Type 0} (s : List ℕ) (n count : ℕ) (rows : List ℕ) (q t : ℕ) (r : Result T Fault) : Type 0 where
  pub fault : FaultIs n rows (λ R. pair_fault (automaton_in s) R q t) r
  pub challenger : IfOk r (λ _. q < count)
  pub defender : IfOk r (λ _. t < n)

-- the pair that a refutation removes, two of n states, and the place after it
pub record Refutes (rule : FileRule) (s C : List ℕ) (n at : ℕ) (r : Refuted) : Type 0 where
  pub source : r.source ≡ (automaton_in s).source (challenger_at C at)
  pub defender : r.defender ≡ defender_at C at
  pub first : r.source < n
  pub second : r.defender < n
  pub next : r.next.at ≡ after_refutation rule (automaton_in s) C at
  pub inside : r.next.at ≤ length C

-- the fault is document 01's for the pairs that the rows hold, at its place; where there is none, the record is passed
pub record RefutationJudged (rule : FileRule) (s C : List ℕ) (n : ℕ) (rows : List ℕ) (at : ℕ) (x y g : List ℤ) (r : Result Refuted Fault) : Type 0 where
  pub is : (R : Pairs) → HoldsPairs n R rows → fault_in r ≡ refutation_fault rule (automaton_in s) C R at
  pub place : IsAt at r
  pub refutes : IfOk r (λ (v : Refuted). Refutes rule s C n at v)
  pub tables : Tables x y g
