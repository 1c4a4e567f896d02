-- What the judge of a refutation's prices hands up.
use Rattle.std.specs.Prelude.{ℕ, ◌+◌, ◌*◌, ◌<◌, ◌≡◌, List, length, Result, ℤ}
use Rattle.bisimulation.specs.definitions.Pairs.{Pairs}
use Rattle.rules.specs.definitions.Limits.{limits}
use Rattle.rules.specs.definitions.Bytes.{signed_at}
use Rattle.rules.specs.definitions.Faults as rules
use Rattle.rules.specs.definitions.Certificate.{FileRule}
use Rattle.rule_kind.specs.declared.Kind.{Kind}
use Rattle.rule_kind.specs.declared.Kind.TheVariants.{Plain, Costs, Strong}
use Rattle.rule_kind.specs.Kinds.{KindStands}
use Rattle.fault.specs.Faults.{fault_in}
use Rattle.fault.specs.declared.Fault.{Fault}
use Rattle.pairs.specs.Rows.{HoldsPairs}
use Rattle.transition.specs.Known.{automaton_in}

-- three tables, each of a price for a state
pub record Tables (x y g : List ℤ) : Type 0 where
  pub first : length x ≡ limits.states
  pub second : length y ≡ limits.states
  pub third : length g ≡ limits.states

-- the challenger q and the defender t of a sound model, which has what the rule asks of it
pub record Asked (kind : Kind) (s : List ℕ) (n count q t : ℕ) : Type 0 where
  pub challenger : q < count
  pub defender : t < n
  pub stands : KindStands kind s

-- which of the prices is A of a state: 'A for n states', or K14, 'one price A for t'
unfoldable pub index_of_a : Kind → ℕ → ℕ
index_of_a Plain v = v
index_of_a Costs v = v
index_of_a Strong v = 0

-- the fault is F of the pairs that the rows hold
pub record FaultIs {T : Type 0} (n : ℕ) (rows : List ℕ) (F : Pairs → rules.Fault) (r : Result T Fault) : Type 0 where
  pub number : (R : Pairs) → HoldsPairs n R rows → fault_in r ≡ F R

-- 15 and 16 are judged, as the rule says
pub record PricesJudged {T : Type 0} (rule : FileRule) (s C : List ℕ) (n : ℕ) (rows : List ℕ) (q t at : ℕ) (x y g : List ℤ) (r : Result T Fault) : Type 0 where
  pub fault : FaultIs n rows (λ R. rule.prices_fault (automaton_in s) R q t (λ i. signed_at C (at + 4 * i))) r
  pub tables : Tables x y g
