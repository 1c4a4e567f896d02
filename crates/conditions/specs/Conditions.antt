-- The price conditions, as they are tested.
use Rattle.std.specs.Prelude.{ℕ, ◌*◌, ◌^◌, ◌≤◌, ◌<◌, Bool, true, List, ℤ, nat_abs, ◌-ℤ◌}
use Rattle.std.specs.Int.Signed.{mag, lt_z}
use Rattle.bisimulation.specs.definitions.Choice.{unless_true, both, all_below}
use Rattle.bisimulation.specs.definitions.Automaton.{Automaton}
use Rattle.bisimulation.specs.definitions.Pairs.{Pairs}
use Rattle.bisimulation.specs.definitions.Prices.{price_at}
use Rattle.rules.specs.definitions.Reading.{states_of}
use Rattle.rules.specs.definitions.Faults.{Fault, fault}
use Rattle.rules.specs.definitions.PlainRule.{all_related}
use Rattle.costs.specs.definitions.CostPrices.{price_with_cost}
use Rattle.cost_files.specs.definitions.CostFile.{cost_condition, last_cost_fault}
use Rattle.rule_kind.specs.declared.Kind.{Kind}
use Rattle.rule_kind.specs.declared.Condition.{Condition}
use Rattle.rule_kind.specs.declared.Condition.TheVariants.{Across, Within, Unasked}
use Rattle.rule_kind.specs.Kinds.{KindStands}
use Rattle.rule_kind.specs.Steps.{condition_by}
use Rattle.prices.specs.Prices.{SmallPrices}

-- for the cost of each transition and the price L; a rule without costs has the cost 0
module _ (cost : ℕ → ℕ) (A : Automaton) (L : ℤ) where
  -- the condition of a transition holds for the prices X alone, and for Y alone
  unfoldable pub fair_twice : (X Y : ℕ → ℤ) → ℕ → Bool
  fair_twice X Y r = both (cost_condition cost A L X X r) (cost_condition cost A L Y Y r)

  -- what a condition says of a transition, for X before the move and Y after it
  unfoldable pub fair_by : Condition → (X Y : ℕ → ℤ) → ℕ → Bool
  fair_by Across X Y r = cost_condition cost A L X Y r
  fair_by Within X Y r = fair_twice X Y r
  fair_by Unasked X Y r = true

  -- what a challenger with the action a asks of a transition, against t; where there is no move Y is X
  unfoldable pub fair_to : Kind → (a t : ℕ) → (X Y : ℕ → ℤ) → ℕ → Bool
  fair_to kind a t X Y r = fair_by (condition_by kind a t (A.source r) (A.action r)) X Y r

  -- what it asks of the transitions
  unfoldable pub all_fair : Kind → (a t : ℕ) → (X Y : ℕ → ℤ) → Bool
  all_fair kind a t X Y = all_below A.transitions (fair_to kind a t X Y)

  -- 15 and 16, of the challenger q with the action a against t; where there is no move Y is X
  unfoldable pub conditions_fault : Kind → Pairs → (a q t : ℕ) → (X Y G : ℕ → ℤ) → Fault
  conditions_fault kind R a q t X Y G =
      unless_true (all_fair kind a t X Y) (fault 15)
      (unless_true (all_related A R Y G) (fault 15)
      (last_cost_fault cost A L X G q t))

  -- the last condition of the challenger q against t
  abbrev pub last_holds : (X G : ℕ → ℤ) → (q t : ℕ) → Bool
  last_holds X G q t = lt_z (price_at A X q t) (price_with_cost cost A L G q)

  -- by how much it is off: 'left side less its right'
  abbrev pub last_off : (X G : ℕ → ℤ) → (q t : ℕ) → ℤ
  last_off X G q t = price_at A X q t -ℤ price_with_cost cost A L G q

-- the costs of all transitions of a sound model may be asked for, and L is a number of four bytes
pub record AllPriced (kind : Kind) (s : List ℕ) (l : ℤ) : Type 0 where
  pub stands : KindStands kind s
  pub price : mag l < 2 ^ 31

-- that of the transition r, one of so many
pub record CostPriced (kind : Kind) (s : List ℕ) (count r : ℕ) (l : ℤ) : Type 0 where
  pub stands : KindStands kind s
  pub below : r < count
  pub price : mag l < 2 ^ 31

-- the term of that cost can be added to a sum over its targets, for the denominator d
pub record CostAddable (kind : Kind) (s : List ℕ) (count r d : ℕ) (l sum : ℤ) : Type 0 where
  pub stands : KindStands kind s
  pub below : r < count
  pub light : d < 65536
  pub price : mag l < 2 ^ 31
  pub small : nat_abs sum ≤ 2 ^ 31 * 65535

-- the last condition is asked of the challenger q against t, for the price L and the prices x and g
pub record LastAsked (kind : Kind) (s : List ℕ) (count q t : ℕ) (l : ℤ) (x g : List ℤ) : Type 0 where
  pub challenger : CostPriced kind s count q l
  pub defender : t < states_of s
  pub first : SmallPrices (states_of s) x
  pub third : SmallPrices (states_of s) g
