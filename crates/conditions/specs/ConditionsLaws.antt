-- Laws of the price conditions as they are tested.
use Rattle.std.specs.Prelude.{ℕ, zero, suc, ◌+◌, ◌*◌, ◌-◌, ◌^◌, ◌≤◌, ◌<◌, ◌≡◌, false, not, List, length, get_or, ltb, negsuc, nat_abs, ◌+ℤ◌, ◌-ℤ◌, ◌*ℤ◌}
use Rattle.std.proofs.Math.Path.{refl, sym, ap, ap₂}
use Rattle.std.specs.List.{range_with_len, AllWithin, HoldsAt}
use Rattle.std.proofs.lemmas.List.FromFn.{get_or-range_with_len, length-range_with_len}
use Rattle.std.proofs.Common.{◌∙◌, subst, MatchBool, zero-add, lt-ltb, le-ltb, le-leb, ltb-true, ltb-false, zero-mul, mul-le-mul, mul-le-mul_left, arith}
use Rattle.std.proofs.Math.Bool.{Bool, true, cond}
use Rattle.std.proofs.Math.IntN.{ℤ, pos, sub_ℕ, +ℤ_idr, zero-*ℤ}
use Rattle.std.specs.Int.Signed.{mag, le_z, lt_z}
use mir.Syntax.{w64}
use mir.Val.{to_z, of_z}
use Rattle.std.proofs.Math.Facts.{to_z-of_z}
use Rattle.std.proofs.Math.Decide.{ℕ_discrete}
use Rattle.bisimulation.specs.definitions.Choice.{if_same, if_true, both, all_below}
use Rattle.bisimulation.proofs.argument.ChoiceLaws.{same, not_same, below_all, not-all, all_below_cong, all_both}
use Rattle.bisimulation.specs.definitions.Automaton.{Automaton}
use Rattle.bisimulation.specs.definitions.Prices.{price_at, price_of_targets}
use Rattle.rules.specs.definitions.Limits.{limits}
use Rattle.rules.specs.definitions.Reading.{states_of, count_of, entries_at}
use Rattle.rules.specs.definitions.Faults.{Fault}
use Rattle.rules.specs.definitions.PlainRule.{price_condition, all_with_action, below, last_fault}
use Rattle.rules.proofs.argument.BreakLaws.{by-test}
use Rattle.costs.specs.definitions.CostPrices.{price_with_cost}
use Rattle.cost_files.specs.definitions.CostModel.{highest_cost}
use Rattle.cost_files.specs.definitions.CostFile.{cost_condition, last_cost_fault}
use Rattle.cost_files.proofs.argument.CostReadingLaws.{cost-at}
use Rattle.strong_files.specs.definitions.StrongFile.{own_with_action, all_own}
use Rattle.rule_kind.specs.declared.Kind.{Kind}
use Rattle.rule_kind.specs.declared.Kind.TheVariants.{Plain, Costs, Strong}
use Rattle.rule_kind.specs.declared.Condition.{Condition}
use Rattle.rule_kind.specs.declared.Condition.TheVariants.{Across, Within, Unasked}
use Rattle.rule_kind.specs.Kinds.{is_strong, cost_in, CostAsked, CostIs}
use Rattle.rule_kind.specs.Steps.{own_transition, strong_condition, condition_by}
use Rattle.rule_kind.specs.StepsLaws.{across, within, unasked}
use Rattle.signed.specs.Terms.{Addable, WithTerm}
use Rattle.signed.specs.TermsLaws.{abs-add, abs-less, abs-term, mag-abs}
use Rattle.transition_record.specs.declared.Fields.{Fields}
use Rattle.transition.specs.Known.{automaton_in, Known, KnownTransition, FieldsOf}
use Rattle.transition.specs.KnownLaws.{few-states, known-own, known-transitions, known-transition, entries-known}
use Rattle.prices.specs.Prices.{price_in, SmallPrices, IsSum}
use Rattle.prices.specs.PricesLaws.{price-back, sum_back, targets-small, sum_is}
use Rattle.conditions.specs.Conditions.{fair_twice, fair_by, fair_to, all_fair, last_holds, last_off, CostPriced, CostAddable, LastAsked}

-- a state has a price, and d is small
pub state-price : {s places : List ℕ} {n count r v : ℕ} {f : Fields} {table : List ℤ} → Known s n count places → FieldsOf s r f → SmallPrices (states_of s) table → v < states_of s → (f.denominator < 65536) × (v < limits.states) × (mag (price_in table v) < 2 ^ 31)
state-price k h small less = (h.small, omega (arith, less, few-states k, k.states), small.small _ less)

-- the cost of a transition is not above the highest
pub cost-low : {kind : Kind} {s places : List ℕ} {count r : ℕ} → CostAsked kind s count places r → cost_in kind s r ≤ highest_cost
cost-low {kind = Plain} a = omega arith
cost-low {kind = Strong} a = omega arith
cost-low {kind = Costs} {s} {r = r} a =
    let below : r < count_of s = omega (arith, a.below, a.known.transitions) in omega (arith, cost-at s r below, a.stands.low r below)

-- how large a sum with the cost is at most
pub with-cost-small : (cost d : ℕ) (l sum : ℤ) → d < 65536 → mag l < 2 ^ 31 → nat_abs sum ≤ 2 ^ 31 * 65535 → nat_abs (sum +ℤ pos (cost * d) *ℤ l) ≤ 2 ^ 31 * 65535 * (1 + cost)
with-cost-small cost d l sum light small room =
    let most : cost * d ≤ cost * 65535 = mul-le-mul_left cost (omega arith) in
    omega (arith, abs-add sum (pos (cost * d) *ℤ l), abs-term (cost * d) l (2 ^ 31) small)

-- the term of a cost can be added to a sum, and what that makes
module _ {kind : Kind} {s : List ℕ} {count r cost d : ℕ} {l sum : ℤ} (a : CostAddable kind s count r d l sum) (i : CostIs kind s r cost) where
  pub weight-small : cost * d ≤ highest_cost * 65535
  weight-small = mul-le-mul {n₂ = highest_cost} {m₂ = 65535} i.low (omega (arith, a.light))

  sum-again : to_z w64 (of_z w64 sum) ≡ sum
  sum-again = to_z-of_z {w = w64} (record { sfits = omega (arith, mag-abs sum, a.small) })

  pub term-addable : Addable (to_z w64 (of_z w64 sum)) (cost * d) (to_z w64 (of_z w64 l))
  term-addable = rw (sum-again, price-back l a.price) (record { room = omega (arith, weight-small, a.small); small = omega (arith, a.price) })

  pub no-term : cost ≡ 0 → to_z w64 (of_z w64 sum) ≡ sum +ℤ pos (cost_in kind s r * d) *ℤ l
  no-term e =
      sum-again ∙ sym (ap (λ (c : ℕ). sum +ℤ pos (c * d) *ℤ l) (sym i.is ∙ e)
      ∙ ap (λ (w : ℕ). sum +ℤ pos w *ℤ l) (zero-mul d)
      ∙ ap (λ (z : ℤ). sum +ℤ z) (zero-*ℤ l)
      ∙ +ℤ_idr sum)

  pub with-its-term : {z : ℤ} → WithTerm (to_z w64 (of_z w64 sum)) (cost * d) (to_z w64 (of_z w64 l)) z → to_z w64 (of_z w64 z) ≡ sum +ℤ pos (cost_in kind s r * d) *ℤ l
  with-its-term {z} t =
      ap (λ (y : ℤ). to_z w64 (of_z w64 y)) (t.value ∙ ap₂ (λ (y k : ℤ). y +ℤ pos (cost * d) *ℤ k) sum-again (price-back l a.price))
      ∙ to_z-of_z {w = w64} (record { sfits = omega (arith, mag-abs whole, with-cost-small cost d l sum a.light a.price a.small, i.low) })
      ∙ ap (λ (c : ℕ). sum +ℤ pos (c * d) *ℤ l) i.is
    where
      whole : ℤ
      whole = sum +ℤ pos (cost * d) *ℤ l

-- z is the side of the targets of the transition r, as the machine reads it back from its bits
pub record IsSide (kind : Kind) (s : List ℕ) (r : ℕ) (l : ℤ) (y : List ℤ) (z : ℤ) : Type 0 where
  pub back : to_z w64 (of_z w64 z) ≡ price_with_cost (cost_in kind s) (automaton_in s) l (price_in y) r

-- its targets are summed up
module _ {kind : Kind} {s places : List ℕ} {n count r : ℕ} {l : ℤ} (k : Known s n count places) (a : CostPriced kind s count r l) where
  pub priced-transition : KnownTransition s places r
  priced-transition = known-transition k a.below

  cost-small : cost_in kind s r ≤ highest_cost
  cost-small = cost-low (record { known = known-own k; stands = a.stands; below = a.below })

  -- how large the side of its targets is at most
  pub side-small : {y : List ℤ} → SmallPrices (states_of s) y → nat_abs (price_with_cost (cost_in kind s) (automaton_in s) l (price_in y) r) ≤ 2 ^ 31 * 65535 * (1 + cost_in kind s r)
  unfolding price_with_cost
  side-small {y} small =
      with-cost-small (cost_in kind s r) ((automaton_in s).denominator r) l (price_of_targets (automaton_in s) (price_in y) r)
      (omega (arith, (entries-known priced-transition).light)) a.price (targets-small priced-transition small)

  module _ {f : Fields} (h : FieldsOf s r f) {y : List ℤ} {sum : ℤ} (e : IsSum (entries_at s f.count f.entries.at) y sum) where
    -- so the term of its cost can be added
    pub cost-addable : CostAddable kind s count r f.denominator (to_z w64 (of_z w64 l)) (to_z w64 (of_z w64 sum))
    cost-addable =
        rw (price-back l a.price, sum_back e) (record { stands = a.stands; below = a.below; light = h.small; price = a.price; small = e.small })

    -- the sum with it is the side of the targets
    pub side-is : {z : ℤ} → z ≡ to_z w64 (of_z w64 sum) +ℤ pos (cost_in kind s r * f.denominator) *ℤ to_z w64 (of_z w64 l) → SmallPrices (states_of s) y → IsSide kind s r l y z
    unfolding price_with_cost
    side-is {z} value small =
        record {
          back = ap (λ (x : ℤ). to_z w64 (of_z w64 x)) is ∙ to_z-of_z {w = w64} (record { sfits = omega (arith, mag-abs side, side-small small, cost-small) });
        }
      where
        side : ℤ
        side = price_with_cost (cost_in kind s) (automaton_in s) l (price_in y) r

        is : z ≡ side
        is =
            value
            ∙ ap₂ (λ (x k : ℤ). x +ℤ pos (cost_in kind s r * f.denominator) *ℤ k) (sum_back e ∙ sum_is priced-transition h e) (price-back l a.price)
            ∙ ap (λ (d : ℕ). price_of_targets (automaton_in s) (price_in y) r +ℤ pos (cost_in kind s r * d) *ℤ l) h.denominator

pub side-fits : {kind : Kind} {s places : List ℕ} {n count r : ℕ} {l z : ℤ} {y : List ℤ} → Known s n count places → CostPriced kind s count r l → SmallPrices (states_of s) y → IsSide kind s r l y z → nat_abs (to_z w64 (of_z w64 z)) ≤ 2 ^ 31 * 65535 * (1 + highest_cost)
side-fits k a small e = omega (arith, ap nat_abs e.back, side-small k a small, cost-small k a)

-- it and d times the price of the source are the two sides of the condition
pub condition-is : {kind : Kind} {s : List ℕ} {r : ℕ} {f : Fields} {l : ℤ} {y : List ℤ} {z : ℤ} (x : List ℤ) → FieldsOf s r f → IsSide kind s r l y z → le_z (to_z w64 (of_z w64 z)) (pos f.denominator *ℤ price_in x f.source) ≡ cost_condition (cost_in kind s) (automaton_in s) l (price_in x) (price_in y) r
unfolding price_condition price_at
condition-is x h e = ap₂ le_z e.back (ap₂ (λ (d v : ℕ). pos d *ℤ price_in x v) h.denominator h.source)

-- d times the price of t and it are the two sides of the last condition
module _ {kind : Kind} {s : List ℕ} {q : ℕ} {f : Fields} {l : ℤ} {g : List ℤ} {z : ℤ} (x : List ℤ) (t : ℕ) (h : FieldsOf s q f) (e : IsSide kind s q l g z) where
  left_is : pos f.denominator *ℤ price_in x t ≡ price_at (automaton_in s) (price_in x) q t
  unfolding price_at
  left_is = ap (λ (d : ℕ). pos d *ℤ price_in x t) h.denominator

  pub off-is : pos f.denominator *ℤ price_in x t -ℤ to_z w64 (of_z w64 z) ≡ last_off (cost_in kind s) (automaton_in s) l (price_in x) (price_in g) q t
  off-is = ap₂ ◌-ℤ◌ left_is e.back

-- a difference is at least 0 where the first is not below the second
difference-sign : (a b : ℕ) → le_z (pos 0) (sub_ℕ a b) ≡ not (ltb a b)
difference-sign a b = go (ltb a b)
  where
    go : (t : Bool) → le_z (pos 0) (cond t (negsuc (b - suc a)) (pos (a - b))) ≡ not t
    go true = refl
    go false = le-leb 0 (a - b) (omega arith)

less-suc : (a b : ℕ) → ltb (suc a) (suc b) ≡ ltb a b
less-suc a b = go (ltb a b) refl
  where
    go : (t : Bool) → ltb a b ≡ t → ltb (suc a) (suc b) ≡ t
    go true e = lt-ltb (suc a) (suc b) (omega (arith, ltb-true a b e))
    go false e = le-ltb (suc a) (suc b) (omega (arith, ltb-false a b e))

off-sign : (a b : ℤ) → le_z (pos 0) (a -ℤ b) ≡ not (lt_z a b)
off-sign (pos a) (pos zero) = le-leb 0 (a + 0) (omega arith) ∙ sym (ap not (le-ltb a 0 (omega arith)))
off-sign (pos a) (pos (suc b)) = difference-sign a (suc b)
off-sign (pos a) (negsuc b) = le-leb 0 (a + suc b) (omega arith)
off-sign (negsuc a) (pos zero) = difference-sign 0 (suc a) ∙ ap not (lt-ltb 0 (suc a) (omega arith))
off-sign (negsuc a) (pos (suc b)) = refl
off-sign (negsuc a) (negsuc b) = difference-sign (suc b) (suc a) ∙ ap not (less-suc b a)

-- how much d times a price is off a sum
pub off_small : (cost d : ℕ) (price sum : ℤ) → d < 65536 → mag price < 2 ^ 31 → nat_abs sum ≤ 2 ^ 31 * 65535 * (1 + cost) → mag (pos d *ℤ price -ℤ sum) < 2 ^ 48 * (1 + cost)
off_small cost d price sum light small room =
    let term = pos d *ℤ price in
    omega (arith, mag-abs (term -ℤ sum), abs-less term sum, abs-term d price (2 ^ 31) small)

-- how much the last condition is off
module _ {kind : Kind} {s places : List ℕ} {n count q t : ℕ} {l : ℤ} {x g : List ℤ} (k : Known s n count places) (a : LastAsked kind s count q t l x g) where
  off-fits : mag (last_off (cost_in kind s) (automaton_in s) l (price_in x) (price_in g) q t) < 2 ^ 48 * (1 + cost_in kind s q)
  unfolding price_at
  off-fits =
      off_small (cost_in kind s q) ((automaton_in s).denominator q) (price_in x t) (price_with_cost (cost_in kind s) (automaton_in s) l (price_in g) q)
      (omega (arith, (entries-known (priced-transition k a.challenger)).light)) (a.first.small t a.defender) (side-small k a.challenger a.third)

  -- the remainder of 16 fits 8 bytes
  pub last_fits : mag (last_cost_fault (cost_in kind s) (automaton_in s) l (price_in x) (price_in g) q t).remainder < 2 ^ 48 * (1 + cost_in kind s q)
  unfolding last_fault below
  last_fits = by-test (λ (f : Fault). mag f.remainder < 2 ^ 48 * (1 + cost_in kind s q)) _ (λ e. omega arith) (λ e. off-fits)

  -- so the machine reads it back from its bits
  pub off-back : {r : ℤ} → r ≡ last_off (cost_in kind s) (automaton_in s) l (price_in x) (price_in g) q t → to_z w64 (of_z w64 r) ≡ last_off (cost_in kind s) (automaton_in s) l (price_in x) (price_in g) q t
  off-back e = ap (λ (z : ℤ). to_z w64 (of_z w64 z)) e ∙ to_z-of_z {w = w64} (record { sfits = omega (arith, off-fits, cost-small k a.challenger) })

  -- it is off by 0 or more where the last condition breaks
  pub off-tells : {r : ℤ} → r ≡ last_off (cost_in kind s) (automaton_in s) l (price_in x) (price_in g) q t → le_z (pos 0) (to_z w64 (of_z w64 r)) ≡ not (last_holds (cost_in kind s) (automaton_in s) l (price_in x) (price_in g) q t)
  off-tells e =
      ap (le_z (pos 0)) (off-back e) ∙ off-sign (price_at (automaton_in s) (price_in x) q t) (price_with_cost (cost_in kind s) (automaton_in s) l (price_in g) q)

-- both conditions hold, by the first and then the second
module _ (cost : ℕ → ℕ) (A : Automaton) (L : ℤ) (X Y : ℕ → ℤ) (r : ℕ) where
  pub twice-not : cost_condition cost A L X X r ≡ false → false ≡ fair_twice cost A L X Y r
  unfolding fair_twice both
  twice-not e = ap (λ (t : Bool). cond t (cost_condition cost A L Y Y r) false) (sym e)

  pub twice-then : {z : Bool} → cost_condition cost A L X X r ≡ true → z ≡ cost_condition cost A L Y Y r → z ≡ fair_twice cost A L X Y r
  unfolding fair_twice both
  twice-then e q = q ∙ ap (λ (t : Bool). cond t (cost_condition cost A L Y Y r) false) (sym e)

-- what each condition says of a transition whose source and action were read
module _ (cost : ℕ → ℕ) (A : Automaton) (L : ℤ) (kind : Kind) (a t : ℕ) (X Y : ℕ → ℤ) (r : ℕ) {source action : ℕ} {condition : Condition} (is : condition ≡ condition_by kind a t source action) (from : source ≡ A.source r) (read : action ≡ A.action r) where
  fair-as : {z : Bool} {told : Condition} → condition ≡ told → z ≡ fair_by cost A L told X Y r → z ≡ fair_to cost A L kind a t X Y r
  unfolding fair_to
  fair-as e f = f ∙ ap (λ (c : Condition). fair_by cost A L c X Y r) (sym e ∙ is ∙ ap₂ (condition_by kind a t) from read)

  pub fair-across : {z : Bool} → condition ≡ Across → z ≡ cost_condition cost A L X Y r → z ≡ fair_to cost A L kind a t X Y r
  unfolding fair_by
  fair-across e f = fair-as e f

  pub fair-within : {z : Bool} → condition ≡ Within → z ≡ fair_twice cost A L X Y r → z ≡ fair_to cost A L kind a t X Y r
  unfolding fair_by
  fair-within e f = fair-as e f

  pub fair-unasked : condition ≡ Unasked → true ≡ fair_to cost A L kind a t X Y r
  unfolding fair_by
  fair-unasked e = fair-as e refl

-- what is said of item r of `0..count` is said of r
from-range : (P : ℕ → Type 0) {count : ℕ} (r : ℕ) → r < count → P (get_or (range_with_len 0 count) r 0) → P r
from-range P {count} r less = subst P (get_or-range_with_len 0 count r 0 less ∙ zero-add r)

-- each of the numbers below count passes, or one does not
pub all-told : (count : ℕ) (f : ℕ → Bool) {told : Bool} → MatchBool told (AllWithin (λ r. true ≡ f r) (range_with_len 0 count) 0 (length (range_with_len 0 count))) ((r : ℕ) × (r < length (range_with_len 0 count)) × HoldsAt (λ r. false ≡ f r) (range_with_len 0 count) r) → told ≡ all_below count f
all-told count f {told = true} all =
    sym (below_all count f (λ r less. sym (from-range (λ r. true ≡ f r) r less (all r 0 (omega arith) (omega (arith, length-range_with_len 0 count))))))
all-told count f {told = false} (r, small, fails) =
    let less : r < count = omega (arith, length-range_with_len 0 count) in
    not-all count f r less (sym (from-range (λ r. false ≡ f r) r less (fails 0)))

-- the transitions of the head are all of them
pub all-of-count : {s places : List ℕ} {n count : ℕ} → Known s n count places → (cost : ℕ → ℕ) (L : ℤ) (kind : Kind) (a t : ℕ) (X Y : ℕ → ℤ) → all_below count (fair_to cost (automaton_in s) L kind a t X Y) ≡ all_fair cost (automaton_in s) L kind a t X Y
unfolding all_fair
all-of-count {s} k cost L kind a t X Y = ap (λ (n : ℕ). all_below n (fair_to cost (automaton_in s) L kind a t X Y)) (sym (known-transitions k))

-- what the tests of the strong rule come to
pub fair-strong : (cost : ℕ → ℕ) (A : Automaton) (L : ℤ) (q t : ℕ) (X Y : ℕ → ℤ) → all_fair cost A L Strong (A.action q) t X Y ≡ all_own A q t (cost_condition cost A L X Y)
unfolding all_fair all_own fair_to condition_by strong_condition own_transition own_with_action if_true fair_by
fair-strong cost A L q t X Y = all_below_cong A.transitions _ _ (λ r l. go r (own_with_action A q t r))
  where
    go : (r : ℕ) (own : Bool) → fair_by cost A L (cond own Across Unasked) X Y r ≡ cond own (cost_condition cost A L X Y r) true
    go r true = refl
    go r false = refl

-- and those of each kind of challenger by the others
module _ (cost : ℕ → ℕ) (A : Automaton) (L : ℤ) (kind : Kind) (weak : is_strong kind ≡ false) (t : ℕ) where
  pub fair-internal : (X : ℕ → ℤ) → all_fair cost A L kind 0 t X X ≡ all_with_action A 0 (cost_condition cost A L X X)
  unfolding all_fair all_with_action
  fair-internal X = all_below_cong A.transitions _ _ (λ r l. go r (ℕ_discrete (A.action r) 0))
    where
      go : (r : ℕ) → Dec (A.action r ≡ 0) → fair_to cost A L kind 0 t X X r ≡ if_same (A.action r) 0 (cost_condition cost A L X X r) true
      go r (yes e) = sym (fair-across cost A L kind 0 t X X r refl refl refl (across kind weak 0 t (A.source r) (A.action r) e) refl) ∙ same true e refl
      go r (no e) = sym (fair-unasked cost A L kind 0 t X X r refl refl refl (unasked kind weak 0 t (A.source r) (A.action r) e e)) ∙ not_same (cost_condition cost A L X X r) e refl

  module _ (a : ℕ) (X Y : ℕ → ℤ) (external : a ≡ 0 → ⊥) where
    each-fair : (r : ℕ) → fair_to cost A L kind a t X Y r ≡ both (both (if_same (A.action r) 0 (cost_condition cost A L X X r) true) (if_same (A.action r) 0 (cost_condition cost A L Y Y r) true)) (if_same (A.action r) a (cost_condition cost A L X Y r) true)
    unfolding fair_twice both
    each-fair r = go (ℕ_discrete (A.action r) 0) (ℕ_discrete (A.action r) a)
      where
        move : Bool
        move = if_same (A.action r) a (cost_condition cost A L X Y r) true

        after : (b : Bool) → b ≡ cond b true false
        after true = refl
        after false = refl

        apart : (A.action r ≡ 0 → ⊥) → move ≡ cond (cond (if_same (A.action r) 0 (cost_condition cost A L X X r) true) (if_same (A.action r) 0 (cost_condition cost A L Y Y r) true) false) move false
        apart e =
            ap (λ (b : Bool). cond b move false)
            (ap₂ (λ (b c : Bool). cond b c false) (not_same (cost_condition cost A L X X r) e refl) (not_same (cost_condition cost A L Y Y r) e refl))

        go : Dec (A.action r ≡ 0) → Dec (A.action r ≡ a) → fair_to cost A L kind a t X Y r ≡ cond (cond (if_same (A.action r) 0 (cost_condition cost A L X X r) true) (if_same (A.action r) 0 (cost_condition cost A L Y Y r) true) false) move false
        go (yes e) (yes q) = absurd (external (sym q ∙ e))
        go (yes e) (no other) =
            sym (fair-within cost A L kind a t X Y r refl refl refl (within kind weak a t (A.source r) (A.action r) other e) refl) ∙ after _
            ∙ ap₂ (λ (b c : Bool). cond b c false)
            (ap₂ (λ (b c : Bool). cond b c false) (same true e refl) (same true e refl))
            (not_same (cost_condition cost A L X Y r) other refl)
        go (no e) (yes q) = sym (fair-across cost A L kind a t X Y r refl refl refl (across kind weak a t (A.source r) (A.action r) q) refl) ∙ same true q refl ∙ apart e
        go (no e) (no other) =
            sym (fair-unasked cost A L kind a t X Y r refl refl refl (unasked kind weak a t (A.source r) (A.action r) other e)) ∙ not_same (cost_condition cost A L X Y r) other refl ∙ apart e

    pub fair-external : all_fair cost A L kind a t X Y ≡ both (both (all_with_action A 0 (cost_condition cost A L X X)) (all_with_action A 0 (cost_condition cost A L Y Y))) (all_with_action A a (cost_condition cost A L X Y))
    unfolding all_fair all_with_action
    fair-external =
        all_below_cong A.transitions _ _ (λ r l. each-fair r)
        ∙ all_both A.transitions _ _
        ∙ ap (λ (b : Bool). both b (all_below A.transitions (λ r. if_same (A.action r) a (cost_condition cost A L X Y r) true))) (all_both A.transitions _ _)
