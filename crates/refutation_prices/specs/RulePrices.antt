-- The price conditions as they are tested are those of the rule.
use Rattle.std.specs.Prelude.{ℕ, ◌+◌, ◌*◌, ◌^◌, ◌≤◌, ◌<◌, ◌≡◌, Bool, true, false, List, ℤ, ◌-ℤ◌}
use Rattle.std.proofs.Math.Path.{refl, ap, ap₂}
use Rattle.std.proofs.Common.{sym, ◌∙◌, subst, to_z, of_z}
use Rattle.std.specs.Int.Signed.{mag, le_z, lt_z}
use Rattle.std.specs.Int.{w64}
use native.Mathlib.Omega.{arith}
use Rattle.bisimulation.specs.definitions.Choice.{if_true, unless_true, both}
use Rattle.bisimulation.proofs.argument.ChoiceLaws.{same, not_same, all_below_cong, false-not}
use Rattle.bisimulation.specs.definitions.Automaton.{Automaton, SoundAutomaton}
use Rattle.bisimulation.specs.definitions.Prices.{Side, price_of_targets}
use Rattle.bisimulation.specs.definitions.Pairs.{Pairs}
use Rattle.rules.specs.definitions.Limits.{limits}
use Rattle.rules.specs.definitions.Bytes.{signed_at}
use Rattle.rules.specs.definitions.Reading.{states_of, model_at}
use Rattle.rules.proofs.argument.SoundModelLaws.{sound-automaton}
use Rattle.rules.specs.definitions.Faults as rules
use Rattle.rules.specs.definitions.PlainRule.{by_kind, price_condition, all_related, below, last_fault, internal_prices_fault, external_prices_fault, plain_prices_fault}
use Rattle.rules.proofs.argument.PlainDecides.{AlikeOnStates, price-same}
use Rattle.costs.specs.definitions.CostPrices.{price_with_cost}
use Rattle.costs.specs.definitions.CostRefutation.{price_after}
use Rattle.costs.proofs.argument.Free.{free, free_price}
use Rattle.cost_files.specs.definitions.CostFile.{cost_condition, last_cost_fault, cost_prices_fault}
use Rattle.cost_files.proofs.argument.CostDecides.{with-cost-same}
use Rattle.cost_files.proofs.argument.FreePrices.{free-internal, free-external}
use Rattle.strong.specs.definitions.StrongRefutation.{price_a, prices_b, prices_g}
use Rattle.strong_files.specs.definitions.StrongFile.{all_own, strong_prices_fault}
use Rattle.rule_kind.specs.declared.Kind.{Kind}
use Rattle.rule_kind.specs.declared.Kind.TheVariants.{Plain, Costs, Strong}
use Rattle.rule_kind.specs.declared.Condition.{Condition}
use Rattle.rule_kind.specs.declared.Condition.TheVariants.{Across, Within, Unasked}
use Rattle.rule_kind.specs.Kinds.{is_strong, rule_of, cost_in}
use Rattle.rule_kind.specs.Steps.{has_move, further_prices, first_prices, prices_by, further_at, IsFurther, condition_by}
use Rattle.rule_kind.specs.StepsLaws.{strong-move, moves-external, stays-internal, prices-with-move, prices-without-move}
use Rattle.transition.specs.Known.{automaton_in, Known}
use Rattle.transition.specs.KnownLaws.{known-states}
use Rattle.prices.specs.Prices.{price_in, HoldsPrices, SmallPrices}
use Rattle.prices.specs.PricesLaws.{price-back}
use Rattle.conditions.specs.Conditions.{fair_twice, fair_by, fair_to, all_fair, conditions_fault, AllPriced, LastAsked}
use Rattle.conditions.specs.ConditionsLaws.{fair-strong, fair-internal, fair-external}
use Rattle.refutation_prices.specs.PricesJudged.{Asked, index_of_a}

-- the states are those of the file
module _ {s places : List ℕ} {n count : ℕ} (k : Known s n count places) where
  pub prices-there : {table : List ℤ} → SmallPrices n table → SmallPrices (states_of s) table
  prices-there {table} h = subst (λ (m : ℕ). SmallPrices m table) k.states h

-- and the conditions may be asked
module _ {kind : Kind} {s places : List ℕ} {n count q t : ℕ} (k : Known s n count places) (a : Asked kind s n count q t) (l : ℤ) (small : mag l < 2 ^ 31) where
  pub all_asked : AllPriced kind s l
  all_asked = record { stands = a.stands; price = small }

  pub last-asked : {x g : List ℤ} → SmallPrices n x → SmallPrices n g → LastAsked kind s count q t l x g
  last-asked first third =
      record {
        challenger = record { stands = a.stands; below = a.challenger; price = small };
        defender = omega (arith, k.states, a.defender);
        first = prices-there k first;
        third = prices-there k third;
      }

-- the machine reads the price L back from its bits
pub further-small : {kind : Kind} {C : List ℕ} {at : ℕ} {l : ℤ} → IsFurther kind C at l → mag (to_z w64 (of_z w64 l)) < 2 ^ 31
further-small {l = l} h = rw (price-back l h.small) h.small

-- the prices A stand in the record
pub first-inside : (kind : Kind) (n challenger : ℕ) → first_prices kind n ≤ prices_by kind n challenger
unfolding prices_by
first-inside kind n challenger = omega arith

-- the record holds them, and all prices of a challenger that has no move and of one that has
module _ (kind : Kind) (n a at : ℕ) {size first : ℕ} (whole : at + 4 * prices_by kind n a ≤ size) (is : first ≡ first_prices kind n) where
  pub first-whole : at + 4 * first ≤ size
  first-whole = omega (arith, whole, is, first-inside kind n a)

  module _ {b : Bool} (moves : b ≡ has_move kind a) where
    pub stays-whole : b ≡ false → at + 4 * first + 4 * n + 4 * further_prices kind ≤ size
    stays-whole e = omega (arith, whole, is, prices-without-move kind n a (sym moves ∙ e))

    pub moves-whole : b ≡ true → at + 4 * first + 8 * n + 4 * further_prices kind ≤ size
    moves-whole e = omega (arith, whole, is, prices-with-move kind n a (sym moves ∙ e))

-- a table holds them, by the strong rule and by the others
pub strong-held : (kind : Kind) → is_strong kind ≡ true → (C : List ℕ) (at : ℕ) {n : ℕ} {table : List ℤ} → HoldsPrices n (λ v. signed_at C at) table → HoldsPrices n (λ v. signed_at C (at + 4 * index_of_a kind v)) table
unfolding index_of_a
strong-held Plain e C at h = absurd (false-not e)
strong-held Costs e C at h = absurd (false-not e)
strong-held Strong e C at {n} {table} h =
    let here : at ≡ at + 4 * 0 = omega arith in subst (λ (place : ℕ). HoldsPrices n (λ v. signed_at C place) table) here h

pub weak-held : (kind : Kind) → is_strong kind ≡ false → (C : List ℕ) (at : ℕ) {n : ℕ} {table : List ℤ} → HoldsPrices n (λ v. signed_at C (at + 4 * v)) table → HoldsPrices n (λ v. signed_at C (at + 4 * index_of_a kind v)) table
unfolding index_of_a
weak-held Plain w C at h = h
weak-held Costs w C at h = h
weak-held Strong w C at h = absurd (false-not (sym w))

-- a refusal of either test
unless-both : (a b : Bool) (r x : rules.Fault) → unless_true (both a b) r x ≡ unless_true a r (unless_true b r x)
unfolding both if_true
unless-both true b r x = refl
unless-both false b r x = refl

-- the tests after those of the transitions
abbrev rest : (A : Automaton) (side : Side) (R : Pairs) (q t : ℕ) (X Y G : ℕ → ℤ) → rules.Fault
rest A side R q t X Y G = unless_true (all_related A R Y G) (rules.fault 15) (last_fault A side X G q t)

-- the tests of each kind of challenger are document 02's, with costs
module _ (cost : ℕ → ℕ) (A : Automaton) (L : ℤ) (kind : Kind) (weak : is_strong kind ≡ false) (R : Pairs) (q t : ℕ) where
  conditions-internal : (X G : ℕ → ℤ) → A.action q ≡ 0 → conditions_fault cost A L kind R (A.action q) q t X X G ≡ internal_prices_fault A (price_with_cost cost A L) R q t X G
  unfolding conditions_fault internal_prices_fault
  conditions-internal X G internal =
      ap (λ (b : Bool). unless_true b (rules.fault 15) (rest A (price_with_cost cost A L) R q t X X G))
      (ap (λ (a : ℕ). all_fair cost A L kind a t X X) internal ∙ fair-internal cost A L kind weak t X)

  conditions-external : (X Y G : ℕ → ℤ) → (A.action q ≡ 0 → ⊥) → conditions_fault cost A L kind R (A.action q) q t X Y G ≡ external_prices_fault A (price_with_cost cost A L) R q t X Y G
  unfolding conditions_fault external_prices_fault
  conditions-external X Y G external =
      ap (λ (b : Bool). unless_true b (rules.fault 15) (rest A (price_with_cost cost A L) R q t X Y G)) (fair-external cost A L kind weak t (A.action q) X Y external)
      ∙ unless-both _ _ _ _
      ∙ unless-both _ _ _ _

-- those of the strong rule are its own, by the cost 0
conditions-strong : (A : Automaton) (L : ℤ) (R : Pairs) (q t : ℕ) (p : ℕ → ℤ) → conditions_fault free A L Strong R (A.action q) q t (price_a p) (prices_b p) (prices_g A p) ≡ strong_prices_fault A R q t p
unfolding conditions_fault strong_prices_fault
conditions-strong A L R q t p =
    ap (λ (b : Bool). unless_true b (rules.fault 15) (rest A (price_with_cost free A L) R q t (price_a p) (prices_b p) (prices_g A p))) (fair-strong free A L q t (price_a p) (prices_b p))
    ∙ ap (λ (side : Side). unless_true (all_own A q t (price_condition A side (price_a p) (prices_b p))) (rules.fault 15) (rest A side R q t (price_a p) (prices_b p) (prices_g A p)))
    (λ k X r. free_price A L X r k)

-- the tests look at the prices of states alone
record Alike (A : Automaton) (X X' : ℕ → ℤ) : Type 0 where
  pub held : AlikeOnStates A X X'

module _ {A : Automaton} {X X' G G' : ℕ → ℤ} (x : Alike A X X') (g : Alike A G G') (cost : ℕ → ℕ) (L : ℤ) where
  condition-same : SoundAutomaton A → (r : ℕ) → r < A.transitions → cost_condition cost A L X G r ≡ cost_condition cost A L X' G' r
  unfolding price_condition SoundAutomaton
  condition-same sound r less =
      ap₂ le_z (with-cost-same cost A L G G' g.held r) (price-same A X X' x.held r (A.source r) (sound r less).from)

  last-same : (q t : ℕ) → t < A.states → last_cost_fault cost A L X G q t ≡ last_cost_fault cost A L X' G' q t
  unfolding last_fault below
  last-same q t less =
      ap₂ (λ (l r : ℤ). unless_true (lt_z l r) (rules.fault_by 16 t (l -ℤ r)) rules.no_fault)
      (price-same A X X' x.held q t less) (with-cost-same cost A L G G' g.held q)

  related_same : (R : Pairs) → all_related A R X G ≡ all_related A R X' G'
  unfolding all_related
  related_same R =
      all_below_cong A.states _ _ (λ v l. all_below_cong A.states _ _ (λ u m.
      ap₂ (λ (z w : ℤ). if_true (R v u) (le_z z w) true) (g.held u m) (x.held v l)))

module _ {A : Automaton} {X X' Y Y' G G' : ℕ → ℤ} (x : Alike A X X') (y : Alike A Y Y') (g : Alike A G G') (sound : SoundAutomaton A) (cost : ℕ → ℕ) (L : ℤ) (kind : Kind) where
  fair-same : (a t : ℕ) → all_fair cost A L kind a t X Y ≡ all_fair cost A L kind a t X' Y'
  unfolding all_fair fair_to fair_by fair_twice
  fair-same a t = all_below_cong A.transitions _ _ (λ r less. by_condition r less (condition_by kind a t (A.source r) (A.action r)))
    where
      by_condition : (r : ℕ) → r < A.transitions → (c : Condition) → fair_by cost A L c X Y r ≡ fair_by cost A L c X' Y' r
      by_condition r less Across = condition-same x y cost L sound r less
      by_condition r less Within = ap₂ both (condition-same x x cost L sound r less) (condition-same y y cost L sound r less)
      by_condition r less Unasked = refl

  conditions-same : (R : Pairs) (a q t : ℕ) → t < A.states → conditions_fault cost A L kind R a q t X Y G ≡ conditions_fault cost A L kind R a q t X' Y' G'
  unfolding conditions_fault
  conditions-same R a q t less =
      ap₂ (λ (b c : Bool). unless_true b (rules.fault 15) (unless_true c (rules.fault 15) (last_cost_fault cost A L X G q t))) (fair-same a t) (related_same y g cost L R)
      ∙ ap (λ (f : rules.Fault). unless_true (all_fair cost A L kind a t X' Y') (rules.fault 15) (unless_true (all_related A R Y' G') (rules.fault 15) f)) (last-same x g cost L q t less)

-- with the costs of the rule they are the rule's, for the prices of its record: of a rule without costs by the cost 0
module _ (s : List ℕ) (A : Automaton) (R : Pairs) (q t : ℕ) (C : List ℕ) (at : ℕ) where
  -- the prices as they follow each other
  abbrev p : ℕ → ℤ
  p i = signed_at C (at + 4 * i)

  rule-stays : (kind : Kind) {L : ℤ} → L ≡ further_at kind C (at + 4 * (first_prices kind A.states + A.states)) → has_move kind (A.action q) ≡ false → conditions_fault (cost_in kind s) A L kind R (A.action q) q t (λ v. p (index_of_a kind v)) (λ v. p (index_of_a kind v)) (λ v. p (first_prices kind A.states + v)) ≡ (rule_of kind s).prices_fault A R q t p
  unfolding first_prices index_of_a plain_prices_fault cost_prices_fault by_kind price_after
  rule-stays Plain {L} further stays =
      let internal : A.action q ≡ 0 = stays-internal Plain refl _ stays in
      conditions-internal free A L Plain refl R q t _ _ internal ∙ free-internal A L R q t _ _ ∙ same _ internal refl
  rule-stays Costs {L} further stays =
      let internal : A.action q ≡ 0 = stays-internal Costs refl _ stays in
      let two : A.states + A.states ≡ 2 * A.states = omega arith in
      conditions-internal (cost_in Costs s) A L Costs refl R q t _ _ internal
      ∙ ap (λ (z : ℤ). internal_prices_fault A (price_with_cost (cost_in Costs s) A z) R q t p (λ v. p (A.states + v))) (further ∙ ap p two)
      ∙ same _ internal refl
  rule-stays Strong further stays = absurd (false-not (sym (strong-move Strong refl _ ∙ stays)))

  rule-moves : (kind : Kind) {L : ℤ} → L ≡ further_at kind C (at + 4 * (first_prices kind A.states + 2 * A.states)) → has_move kind (A.action q) ≡ true → conditions_fault (cost_in kind s) A L kind R (A.action q) q t (λ v. p (index_of_a kind v)) (λ v. p (first_prices kind A.states + v)) (λ v. p (first_prices kind A.states + A.states + v)) ≡ (rule_of kind s).prices_fault A R q t p
  unfolding first_prices index_of_a plain_prices_fault cost_prices_fault by_kind price_after price_a prices_b prices_g
  rule-moves Plain {L} further moves =
      let external : A.action q ≡ 0 → ⊥ = moves-external Plain refl _ moves in
      let two : A.states + A.states ≡ 2 * A.states = omega arith in
      conditions-external free A L Plain refl R q t _ _ _ external
      ∙ free-external A L R q t _ _ _
      ∙ ap (λ (m : ℕ). external_prices_fault A (price_of_targets A) R q t p (λ v. p (A.states + v)) (λ v. p (m + v))) two
      ∙ not_same _ external refl
  rule-moves Costs {L} further moves =
      let external : A.action q ≡ 0 → ⊥ = moves-external Costs refl _ moves in
      let two : A.states + A.states ≡ 2 * A.states = omega arith in
      let three : A.states + 2 * A.states ≡ 3 * A.states = omega arith in
      conditions-external (cost_in Costs s) A L Costs refl R q t _ _ _ external
      ∙ ap₂ (λ (z : ℤ) (m : ℕ). external_prices_fault A (price_with_cost (cost_in Costs s) A z) R q t p (λ v. p (A.states + v)) (λ v. p (m + v))) (further ∙ ap p three) two
      ∙ not_same _ external refl
  rule-moves Strong {L} further moves = conditions-strong A L R q t p

-- the tests of the prices that the tables hold are those of the prices in the record
module _ {kind : Kind} {s places : List ℕ} {n count q t : ℕ} (k : Known s n count places) (asked : Asked kind s n count q t) (C : List ℕ) (at : ℕ) (R : Pairs) where
  sound : SoundAutomaton (automaton_in s)
  sound = sound-automaton limits (model_at s) k.sound

  alike : {table : List ℤ} {X : ℕ → ℤ} → HoldsPrices n X table → Alike (automaton_in s) (price_in table) X
  alike h = record { held = λ v less. h.held v (omega (arith, known-states k)) }

  -- prices that stand `later` prices after the first
  alike-later : {table : List ℤ} (place later : ℕ) → place ≡ at + 4 * later → HoldsPrices n (λ i. signed_at C (place + 4 * i)) table → Alike (automaton_in s) (price_in table) (λ v. signed_at C (at + 4 * (later + v)))
  alike-later place later e h =
      record {
        held = λ v less.
            let here : place + 4 * v ≡ at + 4 * (later + v) = omega arith in
            (alike h).held v less ∙ ap (signed_at C) here;
      }

  -- L as the machine reads it back from its bits stands `later` prices after the first
  further-is : {place : ℕ} {l : ℤ} → IsFurther kind C place l → (later : ℕ) → place ≡ at + 4 * later → to_z w64 (of_z w64 l) ≡ further_at kind C (at + 4 * later)
  further-is {l = l} h later e = price-back l h.small ∙ h.is ∙ ap (further_at kind C) e

  judged-by : {X X' Y Y' G G' : ℕ → ℤ} (l : ℤ) {a : ℕ} → a ≡ (automaton_in s).action q → Alike (automaton_in s) X X' → Alike (automaton_in s) Y Y' → Alike (automaton_in s) G G' → conditions_fault (cost_in kind s) (automaton_in s) l kind R a q t X Y G ≡ conditions_fault (cost_in kind s) (automaton_in s) l kind R ((automaton_in s).action q) q t X' Y' G'
  judged-by {X} {Y = Y} {G = G} l e x y g =
      ap (λ (b : ℕ). conditions_fault (cost_in kind s) (automaton_in s) l kind R b q t X Y G) e
      ∙ conditions-same x y g sound (cost_in kind s) l kind R ((automaton_in s).action q) q t (omega (arith, asked.defender, known-states k))

  -- the prices behind A
  module _ {first : ℕ} (is : first ≡ first_prices kind n) where
    first-is : first ≡ first_prices kind (automaton_in s).states
    first-is = is ∙ ap (first_prices kind) (sym (known-states k))

    pub judged-stays : {x g : List ℤ} {l : ℤ} {a : ℕ} → a ≡ (automaton_in s).action q → HoldsPrices n (λ v. signed_at C (at + 4 * index_of_a kind v)) x → HoldsPrices n (λ i. signed_at C (at + 4 * first + 4 * i)) g → IsFurther kind C (at + 4 * first + 4 * n) l → has_move kind a ≡ false → conditions_fault (cost_in kind s) (automaton_in s) (to_z w64 (of_z w64 l)) kind R a q t (price_in x) (price_in x) (price_in g) ≡ (rule_of kind s).prices_fault (automaton_in s) R q t (λ i. signed_at C (at + 4 * i))
    judged-stays e x g further stays =
        judged-by _ e (alike x) (alike x) (alike-later _ (first_prices kind (automaton_in s).states) (omega (arith, first-is)) g)
        ∙ rule-stays s (automaton_in s) R q t C at kind
        (further-is further _ (omega (arith, first-is, known-states k)))
        (ap (has_move kind) (sym e) ∙ stays)

    pub judged-moves : {x y g : List ℤ} {l : ℤ} {a : ℕ} → a ≡ (automaton_in s).action q → HoldsPrices n (λ v. signed_at C (at + 4 * index_of_a kind v)) x → HoldsPrices n (λ i. signed_at C (at + 4 * first + 4 * i)) y → HoldsPrices n (λ i. signed_at C (at + 4 * first + 4 * n + 4 * i)) g → IsFurther kind C (at + 4 * first + 8 * n) l → has_move kind a ≡ true → conditions_fault (cost_in kind s) (automaton_in s) (to_z w64 (of_z w64 l)) kind R a q t (price_in x) (price_in y) (price_in g) ≡ (rule_of kind s).prices_fault (automaton_in s) R q t (λ i. signed_at C (at + 4 * i))
    judged-moves e x y g further moves =
        judged-by _ e (alike x)
        (alike-later _ (first_prices kind (automaton_in s).states) (omega (arith, first-is)) y)
        (alike-later _ (first_prices kind (automaton_in s).states + (automaton_in s).states) (omega (arith, first-is, known-states k)) g)
        ∙ rule-moves s (automaton_in s) R q t C at kind
        (further-is further _ (omega (arith, first-is, known-states k)))
        (ap (has_move kind) (sym e) ∙ moves)
