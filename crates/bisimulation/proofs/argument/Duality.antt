-- Weak duality: what is refuted is met for no relation inside the related pairs, by any movement whose layers have prices.
use Prim.Native.Nat.{ℕ, suc, ◌+◌, ◌*◌, ◌<◌}
use Rattle.std.specs.Prelude.{◌≡◌, refl, true, ℤ, ◌≤ℤ◌}
use Rattle.std.proofs.Common.{sym}
use Rattle.std.proofs.Math.Path.{ap}
use Rattle.std.proofs.Math.Bool.{false}
use native.Mathlib.Omega.{arith}
use Rattle.bisimulation.specs.definitions.Choice.{if_less, if_same}
use Rattle.bisimulation.proofs.argument.ChoiceLaws.{false-not}
use Rattle.bisimulation.specs.definitions.Sum.{sum}
use Rattle.bisimulation.proofs.argument.SumLaws.{sum_zero, term_le}
use Rattle.bisimulation.specs.definitions.Automaton.{Automaton, SoundAutomaton}
use Rattle.bisimulation.specs.definitions.StepRule.{Flow, StepRule, Met}
use Rattle.bisimulation.specs.definitions.Prices.{Side, price_at, price_of_targets}
use Rattle.bisimulation.specs.definitions.Pairs.{Pairs}
use Rattle.bisimulation.specs.definitions.Refutation.{RelatedCondition, LastCondition, RefutesInternal, RefutesExternal, PlainRefutes}
use Rattle.bisimulation.specs.definitions.Rule.{PriceRule, WeakDuality}
use Rattle.bisimulation.proofs.argument.Once.{none}
use Rattle.bisimulation.proofs.argument.Value.{value}
use Rattle.bisimulation.proofs.argument.ValueLaws.{value_same}
use Rattle.bisimulation.proofs.argument.Moves.{Layer, Movement, internal_movement, external_movement, start, MetBy, Besides, ByMovement}
use Rattle.bisimulation.proofs.argument.PlainMoves.{either_movement, three_layers, plain_by}
use Rattle.bisimulation.proofs.argument.Layers.{brought, LayerPriced, moves_priced, coupled, target_contradiction}
use Rattle.bisimulation.proofs.argument.Raised.{Raised, raise, RaisedBy, magnitudes}
use Rattle.bisimulation.proofs.argument.RaisedLaws.{raised_le, raised_lt, raised_more, magnitudes_enough, price_at_raised, price_of_targets_raised, related_raised}

-- what a side adds to the sum of p(v)A(v): for prices that are raised by c it is a on this side, b on the other
pub record Adds (A : Automaton) (side : Side) (a b : ℕ → ℕ) : Type 0 where
  pub raised : {c : ℕ} {Y : ℕ → ℤ} → RaisedBy A.states c Y → (r : ℕ) → r < A.transitions → Raised (A.denominator r * c + b r) (value A.states (A.weight r) (λ v. raise c (Y v)) + a r) (side Y r)

-- the amounts a of the transitions that the n layers of a flow use are for D what that of the challenger q is for d0
abbrev pub Paid : Automaton → (n q : ℕ) → Flow → (a : ℕ → ℕ) → Type 0
Paid A n q f a = A.denominator q * brought A f.k a n ≡ f.D * a q

-- the condition of each transition that a layer may use, from the prices X of its source to the prices Y of its targets
abbrev LayerCondition : Automaton → Side → Layer → (X Y : ℕ → ℤ) → Type 0
LayerCondition A side l X Y = (r : ℕ) → r < A.transitions → l.allows (A.source r) (A.action r) → side Y r ≤ℤ price_at A X r (A.source r)

-- the prices of a refutation against a movement: before each layer and after the last, and G
pub record RefutesBy (A : Automaton) (m : Movement) (side : Side) (R : Pairs) (q t : ℕ) : Type 0 where
  pub prices : ℕ → ℕ → ℤ
  pub G : ℕ → ℤ
  pub layers : (i : ℕ) → i < m.count → LayerCondition A side (m.layer i) (prices i) (prices (suc i))
  pub kept : (i : ℕ) → i < m.count → (m.layer i).step ≡ false → prices i ≡ prices (suc i)
  pub related : RelatedCondition A R (prices m.count) G
  pub last : LastCondition A side q t (prices 0) G

module _ (A : Automaton) (sound : SoundAutomaton A) (m : Movement) {side : Side} {a b : ℕ → ℕ} (adds : Adds A side a b) (R : Pairs) (q t : ℕ) (h : RefutesBy A m side R q t) where
  -- raised by so much, no price is negative
  abbrev enough : ℕ
  enough = sum (suc m.count) (λ i. magnitudes A.states (h.prices i)) + magnitudes A.states h.G

  prices_raised : (i : ℕ) → i < suc m.count → RaisedBy A.states enough (h.prices i)
  prices_raised i l = record { enough = λ v j. omega (arith, magnitudes_enough A.states (h.prices i) v j, term_le (suc m.count) (λ x. magnitudes A.states (h.prices x)) i l) }

  targets_raised : RaisedBy A.states enough h.G
  targets_raised = record { enough = λ v j. omega (arith, magnitudes_enough A.states h.G v j) }

  contradiction : (More : Flow → Type 0) (W : ℕ → ℕ → Type 0) → ((v u : ℕ) → W v u → R v u ≡ true) → q < A.transitions → t < A.states → (o : MetBy A m More W q t) → Paid A m.count q o.flow a → Paid A m.count q o.flow b → ⊥
  unfolding SoundAutomaton start
  contradiction More W inside i j o paid owed =
      target_contradiction A q (raise enough (h.prices 0 t)) (a q) (b q) _ _ _ o.at_least_one o.couples paid owed
      (omega (
        arith,
        moves_priced A sound o.moves priced,
        value_same A.states t o.flow.D (λ v. raise enough (h.prices 0 v)) j,
        coupled A o.flow.w (λ v. raise enough (h.prices m.count v)) (λ u. raise enough (h.G u)) (λ v u k l z. related_raised A enough (prices_raised m.count (omega arith)) targets_raised h.related v u k l (inside v u (o.couples.related v u k l z))),
      ))
      (raised_lt (raised_more (b q) (price_at_raised A enough (h.prices 0) (prices_raised 0 (omega arith)) q t j)) (adds.raised targets_raised q i) h.last.holds)
    where
      priced : (i : ℕ) → i < m.count → LayerPriced A (m.layer i) a b (λ v. raise enough (h.prices i v)) (λ v. raise enough (h.prices (suc i) v))
      priced i l =
          record {
            feasible = λ r k e. raised_le (adds.raised (prices_raised (suc i) (omega arith)) r k) (raised_more (b r) (price_at_raised A enough (h.prices i) (prices_raised i (omega arith)) r (A.source r) (sound r k).from)) (h.layers i l r k e);
            kept = λ s v k. ap (λ (X : ℕ → ℤ). raise enough (X v)) (h.kept i l s);
          }

-- a refutation against a movement, with what its side adds: by what more the rule asks of a flow, it pays for that
pub record Refuted (A : Automaton) (m : Movement) (More : Flow → Type 0) (R : Pairs) (q t : ℕ) : Type 0 where
  pub side : Side
  pub a : ℕ → ℕ
  pub b : ℕ → ℕ
  pub adds : Adds A side a b
  pub refutes : RefutesBy A m side R q t
  pub paid : (f : Flow) → More f → Paid A m.count q f a × Paid A m.count q f b

pub duality_by : {met : StepRule} {movement : (a t : ℕ) → Movement} {More : Besides} {refutes : PriceRule} → ByMovement met movement More → ((A : Automaton) → SoundAutomaton A → (R : Pairs) (q t : ℕ) (p : ℕ → ℤ) → refutes A R q t p → Refuted A (movement (A.action q) t) (More A q t) R q t) → WeakDuality met refutes
duality_by by refuted A sound R q t p i j h W inside m =
    let x = refuted A sound R q t p h in
    let o = by.to A W q t m in
    let paid = x.paid o.flow o.more in
    contradiction A sound _ x.adds R q t x.refutes _ W inside i j o paid.0 paid.1

-- the conditions of each kind of challenger, whatever the side of the targets
module _ {A : Automaton} {side : Side} {R : Pairs} {q t : ℕ} where
  pub internal_refutes : {X G : ℕ → ℤ} → RefutesInternal A side R q t X G → RefutesBy A internal_movement side R q t
  internal_refutes {X} {G} h = record { prices = λ i. X; G = G; layers = λ i l. h.internal.holds; kept = λ i l s. refl; related = h.related; last = h.last }

  pub external_refutes : {X Y G : ℕ → ℤ} → RefutesExternal A side R q t X Y G → RefutesBy A (external_movement (A.action q)) side R q t
  unfolding if_less if_same
  external_refutes {X} {Y} {G} h =
      record {
        prices = λ i. if_less i 2 X Y;
        G = G;
        layers = three_layers (λ i. LayerCondition A side ((external_movement (A.action q)).layer i) (if_less i 2 X Y) (if_less (suc i) 2 X Y)) h.before.holds h.move.holds h.after.holds;
        kept = three_layers (λ i. ((external_movement (A.action q)).layer i).step ≡ false → if_less i 2 X Y ≡ if_less (suc i) 2 X Y) (λ s. refl) (λ s. absurd (false-not (sym s))) (λ s. refl);
        related = h.related;
        last = h.last;
      }

-- where nothing is added, no flow has to pay
none_paid : (A : Automaton) (n q : ℕ) (f : Flow) → Paid A n q f none
unfolding brought none
none_paid A n q f =
    omega (arith, ap (λ (z : ℕ). A.denominator q * z) (sum_zero n (λ i. sum A.transitions (λ r. f.k i r * 0)) (λ i l. sum_zero A.transitions _ (λ r j. omega arith))))

pub nothing_added : {A : Automaton} → SoundAutomaton A → {m : Movement} {More : Flow → Type 0} {R : Pairs} {q t : ℕ} → RefutesBy A m (price_of_targets A) R q t → Refuted A m More R q t
unfolding SoundAutomaton none
nothing_added {A} sound {q = q} h =
    record {
      side = price_of_targets A;
      a = none;
      b = none;
      adds = record { raised = λ {c} {Y} y r i. raised_more 0 (price_of_targets_raised A c Y y r (sound r i)) };
      refutes = h;
      paid = λ f more. (none_paid A _ q f, none_paid A _ q f);
    }

-- document 01's rule
pub plain_duality : WeakDuality Met PlainRefutes
plain_duality =
    duality_by plain_by
    (λ A sound R q t p h. nothing_added sound (either_movement (λ m. RefutesBy A m (price_of_targets A) R q t) (λ e. internal_refutes (h.internal e)) (λ n. external_refutes (h.external n))))
