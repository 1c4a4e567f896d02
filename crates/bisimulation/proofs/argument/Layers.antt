-- Weak duality with prices that are natural numbers: for one layer, for the layers of a movement, and for w, which is coupled with the
-- prices of its targets.
use Prim.Native.Nat.{ℕ, zero, suc, ◌+◌, ◌*◌, ◌≤◌, ◌<◌}
use Rattle.std.specs.Prelude.{◌≡◌, refl, Bool, true, false, ◌⊎◌}
use Rattle.std.proofs.Math.Path.{sym}
use Rattle.std.proofs.Common.{◌∙◌, ap, inl, inr, le_refl, eq-zero-or-pos}
use Rattle.std.proofs.Math.Nat.{mul-le-mul_left}
use native.Mathlib.Omega.{arith}
use Rattle.bisimulation.specs.definitions.Choice.{if_same}
use Rattle.bisimulation.specs.definitions.Sum.{sum}
use Rattle.bisimulation.proofs.argument.SumLaws.{sum_cong, sum_mono, sum_add, sum_times_right}
use Rattle.bisimulation.specs.definitions.Automaton.{Automaton, SoundAutomaton}
use Rattle.bisimulation.specs.definitions.StepRule.{arriving, leaving, over_targets, over_sources}
use Rattle.bisimulation.proofs.argument.Value.{value}
use Rattle.bisimulation.proofs.argument.ValueLaws.{value_cong, value_prices, value_equation, value_times, value_sum, value_same_turned}
use Rattle.bisimulation.proofs.argument.Moves.{Layer, Movement, Through, Moves, Couples}

-- a factor that matters only where it is not 0
used_le : (k a b : ℕ) → (0 < k → a ≤ b) → k * a ≤ k * b
used_le k a b h = go (eq-zero-or-pos k)
  where
    go : (k ≡ 0) ⊎ (0 < k) → k * a ≤ k * b
    go (inl e) = omega (arith, ap (λ (z : ℕ). z * a) e)
    go (inr l) = mul-le-mul_left k (h l)

module _ (A : Automaton) where
  -- what leaves, and what arrives, transition by transition
  leaving_value : SoundAutomaton A → (k X : ℕ → ℕ) → value A.states (leaving A k) X ≡ sum A.transitions (λ r. k r * (A.denominator r * X (A.source r)))
  unfolding leaving SoundAutomaton
  leaving_value sound k X =
      value_sum A.states A.transitions (λ r v. if_same (A.source r) v (k r * A.denominator r) 0) X
      ∙ sum_cong A.transitions _ _ (λ r l. omega (arith, value_same_turned A.states (A.source r) (k r * A.denominator r) X (sound r l).from))

  arriving_value : (k Y : ℕ → ℕ) → value A.states (arriving A k) Y ≡ sum A.transitions (λ r. k r * value A.states (A.weight r) Y)
  unfolding arriving
  arriving_value k Y =
      value_sum A.states A.transitions (λ r v. k r * A.weight r v) Y
      ∙ sum_cong A.transitions _ _ (λ r l. value_times A.states (k r) (A.weight r) Y)

  -- one layer: where each used transition is feasible up to what is added to its two sides, so are what arrives and what leaves
  layer_added : SoundAutomaton A → (k X Y a b : ℕ → ℕ) → ((r : ℕ) → r < A.transitions → 0 < k r → value A.states (A.weight r) Y + a r ≤ A.denominator r * X (A.source r) + b r) → value A.states (arriving A k) Y + sum A.transitions (λ r. k r * a r) ≤ value A.states (leaving A k) X + sum A.transitions (λ r. k r * b r)
  layer_added sound k X Y a b feasible =
      omega (
        arith,
        arriving_value k Y,
        leaving_value sound k X,
        sum_add A.transitions (λ r. k r * value A.states (A.weight r) Y) (λ r. k r * a r),
        sum_add A.transitions (λ r. k r * (A.denominator r * X (A.source r))) (λ r. k r * b r),
        sum_mono A.transitions (λ r. k r * value A.states (A.weight r) Y + k r * a r) (λ r. k r * (A.denominator r * X (A.source r)) + k r * b r)
            (λ r l. omega (arith, used_le (k r) _ _ (feasible r l))),
      )

  -- the amounts a of the transitions, for k of the first n layers
  unfoldable pub brought : (k : ℕ → ℕ → ℕ) (a : ℕ → ℕ) → ℕ → ℕ
  brought k a n = sum n (λ i. sum A.transitions (λ r. k i r * a r))

  -- from the prices X before a layer to the prices Y after it: 'd times A(source) is at least the sum of p(v)A(v)' for each transition that
  -- it may use, up to what is added to the two sides; a layer that is no step keeps the prices
  pub record LayerPriced (l : Layer) (a b X Y : ℕ → ℕ) : Type 0 where
    pub feasible : (r : ℕ) → r < A.transitions → l.allows (A.source r) (A.action r) → value A.states (A.weight r) Y + a r ≤ A.denominator r * X (A.source r) + b r
    pub kept : l.step ≡ false → (v : ℕ) → v < A.states → X v ≡ Y v

  -- then the value of the amounts after the layer is at most that before it
  through_priced : SoundAutomaton A → {l : Layer} {k x y a b X Y : ℕ → ℕ} → Through A l k x y → LayerPriced l a b X Y → value A.states y Y + sum A.transitions (λ r. k r * a r) ≤ value A.states x X + sum A.transitions (λ r. k r * b r)
  through_priced sound {l} {k} {x} {y} {a} {b} {X} {Y} t p = go l.step refl
    where
      go : (s : Bool) → l.step ≡ s → value A.states y Y + sum A.transitions (λ r. k r * a r) ≤ value A.states x X + sum A.transitions (λ r. k r * b r)
      go true s =
          omega (
            arith,
            layer_added sound k X Y a b (λ r i u. p.feasible r i (t.uses r i u)),
            value_cong A.states (leaving A k) x X (t.all s),
            value_cong A.states (arriving A k) y Y (λ v i. omega (arith, t.balance v i, t.all s v i)),
          )
      go false s =
          omega (
            arith,
            layer_added sound k X Y a b (λ r i u. p.feasible r i (t.uses r i u)),
            value_equation A.states x (arriving A k) (leaving A k) y Y t.balance,
            value_prices A.states x X Y (p.kept s),
            value_prices A.states (leaving A k) X Y (p.kept s),
          )

  -- all layers
  module _ (sound : SoundAutomaton A) {m : Movement} {k : ℕ → ℕ → ℕ} {x y : ℕ → ℕ} (o : Moves A m k x y) {a b : ℕ → ℕ} {P : ℕ → ℕ → ℕ} (priced : (i : ℕ) → i < m.count → LayerPriced (m.layer i) a b (P i) (P (suc i))) where
    up_to : (i : ℕ) → i ≤ m.count → value A.states (o.between i) (P i) + brought k a i ≤ value A.states (o.between 0) (P 0) + brought k b i
    unfolding brought sum
    up_to zero l = omega arith
    up_to (suc i) l = omega (arith, up_to i (omega arith), through_priced sound (o.through i (omega arith)) (priced i (omega arith)))

    pub moves_priced : value A.states y (P m.count) + brought k a m.count ≤ value A.states x (P 0) + brought k b m.count
    moves_priced = omega (arith, up_to m.count (le_refl _), value_cong A.states _ x (P 0) o.starts, value_cong A.states _ y (P m.count) o.ends)

  -- w coupled with the prices: where G(u) is at most Y(v) for each used w(v,u), the value of what w brings is at most the value of what it takes
  pub coupled : (w : ℕ → ℕ → ℕ) (Y G : ℕ → ℕ) → ((v u : ℕ) → v < A.states → u < A.states → 0 < w v u → G u ≤ Y v) → value A.states (over_sources A w) G ≤ value A.states (over_targets A w) Y
  unfolding over_sources over_targets value
  coupled w Y G h =
      omega (
        arith,
        value_sum A.states A.states w G,
        sum_mono A.states (λ v. value A.states (w v) G) (λ v. over_targets A w v * Y v) (λ v l. row v l),
      )
    where
      row : (v : ℕ) → v < A.states → value A.states (w v) G ≤ over_targets A w v * Y v
      row v l = omega (arith, sum_mono A.states (λ u. w v u * G u) (λ u. w v u * Y v) (λ u k. used_le (w v u) (G u) (Y v) (h v u l k)), sum_times_right A.states (Y v) (w v))

  -- the equations at the targets against 'd0 times A(t) is below the sum of p0(u)G(u)', with a and b added to its sides: the value of what
  -- w brings cannot be at most D times A(t), with x and y added, if these are for D what a and b are for d0
  pub target_contradiction : {W : ℕ → ℕ → Type 0} {w : ℕ → ℕ → ℕ} {D : ℕ} (q X a b x y : ℕ) (G : ℕ → ℕ) → 1 ≤ D → Couples W A.states A.states (A.denominator q) D (A.weight q) w → A.denominator q * x ≡ D * a → A.denominator q * y ≡ D * b → value A.states (over_sources A w) G + x ≤ D * X + y → A.denominator q * X + b < value A.states (A.weight q) G + a → ⊥
  unfolding over_sources
  target_contradiction {w = w} {D} q X a b x y G one c paid owed at_most last =
      omega (arith, targets, paid, owed, mul-le-mul_left (A.denominator q) at_most, mul-le-mul_left D last)
    where
      targets : A.denominator q * value A.states (over_sources A w) G ≡ D * value A.states (A.weight q) G
      targets =
          sym (value_times A.states (A.denominator q) (over_sources A w) G)
          ∙ value_cong A.states _ (λ u. D * A.weight q u) G (λ u l. omega (arith, c.target u l))
          ∙ value_times A.states D (A.weight q) G
