-- Transitions of two automata done at once by a third: what a layer of the one is beside a layer of the other. Which of them C has is a
-- parameter.
use Prim.Native.Nat.{ℕ, suc, ◌+◌, ◌*◌, ◌<◌}
use Rattle.std.specs.Prelude.{◌≡◌, refl, ◌⊎◌, true}
use Rattle.std.proofs.Math.Path.{sym, ap₂}
use Rattle.std.proofs.Common.{◌∙◌, ap, subst, inl, inr, mul_comm, arith}
use Rattle.std.proofs.Math.Decide.{dec_lt}
use Rattle.bisimulation.specs.definitions.Choice.{if_same}
use Rattle.bisimulation.proofs.argument.ChoiceLaws.{times_same, turned}
use Rattle.bisimulation.proofs.argument.SumLaws.{sum_cong, sum_same}
use Rattle.bisimulation.specs.definitions.Automaton.{Automaton}
use Rattle.bisimulation.specs.definitions.StepRule.{arriving, leaving}
use Rattle.bisimulation.specs.definitions.Composed.{state_at}
use Rattle.bisimulation.proofs.argument.Grid.{left_of, right_of, spread}
use Rattle.bisimulation.proofs.argument.GridLaws.{left_below, right_below, by_grid, grid_same, spread_at, value_spread}
use Rattle.bisimulation.proofs.argument.Pushed.{IsPushed, pushed}
use Rattle.bisimulation.proofs.argument.LayerValues.{denominator_from, arriving_as_value, leaving_as_value}
use Rattle.bisimulation.proofs.argument.Once.{none}
use Rattle.bisimulation.proofs.argument.Moves.{Layer, Movement, start, Through, Moves}
use Rattle.bisimulation.proofs.argument.MovesLaws.{used_times}

-- the transition c of C is i of L and j of R at once, with i's action
pub record AtOnce (L R C : Automaton) (i j c : ℕ) : Type 0 where
  pub source : C.source c ≡ state_at R.states (L.source i) (R.source j)
  pub action : C.action c ≡ L.action i
  pub denominator : C.denominator c ≡ L.denominator i * R.denominator j
  pub weight : (v x : ℕ) → v < L.states → x < R.states → C.weight c (state_at R.states v x) ≡ L.weight i v * R.weight j x

-- standing still: each of n states has one transition, to itself with 1/1
abbrev pub idle : ℕ → Automaton
idle n = record { states = n; actions = 0; transitions = n; label = λ e. 0; source = λ e. e; action = λ e. 0; denominator = λ e. 1; weight = λ e. start e 1 }

pub arriving_idle : (n : ℕ) (z : ℕ → ℕ) (x : ℕ) → x < n → arriving (idle n) z x ≡ z x
unfolding arriving start
arriving_idle n z x l = sum_cong n _ _ (λ e k. mul_comm (z e) _ ∙ times_same x e 1 (z e) ∙ turned x e (1 * z e) 0) ∙ sum_same n x (λ e. 1 * z e) l ∙ omega arith

pub leaving_idle : (n : ℕ) (z : ℕ → ℕ) (x : ℕ) → x < n → leaving (idle n) z x ≡ z x
unfolding leaving
leaving_idle n z x l = sum_same n x (λ e. z e * 1) l ∙ omega arith

module _ (L R C : Automaton) where
  abbrev n : ℕ
  n = R.states

  abbrev N : ℕ
  N = R.transitions

  -- the pair g of transitions is done at once by c
  PairAtOnce : (g c : ℕ) → Type 0
  PairAtOnce g c = AtOnce L R C (left_of N g) (right_of N g) c

  module _ (sources : (j : ℕ) → j < R.transitions → R.source j < R.states) (k b : ℕ → ℕ) {h : ℕ → ℕ} (p : IsPushed PairAtOnce (L.transitions * N) C.transitions (spread N k b) h) where
    -- what arrives, and what leaves, is the product of what does so in the two
    arriving_at_once : (v x : ℕ) → v < L.states → x < n → arriving C h (state_at n v x) ≡ arriving L k v * arriving R b x
    unfolding PairAtOnce spread
    arriving_at_once v x i j =
        arriving_as_value C h (state_at n v x)
        ∙ p.values (λ c. C.weight c (state_at n v x)) (spread N (λ q. L.weight q v) (λ r. R.weight r x)) (λ g c l o. o.weight v x i j)
        ∙ value_spread N L.transitions k b (λ q. L.weight q v) (λ r. R.weight r x)
        ∙ sym (ap₂ ◌*◌ (arriving_as_value L k v) (arriving_as_value R b x))

    leaving_at_once : (v x : ℕ) → x < n → leaving C h (state_at n v x) ≡ leaving L k v * leaving R b x
    unfolding PairAtOnce spread denominator_from
    leaving_at_once v x j =
        leaving_as_value C h (state_at n v x)
        ∙ p.values (denominator_from C (state_at n v x)) (spread N (denominator_from L v) (denominator_from R x)) from
        ∙ value_spread N L.transitions k b (denominator_from L v) (denominator_from R x)
        ∙ sym (ap₂ ◌*◌ (leaving_as_value L k v) (leaving_as_value R b x))
      where
        from : (g c : ℕ) → g < L.transitions * N → PairAtOnce g c → denominator_from C (state_at n v x) c ≡ spread N (denominator_from L v) (denominator_from R x) g
        from g c l o =
            ap₂ (λ (s d : ℕ). if_same s (state_at n v x) d 0) o.source o.denominator
            ∙ grid_same n _ v _ x (L.denominator (left_of N g)) (R.denominator (right_of N g)) (sources _ (right_below N L.transitions g l)) j

  -- a layer of L beside b of R, that takes all of z to z': L's layer is a step too, or z' is z
  module _ (states : C.states ≡ L.states * R.states) (sources : (j : ℕ) → j < R.transitions → R.source j < R.states) {l : Layer} {k x y : ℕ → ℕ} (any : (s v a : ℕ) → l.allows s a → l.allows v a) (t : Through L l k x y) where
    pub through_at_once : (b z z' : ℕ → ℕ) → ((i j : ℕ) → i < L.transitions → j < R.transitions → l.allows (L.source i) (L.action i) → 0 < b j → (c : ℕ) × (c < C.transitions) × AtOnce L R C i j c) → ((e : ℕ) → e < R.states → leaving R b e ≡ z e) → ((e : ℕ) → e < R.states → arriving R b e ≡ z' e) → (l.step ≡ true) ⊎ ((e : ℕ) → e < R.states → z e ≡ z' e) → (h : ℕ → ℕ) × Through C l h (spread R.states x z) (spread R.states y z')
    unfolding spread PairAtOnce
    through_at_once b z z' has leaves arrives fits = (h.0, record { uses = uses; balance = balance; all = all })
      where
        allowed : (g : ℕ) → g < L.transitions * N → 0 < spread N k b g → l.allows (L.source (left_of N g)) (L.action (left_of N g))
        allowed g i u = t.uses (left_of N g) (left_below N L.transitions g i) (used_times (k (left_of N g)) (b (right_of N g)) u)

        h : (h : ℕ → ℕ) × IsPushed PairAtOnce (L.transitions * N) C.transitions (spread N k b) h
        h =
            pushed PairAtOnce C.transitions (spread N k b) (L.transitions * N)
            (λ g i u. has (left_of N g) (right_of N g) (left_below N L.transitions g i) (right_below N L.transitions g i) (allowed g i u) (used_times (b (right_of N g)) (k (left_of N g)) (omega arith)))

        uses : (c : ℕ) → c < C.transitions → 0 < h.0 c → l.allows (C.source c) (C.action c)
        uses c i u =
            let o = h.1.used c u in
            any _ _ _ (subst (l.allows _) (sym o.3.action) (allowed o.0 o.1 o.2))

        leaving-at : (v e : ℕ) → e < n → leaving C h.0 (state_at n v e) ≡ leaving L k v * z e
        leaving-at v e j = leaving_at_once sources k b h.1 v e j ∙ ap (λ (d : ℕ). leaving L k v * d) (leaves e j)

        arriving-at : (v e : ℕ) → v < L.states → e < n → arriving C h.0 (state_at n v e) ≡ arriving L k v * z' e
        arriving-at v e i j = arriving_at_once sources k b h.1 v e i j ∙ ap (λ (d : ℕ). arriving L k v * d) (arrives e j)

        Balance : ℕ → Type 0
        Balance v = spread n x z v + arriving C h.0 v ≡ leaving C h.0 v + spread n y z' v

        -- x z + arriving z' is leaving z + y z'
        balanced : (v e : ℕ) → v < L.states → e < n → (l.step ≡ true) ⊎ ((e : ℕ) → e < n → z e ≡ z' e) → x v * z e + arriving L k v * z' e ≡ leaving L k v * z e + y v * z' e
        balanced v e i j (inl s) =
            let f : arriving L k v ≡ y v = omega (arith, t.all s v i, t.balance v i) in
            ap₂ (λ (c d : ℕ). c * z e + d * z' e) (sym (t.all s v i)) f
        balanced v e i j (inr q) =
            omega (arith, ap (λ (d : ℕ). x v * d) (q e j), ap (λ (d : ℕ). leaving L k v * d) (q e j), ap (λ (d : ℕ). d * z' e) (t.balance v i))

        balance : (v : ℕ) → v < C.states → Balance v
        balance v i =
            by_grid n L.states Balance
            (λ s e i j. omega (arith, spread_at n x z s e j, spread_at n y z' s e j, arriving-at s e i j, leaving-at s e j, balanced s e i j fits)) v (omega (arith, states))

        all : l.step ≡ true → (v : ℕ) → v < C.states → leaving C h.0 v ≡ spread n x z v
        all q v i =
            by_grid n L.states (λ v. leaving C h.0 v ≡ spread n x z v)
            (λ s e i j. leaving-at s e j ∙ ap (λ (d : ℕ). d * z e) (t.all q s i) ∙ sym (spread_at n x z s e j)) v (omega (arith, states))

-- layers that exist are those of a movement
pub layers_move : (C : Automaton) (m : Movement) (between : ℕ → ℕ → ℕ) → ((i : ℕ) → i < m.count → (h : ℕ → ℕ) × Through C (m.layer i) h (between i) (between (suc i))) → (k : ℕ → ℕ → ℕ) × Moves C m k (between 0) (between m.count)
layers_move C m between has =
    (λ i. at i (dec_lt i m.count), record { between = between; starts = λ v l. refl; through = λ i l. through i l (dec_lt i m.count); ends = λ v l. refl })
  where
    at : (i : ℕ) → Dec (i < m.count) → ℕ → ℕ
    at i (yes l) = (has i l).0
    at i (no n) = none

    through : (i : ℕ) → i < m.count → (d : Dec (i < m.count)) → Through C (m.layer i) (at i d) (between i) (between (suc i))
    through i l (yes p) = (has i p).1
    through i l (no n) = absurd (n l)
