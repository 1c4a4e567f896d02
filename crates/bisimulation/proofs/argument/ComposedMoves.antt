-- Parallel composition: what a flow of the left automaton is in both, while the right one stands still or takes its part in a shared action.
use Prim.Native.Nat.{ℕ, suc, ◌*◌, ◌≤◌, ◌<◌}
use Rattle.std.specs.Prelude.{◌≡◌, true}
use Rattle.std.proofs.Math.Path.{refl, sym, ap, subst}
use Rattle.std.proofs.Common.{◌∙◌, inl, inr, one-mul, arith}
use Rattle.std.proofs.Math.Nat.{mul_comm}
use Rattle.bisimulation.specs.definitions.Choice.{if_less, if_same}
use Rattle.bisimulation.proofs.argument.ChoiceLaws.{turned, times_same}
use Rattle.bisimulation.specs.definitions.Sum.{sum}
use Rattle.bisimulation.proofs.argument.Once.{once, once_used, arriving_once, leaving_once}
use Rattle.bisimulation.specs.definitions.Automaton.{Automaton, SoundAutomaton}
use Rattle.bisimulation.specs.definitions.StepRule.{over_targets}
use Rattle.bisimulation.specs.definitions.Composed.{state_at, left_alone, together, Shared, move_source, move_action, move_denominator, move_weight, IsMove, Does, IsComposed, LinkedBeside}
use Rattle.bisimulation.proofs.argument.Grid.{left_of, right_of, spread, alongside}
use Rattle.bisimulation.proofs.argument.GridLaws.{pair_of, left_below, right_below, by_grid, grid_same, spread_at, spread_cong, alongside_used, alongside_targets, alongside_sources}
use Rattle.bisimulation.proofs.argument.Moves.{Layer, Movement, external_movement, plain_movement, start, Through, Moves, Relates, MetBy, Nothing, OfAnySource}
use Rattle.bisimulation.proofs.argument.MovesLaws.{moves_cong}
use Rattle.bisimulation.proofs.argument.PlainMoves.{either_movement, external_of, three_layers}
use Rattle.bisimulation.proofs.argument.AtOnce.{AtOnce, idle, arriving_idle, leaving_idle, through_at_once, layers_move}

module _ (A B C : Automaton) (composed : IsComposed A B C) where
  abbrev n : ℕ
  n = B.states

  -- a move is a left transition and what the right one does meanwhile, at once
  pub alone_at_once : (q e c : ℕ) → Does A B C c (left_alone q e) → AtOnce A (idle B.states) C q e c
  unfolding move_source move_action move_denominator move_weight start
  alone_at_once q e c d =
      record {
        source = d.source;
        action = d.action;
        denominator = omega (arith, d.denominator);
        weight = λ v x i j.
            d.weight v x i j ∙ ap (λ (z : ℕ). if_same x e z 0) (sym (one-mul _)) ∙ sym (times_same x e 1 (A.weight q v)) ∙ mul_comm _ (A.weight q v);
      }

  pub together_at_once : (q r c : ℕ) → Does A B C c (together q r) → AtOnce A B C q r c
  unfolding move_source move_action move_denominator move_weight
  together_at_once q r c d = record { source = d.source; action = d.action; denominator = d.denominator; weight = d.weight }

  -- a layer of transitions that are not shared, while the right one stands still, with z at its states
  module _ {l : Layer} {k x y : ℕ → ℕ} (any : (s v a : ℕ) → l.allows s a → l.allows v a) (t : Through A l k x y) where
    through_alone : ((s b : ℕ) → l.allows s b → Shared A B b → ⊥) → (z : ℕ → ℕ) → (h : ℕ → ℕ) × Through C l h (spread B.states x z) (spread B.states y z)
    unfolding IsMove
    through_alone alone z =
        through_at_once A (idle n) C composed.states (λ j i. i) any t z z z (λ q e i j h u. has q e i j h) (leaving_idle n z) (arriving_idle n z) (inr (λ e j. refl))
      where
        has : (q e : ℕ) → q < A.transitions → e < n → l.allows (A.source q) (A.action q) → (c : ℕ) × (c < C.transitions) × AtOnce A (idle n) C q e c
        has q e i j h =
            let m = composed.all (left_alone q e) (record { transition = i; state = j; alone = alone _ _ h }) in
            (m.0, m.1, alone_at_once q e m.0 m.2)

    -- a step of transitions with a shared action, each with the right one's r
    pub through_together : SoundAutomaton B → (r : ℕ) → r < B.transitions → Shared A B (B.action r) → l.step ≡ true → ((s b : ℕ) → l.allows s b → b ≡ B.action r) → (h : ℕ → ℕ) × Through C l h (spread B.states x (start (B.source r) (B.denominator r))) (spread B.states y (B.weight r))
    unfolding IsMove SoundAutomaton start
    through_together sound r below shared step action =
        through_at_once A B C composed.states (λ j i. (sound j i).from) any t (once r) _ _ has
        (λ e j. leaving_once B r below e ∙ turned (B.source r) e (B.denominator r) 0) (λ e j. arriving_once B r below e) (inl step)
      where
        has : (q j : ℕ) → q < A.transitions → j < B.transitions → l.allows (A.source q) (A.action q) → 0 < once r j → (c : ℕ) × (c < C.transitions) × AtOnce A B C q j c
        has q j i o h u =
            let f = action _ _ h in
            let m = composed.all (together q j) (record { left = i; right = o; shared = subst (Shared A B) (sym f) shared; partner = f ∙ ap B.action (sym (once_used r j u)) }) in
            (m.0, m.1, together_at_once q j m.0 m.2)

  spread_states : (z : ℕ → ℕ) {x y : ℕ → ℕ} → ((v : ℕ) → v < A.states → x v ≡ y v) → (v : ℕ) → v < C.states → spread B.states x z v ≡ spread B.states y z v
  spread_states z f v l = spread_cong n A.states z f v (omega (arith, composed.states))

  -- all layers of a challenger that is not shared
  pub moves_alone : {m : Movement} {k : ℕ → ℕ → ℕ} {x y : ℕ → ℕ} → OfAnySource m → ((i : ℕ) → i < m.count → (s b : ℕ) → (m.layer i).allows s b → Shared A B b → ⊥) → Moves A m k x y → (z : ℕ → ℕ) → (h : ℕ → ℕ → ℕ) × Moves C m h (spread B.states x z) (spread B.states y z)
  moves_alone {m} any alone o z =
      let p = layers_move C m (λ i. spread n (o.between i) z) (λ i l. through_alone (any i l) (o.through i l) (alone i l) z) in
      (p.0, moves_cong (spread_states z o.starts) (spread_states z o.ends) refl p.1)

  -- and of one that is shared: the right one stands still, does r, stands still
  module _ (sound : SoundAutomaton B) (r : ℕ) (l : r < B.transitions) (shared : Shared A B (B.action r)) where
    abbrev a : ℕ
    a = B.action r

    abbrev Composes : (x y : ℕ → ℕ) → Movement → Type 0
    Composes x y m = (h : ℕ → ℕ → ℕ) × Moves C m h (spread n x (start (B.source r) (B.denominator r))) (spread n y (B.weight r))

    three_together : {k : ℕ → ℕ → ℕ} {x y : ℕ → ℕ} → Moves A (external_movement a) k x y → Composes x y (external_movement a)
    unfolding if_less if_same
    three_together o =
        let p = layers_move C (external_movement a) between layers in
        (p.0, moves_cong (spread_states (right 0) o.starts) (spread_states (right 2) o.ends) refl p.1)
      where
        right : ℕ → ℕ → ℕ
        right i = if_less i 2 (start (B.source r) (B.denominator r)) (B.weight r)

        between : ℕ → ℕ → ℕ
        between i = spread n (o.between i) (right i)

        internal : (s b : ℕ) → b ≡ 0 → Shared A B b → ⊥
        internal s b e h = omega (arith, h.external)

        layers : (i : ℕ) → i < 3 → (h : ℕ → ℕ) × Through C ((external_movement a).layer i) h (between i) (between (suc i))
        layers =
            three_layers (λ i. (h : ℕ → ℕ) × Through C ((external_movement a).layer i) h (between i) (between (suc i)))
            (through_alone (λ s v b h. h) (o.through 0 (omega arith)) internal (right 0))
            (through_together (λ s v b h. h) (o.through 1 (omega arith)) sound r l shared refl (λ s b h. h))
            (through_alone (λ s v b h. h) (o.through 2 (omega arith)) internal (right 2))

    pub moves_together : {k : ℕ → ℕ → ℕ} {x y : ℕ → ℕ} → Moves A (plain_movement (B.action r)) k x y → (h : ℕ → ℕ → ℕ) × Moves C (plain_movement (B.action r)) h (spread B.states x (start (B.source r) (B.denominator r))) (spread B.states y (B.weight r))
    moves_together {k} {x} {y} o =
        either_movement (Composes x y) (λ e. absurd (omega (arith, shared.external)))
        (λ e. three_together (external_of (λ (m : Movement). Moves A m k x y) o e))

  -- D at t and d at e
  pub start_spread : (t e D d : ℕ) → e < B.states → (v : ℕ) → v < C.states → spread B.states (start t D) (start e d) v ≡ start (state_at B.states t e) (D * d) v
  unfolding start
  start_spread t e D d l v i =
      by_grid n A.states (λ v. spread n (start t D) (start e d) v ≡ start (state_at n t e) (D * d) v)
      (λ s f j k. spread_at n (start t D) (start e d) s f k ∙ sym (grid_same n s t f e D d k l)) v (omega (arith, composed.states))

  -- (t,e) meets c where it moves to what w and z say, and these are coupled with c's weights
  pub composed_by : {m : Movement} {h : ℕ → ℕ → ℕ} (W : ℕ → ℕ → Type 0) (w : ℕ → ℕ → ℕ) (z : ℕ → ℕ) (c t D : ℕ) → 1 ≤ D → Moves C m h (start t D) (spread B.states (over_targets A w) z) → Relates W A.states A.states w → ((u y : ℕ) → u < A.states → y < B.states → C.denominator c * (sum A.states (λ v. w v u) * z y) ≡ C.weight c (state_at B.states u y) * D) → MetBy C m (Nothing C c t) (LinkedBeside B.states W) c t
  unfolding over_targets
  composed_by {h = h} W w z c t D one moves relates target =
      record {
        flow = record { D = D; k = h; w = alongside n w z };
        at_least_one = one;
        moves = moves_cong (λ v i. refl) (λ v i. ends v (omega (arith, composed.states))) refl moves;
        couples = record { related = λ v u i j. related v u (omega (arith, composed.states)) (omega (arith, composed.states)); target = λ u i. targets u (omega (arith, composed.states)) };
        more = tt;
      }
    where
      ends : (v : ℕ) → v < A.states * n → spread n (over_targets A w) z v ≡ over_targets C (alongside n w z) v
      ends =
          by_grid n A.states (λ v. spread n (over_targets A w) z v ≡ over_targets C (alongside n w z) v)
          (λ v x i j. spread_at n (over_targets A w) z v x j ∙ sym (ap (λ (a : ℕ). sum a (λ u. alongside n w z (state_at n v x) u)) composed.states ∙ alongside_targets n w z A.states v x j))

      targets : (u : ℕ) → u < A.states * n → C.denominator c * sum C.states (λ v. alongside n w z v u) ≡ C.weight c u * D
      targets =
          by_grid n A.states (λ u. C.denominator c * sum C.states (λ v. alongside n w z v u) ≡ C.weight c u * D)
          (λ u y i j. ap (λ (s : ℕ). C.denominator c * s) (ap (λ (a : ℕ). sum a (λ v. alongside n w z v (state_at n u y))) composed.states ∙ alongside_sources n w z A.states u y j) ∙ target u y i j)

      related : (v u : ℕ) → v < A.states * n → u < A.states * n → 0 < alongside n w z v u → LinkedBeside n W v u
      related v u i j p =
          let o = alongside_used n w z v u p in
          record {
            s = left_of n v;
            t = left_of n u;
            e = right_of n v;
            state = right_below n A.states v i;
            first = pair_of n v;
            second = pair_of n u ∙ ap (state_at n (left_of n u)) (sym o.0);
            linked = relates (left_of n v) (left_of n u) (left_below n A.states v i) (left_below n A.states u j) o.1;
          }
