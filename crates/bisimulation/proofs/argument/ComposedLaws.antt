-- 'then linking (s,e) to (t,e) for linked s, t does so on the composition': by who moves, for any rule by a movement that can be composed.
use Rattle.std.specs.Prelude.{ℕ, ◌*◌, ◌<◌, ◌≡◌, refl, ◌⊎◌}
use Rattle.std.proofs.Math.Path.{sym, ap₂, subst, subst₂}
use Rattle.std.proofs.Common.{◌∙◌, ap, inl, inr, one-mul, mul-one, mul_comm, mul-pos, arith}
use Rattle.bisimulation.specs.definitions.Choice.{if_same}
use Rattle.bisimulation.proofs.argument.ChoiceLaws.{times_same}
use Rattle.bisimulation.specs.definitions.Sum.{sum}
use Rattle.bisimulation.proofs.argument.SumLaws.{sum_times, sum_times_right, sum_same}
use Rattle.bisimulation.proofs.argument.Once.{once, once_used}
use Rattle.bisimulation.specs.definitions.Automaton.{Automaton, SoundAutomaton}
use Rattle.bisimulation.specs.definitions.StepRule.{over_targets, StepRule, Met}
use Rattle.bisimulation.specs.definitions.Largest.{Bisimulation}
use Rattle.bisimulation.specs.definitions.Composed.{state_at, Move, left_alone, together, right_alone, Shared, MovesLeft, MovesTogether, MovesRight, move_source, move_action, move_denominator, move_weight, IsMove, Does, IsComposed, LinkedBeside}
use Rattle.bisimulation.proofs.argument.Grid.{spread}
use Rattle.bisimulation.proofs.argument.GridLaws.{state_same, state_below, by_grid, spread_at}
use Rattle.bisimulation.proofs.argument.Moves.{Movement, plain_movement, start, Moves, MetBy, Nothing, DoesOnce, OfAnySource}
use Rattle.bisimulation.proofs.argument.MovesLaws.{used_times, moves_cong, own_moves}
use Rattle.bisimulation.proofs.argument.PlainMoves.{plain_by, plain_once, plain_any_source}
use Rattle.bisimulation.proofs.argument.PlainAllowed.{Allowed, plain_allowed}
use Rattle.bisimulation.proofs.argument.ComposedLabels.{labels_one_to_one}
use Rattle.bisimulation.proofs.argument.ComposedMoves.{alone_at_once, together_at_once, moves_alone, moves_together, start_spread, composed_by}

-- one of n is t
sum_once : (n t : ℕ) → t < n → sum n (once t) ≡ 1
unfolding once
sum_once n t l = sum_same n t (λ v. 1) l

-- the left one's movement beside a transition of the right one with its action
abbrev pub Beside : (movement : (a : ℕ) → Movement) → Type 0
Beside movement =
    (A B C : Automaton) → IsComposed A B C → SoundAutomaton B → (r : ℕ) → r < B.transitions → Shared A B (B.action r) → (k : ℕ → ℕ → ℕ) (x y : ℕ → ℕ) → Moves A (movement (B.action r)) k x y
    → (h : ℕ → ℕ → ℕ) × Moves C (movement (B.action r)) h (spread B.states x (start (B.source r) (B.denominator r))) (spread B.states y (B.weight r))

-- what composing asks of a step rule: on automata that fit it says what a movement says that is any state's
pub record ComposesBy (met : StepRule) (movement : (a : ℕ) → Movement) (Fits : Automaton → Type 0) : Type 1 where
  pub to : (A : Automaton) (W : ℕ → ℕ → Type 0) (q t : ℕ) → met A W q t → MetBy A (movement (A.action q)) (Nothing A q t) W q t
  pub from : (A : Automaton) → Fits A → (W : ℕ → ℕ → Type 0) (q t : ℕ) → t < A.states → MetBy A (movement (A.action q)) (Nothing A q t) W q t → met A W q t
  pub does : (a s : ℕ) → DoesOnce (movement a) s a
  pub any_source : (a : ℕ) → OfAnySource (movement a)
  pub allowed : (a : ℕ) → Allowed a (movement a)
  pub beside : Beside movement

module _ {met : StepRule} {movement : (a : ℕ) → Movement} {Fits : Automaton → Type 0} (by : ComposesBy met movement Fits) (A B C : Automaton) (composed : IsComposed A B C) (fits : Fits C) (W : ℕ → ℕ → Type 0) where
  abbrev n : ℕ
  n = B.states

  abbrev Link : ℕ → ℕ → Type 0
  Link = LinkedBeside n W

  inside : (t e : ℕ) → t < A.states → e < B.states → state_at B.states t e < C.states
  inside t e l k = omega (arith, state_below n A.states t e l k, composed.states)

  -- the left one moves and is met by t, while the right one, from e, goes to x with z(x)/d
  beside_met : {a : ℕ} {h : ℕ → ℕ → ℕ} (q c t e d : ℕ) (z : ℕ → ℕ) (o : MetBy A (movement (A.action q)) (Nothing A q t) W q t) → t < A.states → e < n → 0 < d → a ≡ C.action c → C.denominator c ≡ A.denominator q * d → ((u y : ℕ) → u < A.states → y < n → C.weight c (state_at n u y) ≡ A.weight q u * z y) → Moves C (movement a) h (spread n (start t o.flow.D) (start e d)) (spread n (over_targets A o.flow.w) z) → met C Link c (state_at n t e)
  beside_met q c t e d z o below state positive action denominator weight moves =
      by.from C fits Link c (state_at n t e) (inside t e below state)
      (composed_by A B C composed W o.flow.w z c (state_at n t e) (D * d) (mul-pos o.at_least_one positive)
      (moves_cong (start_spread A B C composed t e D d state) (λ v i. refl) (ap movement action) moves)
      o.couples.related
      target)
    where
      D : ℕ
      D = o.flow.D

      target : (u y : ℕ) → u < A.states → y < n → C.denominator c * (sum A.states (λ v. o.flow.w v u) * z y) ≡ C.weight c (state_at n u y) * (D * d)
      target u y i j =
          ap (λ (x : ℕ). x * (sum A.states (λ v. o.flow.w v u) * z y)) denominator
          ∙ omega (arith, ap (λ (x : ℕ). x * (z y * d)) (o.couples.target u i))
          ∙ ap (λ (p : ℕ). p * (D * d)) (sym (weight u y i j))

  -- the left one moves alone: its flow at e
  left_met : (q e c t : ℕ) → t < A.states → MovesLeft A B q e → Does A B C c (left_alone q e) → met A W q t → met C (LinkedBeside B.states W) c (state_at B.states t e)
  left_met q e c t below m d asked =
      let o = by.to A W q t asked in
      let once = alone_at_once A B C composed q e c d in
      beside_met q c t e 1 (start e 1) o below m.state (omega arith) (sym once.action) once.denominator once.weight
      (moves_alone A B C composed (by.any_source _) (λ i l s b h. unshared b (by.allowed _ i l s b h)) o.moves (start e 1)).1
    where
      unshared : (b : ℕ) → (b ≡ 0) ⊎ (b ≡ A.action q) → Shared A B b → ⊥
      unshared b (inl z) h = omega (arith, h.external)
      unshared b (inr z) h = m.alone (subst (Shared A B) z h)

  module _ (sound : SoundAutomaton B) where
    -- both move: the right one's r beside each of the step
    together_met : (q r c t : ℕ) → t < A.states → MovesTogether A B q r → Does A B C c (together q r) → met A W q t → met C (LinkedBeside B.states W) c (state_at B.states t (B.source r))
    unfolding SoundAutomaton
    together_met q r c t below m d asked =
        let o = by.to A W q t asked in
        let once = together_at_once A B C composed q r c d in
        let right = sound r m.right in
        beside_met q c t (B.source r) (B.denominator r) (B.weight r) o below right.from right.positive (sym (once.action ∙ m.partner)) once.denominator once.weight
        (by.beside A B C composed sound r m.right (subst (Shared A B) m.partner m.shared) _ _ _
        (moves_cong (λ v i. refl) (λ v i. refl) (ap movement m.partner) o.moves)).1

    -- the right one moves alone: the same move at t
    right_met : (s t r c : ℕ) → MovesRight A B s r → Does A B C c (right_alone s r) → W t s → t < A.states → met C (LinkedBeside B.states W) c (state_at B.states t (B.source r))
    unfolding move_source move_action move_denominator move_weight IsMove SoundAutomaton over_targets once
    right_met s t r c m d back state =
        by.from C fits Link c (state_at n t (B.source r)) (inside t _ state (sound r m.transition).from)
        (composed_by A B C composed W w (B.weight r) c (state_at n t (B.source r)) (B.denominator r) (sound r m.transition).positive
        (moves_cong
        (λ v i. ap₂ (λ (x y : ℕ). start x y v) own.2.source own.2.denominator)
        (λ v i. ends v (omega (arith, composed.states)))
        (ap movement (own.2.action ∙ sym d.action))
        (own_moves C own.0 own.1 (by.does _ _)))
        (λ v u i j z. subst₂ W (sym (once_used t v (used_times (once t v) (once s u) z))) (sym (once_used s u (used_times (once s u) (once t v) (omega arith)))) back)
        target)
      where
        own : (x : ℕ) × (x < C.transitions) × Does A B C x (right_alone t r)
        own = composed.all (right_alone t r) (record { state = state; transition = m.transition; alone = m.alone })

        -- t is linked with s
        w : ℕ → ℕ → ℕ
        w v u = once t v * once s u

        from_one : (v : ℕ) → over_targets A w v ≡ once t v
        from_one v = sum_times A.states (once t v) (once s) ∙ ap (λ (z : ℕ). once t v * z) (sum_once A.states s m.state) ∙ mul-one _

        to_one : (u : ℕ) → sum A.states (λ v. w v u) ≡ once s u
        to_one u = sum_times_right A.states (once s u) (once t) ∙ ap (λ (z : ℕ). z * once s u) (sum_once A.states t state) ∙ one-mul _

        chosen : (a b x : ℕ) → if_same a b x 0 ≡ once b a * x
        chosen a b x = ap (λ (z : ℕ). if_same a b z 0) (sym (one-mul x)) ∙ sym (times_same a b 1 x)

        ends : (v : ℕ) → v < A.states * n → C.weight own.0 v ≡ spread n (over_targets A w) (B.weight r) v
        ends =
            by_grid n A.states (λ v. C.weight own.0 v ≡ spread n (over_targets A w) (B.weight r) v)
            (λ v x i j. own.2.weight v x i j ∙ chosen v t (B.weight r x) ∙ sym (spread_at n (over_targets A w) (B.weight r) v x j ∙ ap (λ (z : ℕ). z * B.weight r x) (from_one v)))

        target : (u y : ℕ) → u < A.states → y < n → C.denominator c * (sum A.states (λ v. w v u) * B.weight r y) ≡ C.weight c (state_at n u y) * B.denominator r
        target u y i j =
            ap₂ (λ (a b : ℕ). a * (b * B.weight r y)) d.denominator (to_one u)
            ∙ mul_comm (B.denominator r) _
            ∙ ap (λ (z : ℕ). z * B.denominator r) (sym (d.weight u y i j ∙ chosen u s (B.weight r y)))

  -- any of them asks (t,e)
  module _ (sound : SoundAutomaton B) (b : Bisimulation met A W) where
    asked : (m : Move) (c s t e : ℕ) → IsMove A B m → Does A B C c m → move_source A B m ≡ state_at B.states s e → e < B.states → W s t → met C (LinkedBeside B.states W) c (state_at B.states t e)
    unfolding IsMove move_source SoundAutomaton
    asked (left_alone q x) c s t e m d p l w =
        let o = state_same n _ s x e m.state l p in
        subst (λ (y : ℕ). met C Link c (state_at n t y)) o.1 (left_met q x c t (b.on_states s t w).1 m d (b.meets.met s t w q m.transition o.0))
    asked (together q r) c s t e m d p l w =
        let o = state_same n _ s _ e (sound r m.right).from l p in
        subst (λ (y : ℕ). met C Link c (state_at n t y)) o.1 (together_met sound q r c t (b.on_states s t w).1 m d (b.meets.met s t w q m.left o.0))
    asked (right_alone x r) c s t e m d p l w =
        let o = state_same n x s _ e (sound r m.transition).from l p in
        subst (λ (y : ℕ). met C Link c (state_at n t y)) o.1 (right_met sound x t r c m d (subst (W t) (sym o.0) (b.symmetric s t w)) (b.on_states s t w).1)

    labels : (s t e : ℕ) → e < B.states → W s t → C.label (state_at B.states s e) ≡ C.label (state_at B.states t e)
    labels s t e l w =
        let o = b.on_states s t w in
        composed.label s e o.0 l ∙ (labels_one_to_one A B s t e e l l).1 (b.keeps_labels s t w, refl) ∙ sym (composed.label t e o.1 l)

-- 'If a symmetric relation keeps labels and meets the step rule on the left model, then linking (s,e) to (t,e) for linked s, t does so on the
-- composition'
pub composed_bisimulation_by : {met : StepRule} {movement : (a : ℕ) → Movement} {Fits : Automaton → Type 0} → ComposesBy met movement Fits → (A B C : Automaton) → SoundAutomaton B → IsComposed A B C → Fits C → (W : ℕ → ℕ → Type 0) → Bisimulation met A W → Bisimulation met C (LinkedBeside B.states W)
composed_bisimulation_by {met} by A B C sound_b composed fits W b =
    record {
      on_states = λ v u w. let o = b.on_states _ _ w.linked in (below v w.s w.e w.first o.0 w.state, below u w.t w.e w.second o.1 w.state);
      symmetric = λ v u w. record { s = w.t; t = w.s; e = w.e; state = w.state; first = w.second; second = w.first; linked = b.symmetric _ _ w.linked };
      keeps_labels = λ v u w. ap C.label w.first ∙ labels by A B C composed fits W sound_b b _ _ _ w.state w.linked ∙ ap C.label (sym w.second);
      meets = record {
        met = λ v u w c l e. let m = composed.only c l in
            subst (met C (LinkedBeside B.states W) c) (sym w.second)
            (asked by A B C composed fits W sound_b b m.0 c w.s w.t w.e m.1 m.2 (sym m.2.source ∙ e ∙ w.first) w.state w.linked);
      };
    }
  where
    below : (v s e : ℕ) → v ≡ state_at B.states s e → s < A.states → e < B.states → v < C.states
    below v s e p l k = subst (λ (x : ℕ). x < C.states) (sym p) (inside by A B C composed fits W s e l k)

plain_composes : ComposesBy Met plain_movement (λ A. Unit {0})
plain_composes =
    record {
      to = plain_by.to;
      from = λ A fits W q t l. plain_by.from A W q t;
      does = plain_once;
      any_source = plain_any_source;
      allowed = plain_allowed;
      beside = λ A B C composed sound r l shared k x y. moves_together A B C composed sound r l shared;
    }

-- document 01's rule
pub composed_bisimulation : (A B C : Automaton) → SoundAutomaton B → IsComposed A B C → (W : ℕ → ℕ → Type 0) → Bisimulation Met A W → Bisimulation Met C (LinkedBeside B.states W)
composed_bisimulation A B C sound_b composed = composed_bisimulation_by plain_composes A B C sound_b composed tt
