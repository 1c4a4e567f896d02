-- Two automata as one: what a flow of one of them is in both, for any two automata.
use Prim.Native.Nat.{ℕ, ◌+◌, ◌*◌, ◌≤◌, ◌<◌}
use Rattle.std.specs.Prelude.{◌≡◌}
use Rattle.std.proofs.Math.Path.{refl, sym, ap, ap₂}
use Rattle.std.proofs.Common.{◌∙◌, subst}
use native.Mathlib.Omega.{arith}
use Rattle.bisimulation.specs.definitions.Choice.{if_same}
use Rattle.bisimulation.proofs.argument.ChoiceLaws.{not_same}
use Rattle.bisimulation.specs.definitions.Sum.{sum}
use Rattle.bisimulation.proofs.argument.SumLaws.{sum_cong, sum_zero}
use Rattle.bisimulation.proofs.argument.Once.{none}
use Rattle.bisimulation.specs.definitions.Automaton.{Automaton, SoundAutomaton}
use Rattle.bisimulation.specs.definitions.StepRule.{arriving, leaving, over_targets, over_sources, StepRule}
use Rattle.bisimulation.specs.definitions.Joined.{IsJoined}
use Rattle.bisimulation.proofs.argument.Parts.{parts, nothing, square}
use Rattle.bisimulation.proofs.argument.PartsLaws.{by_parts, in_first, in_second, parts_cong, raised_same, sum_split, at_firsts, at_over, at_back, at_seconds}
use Rattle.bisimulation.proofs.argument.Moves.{Layer, Movement, start, Through, Moves, Relates, Couples, MetBy, Nothing, ByMovement, OfAnySource}
use Rattle.bisimulation.proofs.argument.MovesLaws.{moves_cong, still, nothing_couples, couples_cong}

-- nothing is linked
pub nothing_for : (A : Automaton) (v : ℕ) → over_targets A nothing v ≡ 0
unfolding over_targets nothing
nothing_for A v = sum_zero A.states _ (λ u l. refl)

nothing_to : (A B : Automaton) (v : ℕ) → none v ≡ over_targets A nothing v + over_targets B nothing v
unfolding none
nothing_to A B v = omega (arith, nothing_for A v, nothing_for B v)

nothing_from : (A : Automaton) (u : ℕ) → over_sources A nothing u ≡ 0
unfolding over_sources nothing
nothing_from A u = sum_zero A.states _ (λ v l. refl)

nothing_related : (W : ℕ → ℕ → Type 0) (n m : ℕ) → Relates W n m nothing
unfolding nothing
nothing_related W n m v u l k z = absurd (omega arith)

module _ (A B J : Automaton) (j : IsJoined A B J) where
  abbrev n : ℕ
  n = A.states

  abbrev a : ℕ
  a = A.transitions

  -- sums over the transitions and over the states of both
  over_transitions : (f : ℕ → ℕ) → sum J.transitions f ≡ sum a f + sum B.transitions (λ q. f (a + q))
  over_transitions f = ap (λ (k : ℕ). sum k f) j.transitions ∙ sum_split a B.transitions f

  over_states : (f : ℕ → ℕ) → sum J.states f ≡ sum n f + sum B.states (λ v. f (n + v))
  over_states f = ap (λ (k : ℕ). sum k f) j.states ∙ sum_split n B.states f

  -- a transition, and a state, of both is one of the first or one of the second
  pub each_transition {ℓ} : (P : ℕ → Type ℓ) → ((q : ℕ) → q < A.transitions → P q) → ((q : ℕ) → q < B.transitions → P (A.transitions + q)) → (q : ℕ) → q < J.transitions → P q
  each_transition P first second q l = by_parts a B.transitions P first second q (omega (arith, j.transitions))

  pub each_state {ℓ} : (P : ℕ → Type ℓ) → ((v : ℕ) → v < A.states → P v) → ((v : ℕ) → v < B.states → P (A.states + v)) → (v : ℕ) → v < J.states → P v
  each_state P first second v l = by_parts n B.states P first second v (omega (arith, j.states))

  -- layers k of A and h of B: what arrives, and what leaves
  module _ (k h : ℕ → ℕ) where
    pub arriving_first : (v : ℕ) → v < A.states → arriving J (parts A.transitions k h) v ≡ arriving A k v
    unfolding arriving
    arriving_first v l =
        over_transitions _
        ∙ ap₂ ◌+◌ (sum_cong a _ _ (λ q i. ap₂ ◌*◌ (in_first a k h q i) (j.first_weight q v i l))) (sum_zero B.transitions _ (λ q i. ap (λ (z : ℕ). parts a k h (a + q) * z) (j.second_only q v i l) ∙ omega arith))
        ∙ omega arith

    pub arriving_second : (v : ℕ) → v < B.states → arriving J (parts A.transitions k h) (A.states + v) ≡ arriving B h v
    unfolding arriving
    arriving_second v l =
        over_transitions _
        ∙ ap₂ ◌+◌ (sum_zero a _ (λ q i. ap (λ (z : ℕ). parts a k h q * z) (j.first_only q (n + v) i (omega arith)) ∙ omega arith)) (sum_cong B.transitions _ _ (λ q i. ap₂ ◌*◌ (in_second a k h q) (j.second_weight q v i l)))
        ∙ omega arith

    pub leaving_first : (v : ℕ) → v < A.states → leaving J (parts A.transitions k h) v ≡ leaving A k v
    unfolding leaving
    leaving_first v l =
        over_transitions _
        ∙ ap₂ ◌+◌ (sum_cong a _ _ (λ q i. own q i)) (sum_zero B.transitions _ (λ q i. sym (not_same _ (other q i) refl)))
        ∙ omega arith
      where
        own : (q : ℕ) → q < a → if_same (J.source q) v (parts a k h q * J.denominator q) 0 ≡ if_same (A.source q) v (k q * A.denominator q) 0
        own q i = ap₂ (λ (s z : ℕ). if_same s v z 0) (j.first_source q i) (ap₂ ◌*◌ (in_first a k h q i) (j.first_denominator q i))

        other : (q : ℕ) → q < B.transitions → J.source (a + q) ≡ v → ⊥
        other q i e = omega (arith, j.second_source q i)

    pub leaving_second : SoundAutomaton A → (v : ℕ) → leaving J (parts A.transitions k h) (A.states + v) ≡ leaving B h v
    unfolding leaving SoundAutomaton
    leaving_second sound v =
        over_transitions _
        ∙ ap₂ ◌+◌ (sum_zero a _ (λ q i. sym (not_same _ (other q i) refl))) (sum_cong B.transitions _ _ (λ q i. own q i))
        ∙ omega arith
      where
        own : (q : ℕ) → q < B.transitions → if_same (J.source (a + q)) (n + v) (parts a k h (a + q) * J.denominator (a + q)) 0 ≡ if_same (B.source q) v (h q * B.denominator q) 0
        own q i = ap₂ (λ (s z : ℕ). if_same s (n + v) z 0) (j.second_source q i) (ap₂ ◌*◌ (in_second a k h q) (j.second_denominator q i)) ∙ raised_same n (B.source q) v _ 0

        other : (q : ℕ) → q < a → J.source q ≡ n + v → ⊥
        other q i e = omega (arith, j.first_source q i, (sound q i).from)

  -- what w brings and takes, by the parts it links
  module _ (firsts over back seconds : ℕ → ℕ → ℕ) where
    pub over_targets_first : (v : ℕ) → v < A.states → over_targets J (square A.states firsts over back seconds) v ≡ over_targets A firsts v + over_targets B over v
    unfolding over_targets
    over_targets_first v l = over_states _ ∙ ap₂ ◌+◌ (sum_cong n _ _ (λ u i. at_firsts n firsts over back seconds v u l i)) (sum_cong B.states _ _ (λ u i. at_over n firsts over back seconds v u l))

    pub over_targets_second : (v : ℕ) → over_targets J (square A.states firsts over back seconds) (A.states + v) ≡ over_targets A back v + over_targets B seconds v
    unfolding over_targets
    over_targets_second v = over_states _ ∙ ap₂ ◌+◌ (sum_cong n _ _ (λ u i. at_back n firsts over back seconds v u i)) (sum_cong B.states _ _ (λ u i. at_seconds n firsts over back seconds v u))

    pub over_sources_first : (u : ℕ) → u < A.states → over_sources J (square A.states firsts over back seconds) u ≡ over_sources A firsts u + over_sources B back u
    unfolding over_sources
    over_sources_first u l = over_states _ ∙ ap₂ ◌+◌ (sum_cong n _ _ (λ v i. at_firsts n firsts over back seconds v u i l)) (sum_cong B.states _ _ (λ v i. at_back n firsts over back seconds v u l))

    pub over_sources_second : (u : ℕ) → over_sources J (square A.states firsts over back seconds) (A.states + u) ≡ over_sources A over u + over_sources B seconds u
    unfolding over_sources
    over_sources_second u = over_states _ ∙ ap₂ ◌+◌ (sum_cong n _ _ (λ v i. at_over n firsts over back seconds v u i)) (sum_cong B.states _ _ (λ v i. at_seconds n firsts over back seconds v u))

    pub over_targets_parts : (v : ℕ) → v < J.states → parts A.states (λ x. over_targets A firsts x + over_targets B over x) (λ x. over_targets A back x + over_targets B seconds x) v ≡ over_targets J (square A.states firsts over back seconds) v
    over_targets_parts =
        each_state (λ v. parts n _ _ v ≡ over_targets J (square n firsts over back seconds) v)
        (λ v l. in_first n _ _ v l ∙ sym (over_targets_first v l))
        (λ v l. in_second n _ _ v ∙ sym (over_targets_second v))

    -- it couples where its parts do
    module _ (W : ℕ → ℕ → Type 0) where
      pub relates_parts : Relates W A.states A.states firsts → Relates (λ v u. W v (A.states + u)) A.states B.states over → Relates (λ v u. W (A.states + v) u) B.states A.states back → Relates (λ v u. W (A.states + v) (A.states + u)) B.states B.states seconds → Relates W J.states J.states (square A.states firsts over back seconds)
      relates_parts f o b s v u l k =
          each_state (λ x. 0 < w x u → W x u)
          (λ x i. each_state (λ y. 0 < w x y → W x y) (λ y h z. f x y i h (omega (arith, at_firsts n firsts over back seconds x y i h))) (λ y h z. o x y i h (omega (arith, at_over n firsts over back seconds x y i))) u k)
          (λ x i. each_state (λ y. 0 < w (n + x) y → W (n + x) y) (λ y h z. b x y i h (omega (arith, at_back n firsts over back seconds x y h))) (λ y h z. s x y i h (omega (arith, at_seconds n firsts over back seconds x y))) u k)
          v l
        where
          w : ℕ → ℕ → ℕ
          w = square n firsts over back seconds

    pub target_parts : (d D : ℕ) (p : ℕ → ℕ) → ((u : ℕ) → u < A.states → d * (over_sources A firsts u + over_sources B back u) ≡ p u * D) → ((u : ℕ) → u < B.states → d * (over_sources A over u + over_sources B seconds u) ≡ p (A.states + u) * D) → (u : ℕ) → u < J.states → d * over_sources J (square A.states firsts over back seconds) u ≡ p u * D
    target_parts d D p first second =
        each_state (λ u. d * over_sources J (square n firsts over back seconds) u ≡ p u * D)
        (λ u l. ap (λ (z : ℕ). d * z) (over_sources_first u l) ∙ first u l)
        (λ u l. ap (λ (z : ℕ). d * z) (over_sources_second u) ∙ second u l)

  -- one moves beside the other
  module _ (sound : SoundAutomaton A) where
    through_beside : {l : Layer} {k h x y x' y' : ℕ → ℕ} → ((s v b : ℕ) → l.allows s b → l.allows v b) → Through A l k x y → Through B l h x' y' → Through J l (parts a k h) (parts n x x') (parts n y y')
    through_beside {l} {k} {h} {x} {y} {x'} {y'} any first second =
        record {
          uses =
              each_transition (λ r. 0 < parts a k h r → l.allows (J.source r) (J.action r))
              (λ r i u. any _ _ _ (subst (l.allows _) (sym (j.first_action r i)) (first.uses r i (omega (arith, in_first a k h r i)))))
              (λ r i u. any _ _ _ (subst (l.allows _) (sym (j.second_action r i)) (second.uses r i (omega (arith, in_second a k h r)))));
          balance =
              each_state (λ v. parts n x x' v + arriving J (parts a k h) v ≡ leaving J (parts a k h) v + parts n y y' v)
              (λ v i. omega (arith, in_first n x x' v i, in_first n y y' v i, arriving_first k h v i, leaving_first k h v i, first.balance v i))
              (λ v i. omega (arith, in_second n x x' v, in_second n y y' v, arriving_second k h v i, leaving_second k h sound v, second.balance v i));
          all = λ s.
              each_state (λ v. leaving J (parts a k h) v ≡ parts n x x' v)
              (λ v i. leaving_first k h v i ∙ first.all s v i ∙ sym (in_first n x x' v i))
              (λ v i. leaving_second k h sound v ∙ second.all s v i ∙ sym (in_second n x x' v));
        }

    pub moves_beside : {m : Movement} {k h : ℕ → ℕ → ℕ} {x y x' y' : ℕ → ℕ} → OfAnySource m → Moves A m k x y → Moves B m h x' y' → Moves J m (λ i. parts A.transitions (k i) (h i)) (parts A.states x x') (parts A.states y y')
    moves_beside any first second =
        record {
          between = λ i. parts n (first.between i) (second.between i);
          starts = ends_both first.starts second.starts;
          through = λ i l. through_beside (any i l) (first.through i l) (second.through i l);
          ends = ends_both first.ends second.ends;
        }
      where
        ends_both : {x y x' y' : ℕ → ℕ} → ((v : ℕ) → v < n → x v ≡ y v) → ((v : ℕ) → v < B.states → x' v ≡ y' v) → (v : ℕ) → v < J.states → parts n x x' v ≡ parts n y y' v
        ends_both {x} {y} {x'} {y'} f s =
            each_state (λ v. parts n x x' v ≡ parts n y y' v)
            (λ v l. in_first n x x' v l ∙ f v l ∙ sym (in_first n y y' v l))
            (λ v l. in_second n x x' v ∙ s v l ∙ sym (in_second n y y' v))

    -- one moves and the other does not
    pub moves_first : {m : Movement} {k : ℕ → ℕ → ℕ} {y : ℕ → ℕ} (t D : ℕ) → t < A.states → OfAnySource m → Moves A m k (start t D) y → Moves J m (λ i. parts A.transitions (k i) none) (start t D) (parts A.states y none)
    unfolding start none
    moves_first {m} t D below any o =
        moves_cong
        (each_state (λ v. parts n (start t D) none v ≡ start t D v) (λ v l. in_first n _ _ v l) (λ v l. in_second n _ _ v ∙ not_same _ (omega arith) refl))
        (λ v l. refl) refl (moves_beside any o (still B m))

    pub moves_second : {m : Movement} {k : ℕ → ℕ → ℕ} {y : ℕ → ℕ} (t D : ℕ) → OfAnySource m → Moves B m k (start t D) y → Moves J m (λ i. parts A.transitions none (k i)) (start (A.states + t) D) (parts A.states none y)
    unfolding start none
    moves_second {m} t D any o =
        moves_cong
        (each_state (λ v. parts n none (start t D) v ≡ start (n + t) D v) (λ v l. in_first n _ _ v l ∙ not_same _ (omega arith) refl) (λ v l. in_second n _ _ v ∙ sym (raised_same n v t D 0)))
        (λ v l. refl) refl (moves_beside any (still A m) o)

    -- a state of one of them answers a challenger of both
    module _ {m : Movement} (any : OfAnySource m) {k : ℕ → ℕ → ℕ} (W : ℕ → ℕ → Type 0) (q t D : ℕ) (one : 1 ≤ D) where
      pub first_answers : (firsts over : ℕ → ℕ → ℕ) → t < A.states → Moves A m k (start t D) (λ v. over_targets A firsts v + over_targets B over v) → Couples W A.states A.states (J.denominator q) D (J.weight q) firsts → Couples (λ v u. W v (A.states + u)) A.states B.states (J.denominator q) D (λ u. J.weight q (A.states + u)) over → MetBy J m (Nothing J q t) W q t
      unfolding over_sources
      first_answers firsts over below moves f o =
          record {
            flow = record { D = D; k = λ i. parts a (k i) none; w = square n firsts over nothing nothing };
            at_least_one = one;
            moves = moves_cong (λ v l. refl) (λ v l. parts_cong n (λ x. refl) (nothing_to A B) v ∙ over_targets_parts firsts over nothing nothing v l) refl (moves_first t D below any moves);
            couples =
                record {
                  related = relates_parts firsts over nothing nothing W f.related o.related (nothing_related _ _ _) (nothing_related _ _ _);
                  target =
                      target_parts firsts over nothing nothing (J.denominator q) D (J.weight q)
                      (λ u l. ap (λ (z : ℕ). J.denominator q * z) (omega (arith, nothing_from B u)) ∙ f.target u l)
                      (λ u l. ap (λ (z : ℕ). J.denominator q * z) (omega (arith, nothing_from B u)) ∙ o.target u l);
                };
            more = tt;
          }

      pub second_answers : (back seconds : ℕ → ℕ → ℕ) → Moves B m k (start t D) (λ v. over_targets A back v + over_targets B seconds v) → Couples (λ v u. W (A.states + v) u) B.states A.states (J.denominator q) D (J.weight q) back → Couples (λ v u. W (A.states + v) (A.states + u)) B.states B.states (J.denominator q) D (λ u. J.weight q (A.states + u)) seconds → MetBy J m (Nothing J q (A.states + t)) W q (A.states + t)
      unfolding over_sources
      second_answers back seconds moves b s =
          record {
            flow = record { D = D; k = λ i. parts a none (k i); w = square n nothing nothing back seconds };
            at_least_one = one;
            moves = moves_cong (λ v l. refl) (λ v l. parts_cong n (nothing_to A B) (λ x. refl) v ∙ over_targets_parts nothing nothing back seconds v l) refl (moves_second t D any moves);
            couples =
                record {
                  related = relates_parts nothing nothing back seconds W (nothing_related _ _ _) (nothing_related _ _ _) b.related s.related;
                  target =
                      target_parts nothing nothing back seconds (J.denominator q) D (J.weight q)
                      (λ u l. ap (λ (z : ℕ). J.denominator q * z) (omega (arith, nothing_from A u)) ∙ b.target u l)
                      (λ u l. ap (λ (z : ℕ). J.denominator q * z) (omega (arith, nothing_from A u)) ∙ s.target u l);
                };
            more = tt;
          }

    -- what is met in one of them by a movement is met in both, for a relation that has its pairs there
    module _ {met : StepRule} {movement : ℕ → Movement} (by : ByMovement met (λ a t. movement a) Nothing) (any : (a : ℕ) → OfAnySource (movement a)) (W Wide : ℕ → ℕ → Type 0) where
      pub first_met : ((v u : ℕ) → v < A.states → u < A.states → W v u → Wide v u) → (q t : ℕ) → q < A.transitions → t < A.states → met A W q t → met J Wide q t
      first_met wider q t l below m =
          let x = by.to A W q t m in
          by.from J Wide q t
          (first_answers (any _) Wide q t x.flow.D x.at_least_one x.flow.w nothing below
          (moves_cong (λ v i. refl) (λ v i. omega (arith, nothing_for B v)) (ap movement (sym (j.first_action q l))) x.moves)
          (couples_cong wider (j.first_denominator q l) (λ u i. j.first_weight q u l i) x.couples)
          (nothing_couples (λ u i. j.first_only q (n + u) l (omega arith))))

      pub second_met : ((v u : ℕ) → v < B.states → u < B.states → W v u → Wide (A.states + v) (A.states + u)) → (q t : ℕ) → q < B.transitions → met B W q t → met J Wide (A.transitions + q) (A.states + t)
      second_met wider q t l m =
          let x = by.to B W q t m in
          by.from J Wide (a + q) (n + t)
          (second_answers (any _) Wide (a + q) t x.flow.D x.at_least_one nothing x.flow.w
          (moves_cong (λ v i. refl) (λ v i. omega (arith, nothing_for A v)) (ap movement (sym (j.second_action q l))) x.moves)
          (nothing_couples (λ u i. j.second_only q u l i))
          (couples_cong wider (j.second_denominator q l) (λ u i. j.second_weight q u l i) x.couples))
