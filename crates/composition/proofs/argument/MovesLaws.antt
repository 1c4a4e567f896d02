-- The moves of the composition are 000's and no others, each once, in K11's order; and no other list is.
use Prim.Native.Nat.{ℕ, suc, ◌+◌, ◌*◌, ◌≤◌, ◌<◌}
use Rattle.std.specs.Prelude.{◌≡◌}
use Rattle.std.proofs.Math.Path.{refl, ap, subst}
use Rattle.std.proofs.Common.{sym, ap₂, arith}
use mathlib.Core.List.{List, [], ◌∷◌}
use Rattle.std.proofs.Math.Decide.{ℕ_discrete}
use Rattle.bisimulation.specs.definitions.Choice.{if_same}
use Rattle.bisimulation.proofs.argument.ChoiceLaws.{same, not_same, is_true, is_false, either_true}
use Rattle.bisimulation.specs.definitions.Automaton.{Automaton, SoundAutomaton}
use Rattle.bisimulation.specs.definitions.Composed.{state_at, Move, left_alone, together, right_alone, IsMove, move_source}
use Rattle.rules.specs.definitions.SoundModel.{Each}
use Rattle.rules.specs.definitions.Accepted.{Ascends, Among, here, there}
use Rattle.rules.proofs.argument.QuestionsLaws.{one_list}
use Rattle.composition.specs.definitions.Composition.{gathered, is_shared, partner_move, left_move, right_move, moves_from, moves_of, place_from, move_key, MovesInOrder}
use Rattle.composition.proofs.argument.GatheredLaws.{among_first, among_second, gathered-among}
use Rattle.composition.proofs.argument.Spans.{Span, span-wider, span-append, gathered-span, span-ascends}
use Rattle.composition.proofs.argument.SharedLaws.{shared-test, alone-test}
use Rattle.composition.proofs.argument.MoveSources.{moves-are}

pub among-each : {X : Type 0} (P : X → Type 0) (x : X) (xs : List X) → Each P xs → Among x xs → P x
unfolding Each
among-each {X = X} P x [] h x3 = elim x3 [ ]
among-each P x (y ∷ xs) h here = h.0
among-each P x (y ∷ xs) h (there a) = among-each P x xs h.1 a

module _ (A B : Automaton) where
  -- every move is among them, where transitions leave states
  module _ (left : (q : ℕ) → q < A.transitions → A.source q < A.states) (right : (r : ℕ) → r < B.transitions → B.source r < B.states) where
    at-state : (m : Move) (s e : ℕ) → s < A.states → e < B.states → Among m (moves_from A B s e) → Among m (moves_of A B)
    unfolding moves_of
    at-state m s e h k a =
        gathered-among A.states s (λ s. gathered B.states (moves_from A B s)) h (gathered-among B.states e (moves_from A B s) k a)

    of_left : (m : Move) (s e q : ℕ) → q < A.transitions → Among m (left_move A B s e q) → Among m (moves_from A B s e)
    unfolding moves_from
    of_left m s e q l a = among_first (gathered B.transitions (right_move A B s e)) (gathered-among A.transitions q (left_move A B s e) l a)

    of_right : (m : Move) (s e r : ℕ) → r < B.transitions → Among m (right_move A B s e r) → Among m (moves_from A B s e)
    unfolding moves_from
    of_right m s e r l a = among_second (gathered A.transitions (left_move A B s e)) (gathered-among B.transitions r (right_move A B s e) l a)

    pub move-among : (m : Move) → IsMove A B m → Among m (moves_of A B)
    unfolding IsMove left_move partner_move right_move
    move-among (left_alone q e) h =
        at-state _ (A.source q) e (left q h.transition) h.state
        (of_left _ (A.source q) e q h.transition
        (subst (Among (left_alone q e)) (same [] refl (is_false _ (alone-test A B (A.action q) h.alone) refl)) here))
    move-among (together q r) h =
        at-state _ (A.source q) (B.source r) (left q h.left) (right r h.right)
        (of_left _ (A.source q) (B.source r) q h.left
        (subst (Among (together q r)) (same [] refl (is_true _ (shared-test A B (A.action q) h.shared) refl))
        (gathered-among B.transitions r (partner_move A B q (B.source r)) h.right
        (subst (Among (together q r)) (same [] refl (same [] (sym h.partner) refl)) here))))
    move-among (right_alone s r) h =
        at-state _ s (B.source r) h.state (right r h.transition)
        (of_right _ s (B.source r) r h.transition
        (subst (Among (right_alone s r)) (same [] refl (is_false _ (alone-test A B (B.action r) h.alone) refl)) here))

  -- the keys ascend
  Keys : ℕ → ℕ → List Move → Type 0
  Keys = Span (move_key A B) (λ m. move_key A B m + 1)

  keys-same : (low high a b : ℕ) (xs : List Move) → low ≤ high → (a ≡ b → Keys low high xs) → Keys low high (if_same a b xs [])
  unfolding Keys Span
  keys-same low high a b xs l h = go (ℕ_discrete a b)
    where
      go : Dec (a ≡ b) → Keys low high (if_same a b xs [])
      go (yes q) = subst (Keys low high) (same [] q refl) (h q)
      go (no q) = subst (Keys low high) (not_same xs q refl) l

  keys-one : (low high : ℕ) (m : Move) → low ≤ move_key A B m → move_key A B m < high → Keys low high (m ∷ [])
  unfolding Keys Span
  keys-one low high m l h = (l, omega arith)

  keys_none : (low high : ℕ) → low ≤ high → Keys low high []
  unfolding Keys Span
  keys_none low high l = l

  module _ (s e : ℕ) where
    -- where the keys from this state begin
    base : ℕ
    base = state_at B.states s e * (suc A.transitions * suc B.transitions)

    key-is : (m : Move) → move_source A B m ≡ state_at B.states s e → move_key A B m ≡ base + place_from A B m
    unfolding move_key base
    key-is m q = ap (λ (c : ℕ). c * (suc A.transitions * suc B.transitions) + place_from A B m) q

    left-base : ℕ → ℕ
    left-base q = base + q * suc B.transitions

    partner-keys : (q r : ℕ) → A.source q ≡ s → Keys (left-base q + r) (left-base q + suc r) (partner_move A B q e r)
    unfolding partner_move left-base
    partner-keys q r from =
        keys-same _ _ (B.source r) e _ (omega arith) (λ leaves. keys-same _ _ (B.action r) (A.action q) _ (omega arith) (λ partner.
        let k = key leaves in keys-one _ _ (together q r) (omega (arith, k)) (omega (arith, k))))
      where
        key : B.source r ≡ e → move_key A B (together q r) ≡ base + (q * suc B.transitions + r)
        key leaves = unfold place_from move_source in key-is (together q r) (ap₂ (state_at B.states) from leaves)

    left-keys : (q : ℕ) → Keys (left-base q) (left-base (suc q)) (left_move A B s e q)
    unfolding left_move left-base
    left-keys q =
        keys-same _ _ (A.source q) s _ (omega arith) (λ from.
        either_true (Keys (left-base q) (left-base (suc q))) (is_shared A B (A.action q)) (pairs from) (alone from))
      where
        pairs : A.source q ≡ s → Keys (left-base q) (left-base (suc q)) (gathered B.transitions (partner_move A B q e))
        pairs from =
            unfold Keys in
            span-wider (move_key A B) (λ m. move_key A B m + 1) _ (left-base q + 0) _ (left-base q + B.transitions) _ (omega arith) (omega arith)
            (gathered-span (move_key A B) (λ m. move_key A B m + 1) (λ r. left-base q + r) B.transitions (partner_move A B q e)
            (λ r l. partner-keys q r from))

        key : A.source q ≡ s → move_key A B (left_alone q e) ≡ base + q * suc B.transitions
        key from = unfold place_from move_source in key-is (left_alone q e) (ap (λ (v : ℕ). state_at B.states v e) from)

        alone : A.source q ≡ s → Keys (left-base q) (left-base (suc q)) (left_alone q e ∷ [])
        alone from = let k = key from in keys-one _ _ (left_alone q e) (omega (arith, k)) (omega (arith, k))

    right-keys : (r : ℕ) → Keys (left-base A.transitions + r) (left-base A.transitions + suc r) (right_move A B s e r)
    unfolding right_move left-base
    right-keys r =
        keys-same _ _ (B.source r) e _ (omega arith) (λ leaves.
        let k = key leaves in
        either_true (Keys _ _) (is_shared A B (B.action r)) (keys_none _ _ (omega arith))
        (keys-one _ _ (right_alone s r) (omega (arith, k)) (omega (arith, k))))
      where
        key : B.source r ≡ e → move_key A B (right_alone s r) ≡ base + (A.transitions * suc B.transitions + r)
        key leaves = unfold place_from move_source in key-is (right_alone s r) (ap (state_at B.states s) leaves)

    from-keys : Keys base (base + suc A.transitions * suc B.transitions) (moves_from A B s e)
    unfolding moves_from Keys left-base
    from-keys =
        let key = move_key A B in
        let later : Move → ℕ = λ m. move_key A B m + 1 in
        span-append key later _ _ base (left-base A.transitions) _
        (span-wider key later _ (left-base 0) _ (left-base A.transitions) _ (omega arith) (omega arith)
        (gathered-span key later left-base A.transitions (left_move A B s e) (λ q l. left-keys q)))
        (span-wider key later _ (left-base A.transitions + 0) _ (left-base A.transitions + B.transitions) _ (omega arith) (omega arith)
        (gathered-span key later (λ r. left-base A.transitions + r) B.transitions (right_move A B s e) (λ r l. right-keys r)))

  moves-keys : Keys (base 0 0) (base A.states 0) (moves_of A B)
  unfolding moves_of Keys base state_at
  moves-keys =
      let key = move_key A B in
      let later : Move → ℕ = λ m. move_key A B m + 1 in
      gathered-span key later (λ s. base s 0) A.states (λ s. gathered B.states (moves_from A B s)) (λ s h.
      span-wider key later _ (base s 0) _ (base s B.states) _ (omega arith) (omega arith)
      (gathered-span key later (base s) B.states (moves_from A B s) (λ e k.
      span-wider key later _ (base s e) _ _ _ (omega arith) (omega arith) (from-keys s e))))

  pub moves-order : Ascends (move_key A B) 0 (moves_of A B)
  unfolding Keys
  moves-order =
      span-ascends (move_key A B) (moves_of A B) 0 (base A.states 0)
      (span-wider (move_key A B) (λ m. move_key A B m + 1) (moves_of A B) (base 0 0) 0 (base A.states 0) _ (omega arith) (omega arith) moves-keys)

-- exactly 000's moves, in K11's order
pub moves-in-order : (A B : Automaton) → SoundAutomaton A → SoundAutomaton B → MovesInOrder A B (moves_of A B)
unfolding SoundAutomaton
moves-in-order A B left right =
    record {
      only = λ m a. among-each (IsMove A B) m (moves_of A B) (moves-are A B) a;
      all = move-among A B (λ q l. (left q l).from) (λ r l. (right r l).from);
      order = moves-order A B;
    }

-- and no two lists are
pub in-order-one : (A B : Automaton) (xs ys : List Move) → MovesInOrder A B xs → MovesInOrder A B ys → xs ≡ ys
in-order-one A B xs ys p q =
    one_list (move_key A B) xs ys 0 p.order q.order (λ m a. q.all m (p.only m a)) (λ m a. p.all m (q.only m a))
