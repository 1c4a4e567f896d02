-- The moves from one state (s,e) are moves, and leave it; so the composition's sources never descend.
use Rattle.std.specs.Prelude.{ℕ, ◌≤◌, ◌<◌, ◌≡◌, refl, Bool, true, false}
use Rattle.std.proofs.Math.Path.{sym, ap, ap₂, subst}
use mathlib.Core.List.{List, [], ◌∷◌}
use Rattle.std.proofs.Math.Decide.{ℕ_discrete}
use Rattle.std.proofs.Common.{arith}
use Rattle.bisimulation.specs.definitions.Choice.{if_same, if_true}
use Rattle.bisimulation.proofs.argument.ChoiceLaws.{same, not_same, is_true, is_false}
use Rattle.bisimulation.specs.definitions.Automaton.{Automaton}
use Rattle.bisimulation.specs.definitions.Composed.{state_at, Move, left_alone, together, right_alone, IsMove, move_source}
use Rattle.rules.specs.definitions.Model.{Transition, Model, automaton_of}
use Rattle.rules.specs.definitions.SoundModel.{Each, Along}
use Rattle.rules.proofs.argument.SoundModelLaws.{each_append}
use Rattle.rules.proofs.argument.MappedLists.{along-mapped}
use Rattle.composition.specs.definitions.Composition.{gathered, is_shared, partner_move, left_move, right_move, moves_from, moves_of, moved, composed}
use Rattle.composition.proofs.argument.GatheredLaws.{gathered-each}
use Rattle.composition.proofs.argument.SharedLaws.{test-shared, test-alone}
use Rattle.composition.proofs.argument.MovedLaws.{moved-source}
use Rattle.composition.proofs.argument.Spans.{span-wider, gathered-span, span-along, span-constant}

module _ (A B : Automaton) where
  -- what holds of each move from (s,e)
  module _ (P : Move → Type 0) (s e : ℕ) where
    each_same : (a b : ℕ) (xs : List Move) → (a ≡ b → Each P xs) → Each P (if_same a b xs [])
    unfolding Each
    each_same a b xs h = go (ℕ_discrete a b)
      where
        go : Dec (a ≡ b) → Each P (if_same a b xs [])
        go (yes q) = subst (Each P) (same [] q refl) (h q)
        go (no q) = subst (Each P) (not_same xs q refl) tt

    each-test : (b : Bool) (xs ys : List Move) → (b ≡ true → Each P xs) → (b ≡ false → Each P ys) → Each P (if_true b xs ys)
    each-test true xs ys h k = subst (Each P) (is_true ys refl refl) (h refl)
    each-test false xs ys h k = subst (Each P) (is_false xs refl refl) (k refl)

    each-one : (m : Move) → P m → Each P (m ∷ [])
    unfolding Each
    each-one m p = (p, tt)

    pub each_from :
        ((q : ℕ) → q < A.transitions → A.source q ≡ s → is_shared A B (A.action q) ≡ false → P (left_alone q e))
        → ((q r : ℕ) → q < A.transitions → A.source q ≡ s → is_shared A B (A.action q) ≡ true → r < B.transitions → B.source r ≡ e → B.action r ≡ A.action q → P (together q r))
        → ((r : ℕ) → r < B.transitions → B.source r ≡ e → is_shared A B (B.action r) ≡ false → P (right_alone s r))
        → Each P (moves_from A B s e)
    unfolding moves_from left_move right_move partner_move Each
    each_from left pair right =
        each_append P (gathered A.transitions (left_move A B s e)) (gathered B.transitions (right_move A B s e))
        (gathered-each P A.transitions (left_move A B s e) (λ q l. each_same (A.source q) s _ (λ from.
        each-test (is_shared A B (A.action q)) _ _
        (λ t. gathered-each P B.transitions (partner_move A B q e) (λ r k. each_same (B.source r) e _ (λ leaves.
        each_same (B.action r) (A.action q) _ (λ partner. each-one _ (pair q r l from t k leaves partner)))))
        (λ t. each-one _ (left q l from t)))))
        (gathered-each P B.transitions (right_move A B s e) (λ r k. each_same (B.source r) e _ (λ leaves.
        each-test (is_shared A B (B.action r)) _ _ (λ t. tt) (λ t. each-one _ (right r k leaves t)))))

  -- it leaves (s,e)
  pub from-sources : (s e : ℕ) → Each (λ (m : Move). move_source A B m ≡ state_at B.states s e) (moves_from A B s e)
  unfolding move_source
  from-sources s e =
      each_from (λ (m : Move). move_source A B m ≡ state_at B.states s e) s e
      (λ q l from t. ap (λ (v : ℕ). state_at B.states v e) from)
      (λ q r l from t k leaves partner. ap₂ (state_at B.states) from leaves)
      (λ r k leaves t. ap (state_at B.states s) leaves)

  -- it is one of 000's
  pub from-moves : (s e : ℕ) → s < A.states → e < B.states → Each (IsMove A B) (moves_from A B s e)
  unfolding IsMove
  from-moves s e h k =
      each_from (IsMove A B) s e
      (λ q l from t. record { transition = l; state = k; alone = test-alone A B (A.action q) t })
      (λ q r l from t m leaves partner. record { left = l; right = m; shared = test-shared A B (A.action q) t; partner = sym partner })
      (λ r m leaves t. record { state = h; transition = m; alone = test-alone A B (B.action r) t })

  pub moves-are : Each (IsMove A B) (moves_of A B)
  unfolding moves_of
  moves-are =
      gathered-each (IsMove A B) A.states (λ s. gathered B.states (moves_from A B s)) (λ s h.
      gathered-each (IsMove A B) B.states (moves_from A B s) (λ e k. from-moves s e h k))

  -- sources never descend
  pub moves-ascend : Along (λ (m w : Move). move_source A B m ≤ move_source A B w) (moves_of A B)
  unfolding moves_of state_at
  moves-ascend =
      span-along (move_source A B) (move_source A B) (moves_of A B) _ _
      (gathered-span (move_source A B) (move_source A B) (λ s. state_at B.states s 0) A.states (λ s. gathered B.states (moves_from A B s)) (λ s h.
      span-wider (move_source A B) (move_source A B) _ (state_at B.states s 0) _ (state_at B.states s B.states) _ (omega arith) (omega arith)
      (gathered-span (move_source A B) (move_source A B) (λ e. state_at B.states s e) B.states (moves_from A B s) (λ e k.
      span-wider (move_source A B) (move_source A B) _ (state_at B.states s e) _ (state_at B.states s e) _ (omega arith) (omega arith)
      (span-constant (move_source A B) (state_at B.states s e) _ (from-sources s e))))))

-- 'Sources never descend along the file', of models of any kind
pub sources-ascend : (M N : Model) → Along (λ (t u : Transition). t.source ≤ u.source) (composed M N).transitions
unfolding composed
sources-ascend M N =
    let A = automaton_of M in
    let B = automaton_of N in
    along-mapped (moved M N) (λ (m w : Move). move_source A B m ≤ move_source A B w) (λ (t u : Transition). t.source ≤ u.source)
    (λ m w l. omega (arith, moved-source M N m, moved-source M N w, l)) (moves_of A B) (moves-ascend A B)
