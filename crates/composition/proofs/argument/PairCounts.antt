-- What the moves add up to, counted pair by pair and not state by state.
use Prim.Native.Nat.{ℕ, ◌+◌, ◌<◌}
use Rattle.std.specs.Prelude.{◌≡◌, Bool}
use Rattle.std.proofs.Math.Path.{refl, sym, ap, ap₂}
use Rattle.std.proofs.Common.{◌∙◌}
use Rattle.std.proofs.Math.Bool.{true, false}
use mathlib.Core.List.{List, [], ◌∷◌}
use native.Mathlib.Omega.{arith}
use Rattle.bisimulation.specs.definitions.Choice.{if_same, if_true}
use Rattle.bisimulation.proofs.argument.ChoiceLaws.{is_true, is_false, turned, of_same}
use Rattle.bisimulation.specs.definitions.Sum.{sum}
use Rattle.bisimulation.proofs.argument.SumLaws.{sum_cong, sum_zero, sum_add, sum_exchange, sum_same}
use Rattle.bisimulation.specs.definitions.Automaton.{Automaton}
use Rattle.bisimulation.specs.definitions.Composed.{Shared, Move, left_alone, together, right_alone}
use Rattle.rules.specs.definitions.SoundModel.{sum_over}
use Rattle.rules.proofs.argument.MappedLists.{sum-append}
use Rattle.composition.specs.definitions.Composition.{gathered, is_shared, partner_move, left_move, right_move, moves_from, moves_of}
use Rattle.composition.proofs.argument.SharedLaws.{shared-test, alone-test}
use Rattle.composition.proofs.argument.GatheredLaws.{gathered-sum}

-- what the left's transition q adds: with each partner where its action is shared, else alone; what the right's r adds on its own; and all
module _ (A B : Automaton) where
  unfoldable pub left_count : (left : ℕ → ℕ) (pair : ℕ → ℕ → ℕ) → ℕ → ℕ
  left_count left pair q =
      if_true (is_shared A B (A.action q)) (sum B.transitions (λ r. if_same (B.action r) (A.action q) (pair q r) 0)) (left q)

  unfoldable pub right_count : (right : ℕ → ℕ) → ℕ → ℕ
  right_count right r = if_true (is_shared A B (B.action r)) 0 (right r)

  unfoldable pub pair_count : (left : ℕ → ℕ) (pair : ℕ → ℕ → ℕ) (right : ℕ → ℕ) → ℕ
  pair_count left pair right = sum A.transitions (left_count left pair) + sum B.transitions (right_count right)

  -- a shared action and another
  pub left-shared : (left : ℕ → ℕ) (pair : ℕ → ℕ → ℕ) (q : ℕ) → Shared A B (A.action q) → left_count left pair q ≡ sum B.transitions (λ r. if_same (B.action r) (A.action q) (pair q r) 0)
  unfolding left_count
  left-shared left pair q h = sym (is_true (left q) (shared-test A B (A.action q) h) refl)

  pub left_alone_lem : (left : ℕ → ℕ) (pair : ℕ → ℕ → ℕ) (q : ℕ) → (Shared A B (A.action q) → ⊥) → left_count left pair q ≡ left q
  unfolding left_count
  left_alone_lem left pair q h = sym (is_false _ (alone-test A B (A.action q) h) refl)

  pub right-shared : (right : ℕ → ℕ) (r : ℕ) → Shared A B (B.action r) → right_count right r ≡ 0
  unfolding right_count
  right-shared right r h = sym (is_true (right r) (shared-test A B (B.action r) h) refl)

  pub right-alone : (right : ℕ → ℕ) (r : ℕ) → (Shared A B (B.action r) → ⊥) → right_count right r ≡ right r
  unfolding right_count
  right-alone right r h = sym (is_false 0 (alone-test A B (B.action r) h) refl)

-- a choice of all, and the one at a source
sum-choice : (n : ℕ) (b : Bool) (f g : ℕ → ℕ) → sum n (λ i. if_true b (f i) (g i)) ≡ if_true b (sum n f) (sum n g)
unfolding if_true
sum-choice n true f g = refl
sum-choice n false f g = refl

sum-at : (n a : ℕ) (f : ℕ → ℕ) → a < n → sum n (λ i. if_same a i (f i) 0) ≡ f a
sum-at n a f l = sum_cong n (λ i. if_same a i (f i) 0) (λ i. if_same i a (f i) 0) (λ i k. turned a i (f i) 0) ∙ sum_same n a f l

sum-sources : (n count : ℕ) (source : ℕ → ℕ) → ((r : ℕ) → r < count → source r < n) → (f : ℕ → ℕ → ℕ) → sum n (λ e. sum count (λ r. if_same (source r) e (f e r) 0)) ≡ sum count (λ r. f (source r) r)
sum-sources n count source below f =
    sum_exchange n count (λ e r. if_same (source r) e (f e r) 0)
    ∙ sum_cong count (λ r. sum n (λ e. if_same (source r) e (f e r) 0)) (λ r. f (source r) r) (λ r l. sum-at n (source r) (λ e. f e r) (below r l))

module _ (A B : Automaton) (g : Move → ℕ) where
  one-move : (m : Move) → sum_over g (m ∷ []) ≡ g m
  unfolding sum_over
  one-move m = omega arith

  choice : (b : Bool) (xs ys : List Move) → sum_over g (if_true b xs ys) ≡ if_true b (sum_over g xs) (sum_over g ys)
  unfolding if_true
  choice true xs ys = refl
  choice false xs ys = refl

  -- what one transition adds at (s,e)
  partner-sum : (q e r : ℕ) → sum_over g (partner_move A B q e r) ≡ if_same (B.source r) e (if_same (B.action r) (A.action q) (g (together q r)) 0) 0
  unfolding partner_move sum_over
  partner-sum q e r =
      of_same (sum_over g) (B.source r) e (if_same (B.action r) (A.action q) (together q r ∷ []) []) []
      ∙ ap (λ (k : ℕ). if_same (B.source r) e k 0)
      (of_same (sum_over g) (B.action r) (A.action q) (together q r ∷ []) []
      ∙ ap (λ (k : ℕ). if_same (B.action r) (A.action q) k 0) (one-move (together q r)))

  left_at : (e q : ℕ) → ℕ
  left_at e q =
      if_true (is_shared A B (A.action q)) (sum B.transitions (λ r. if_same (B.source r) e (if_same (B.action r) (A.action q) (g (together q r)) 0) 0))
      (g (left_alone q e))

  left-sum : (s e q : ℕ) → sum_over g (left_move A B s e q) ≡ if_same (A.source q) s (left_at e q) 0
  unfolding left_move left_at sum_over
  left-sum s e q =
      of_same (sum_over g) (A.source q) s (if_true (is_shared A B (A.action q)) (gathered B.transitions (partner_move A B q e)) (left_alone q e ∷ [])) []
      ∙ ap (λ (k : ℕ). if_same (A.source q) s k 0)
      (choice (is_shared A B (A.action q)) (gathered B.transitions (partner_move A B q e)) (left_alone q e ∷ [])
      ∙ ap₂ (λ (i j : ℕ). if_true (is_shared A B (A.action q)) i j)
      (gathered-sum g B.transitions (partner_move A B q e) ∙ sum_cong B.transitions _ _ (λ r l. partner-sum q e r))
      (one-move (left_alone q e)))

  right_at : (s r : ℕ) → ℕ
  right_at s r = if_true (is_shared A B (B.action r)) 0 (g (right_alone s r))

  right-sum : (s e r : ℕ) → sum_over g (right_move A B s e r) ≡ if_same (B.source r) e (right_at s r) 0
  unfolding right_move right_at sum_over
  right-sum s e r =
      of_same (sum_over g) (B.source r) e (if_true (is_shared A B (B.action r)) [] (right_alone s r ∷ [])) []
      ∙ ap (λ (k : ℕ). if_same (B.source r) e k 0)
      (choice (is_shared A B (B.action r)) [] (right_alone s r ∷ [])
      ∙ ap (λ (k : ℕ). if_true (is_shared A B (B.action r)) 0 k) (one-move (right_alone s r)))

  from-sum : (s e : ℕ) → sum_over g (moves_from A B s e) ≡ sum A.transitions (λ q. if_same (A.source q) s (left_at e q) 0) + sum B.transitions (λ r. if_same (B.source r) e (right_at s r) 0)
  unfolding moves_from
  from-sum s e =
      sum-append g (gathered A.transitions (left_move A B s e)) (gathered B.transitions (right_move A B s e))
      ∙ ap₂ (λ (i j : ℕ). i + j)
      (gathered-sum g A.transitions (left_move A B s e) ∙ sum_cong A.transitions _ _ (λ q l. left-sum s e q))
      (gathered-sum g B.transitions (right_move A B s e) ∙ sum_cong B.transitions _ _ (λ r l. right-sum s e r))

  module _ (left : (q : ℕ) → q < A.transitions → A.source q < A.states) (right : (r : ℕ) → r < B.transitions → B.source r < B.states) where
    -- at all states
    lefts : sum A.states (λ s. sum B.states (λ e. sum A.transitions (λ q. if_same (A.source q) s (left_at e q) 0))) ≡ sum A.transitions (left_count A B (λ q. sum B.states (λ e. g (left_alone q e))) (λ q r. g (together q r)))
    lefts =
        sum_exchange A.states B.states (λ s e. sum A.transitions (λ q. if_same (A.source q) s (left_at e q) 0))
        ∙ sum_cong B.states _ (λ e. sum A.transitions (left_at e))
        (λ e l. sum-sources A.states A.transitions A.source left (λ s q. left_at e q))
        ∙ sum_exchange B.states A.transitions left_at
        ∙ sum_cong A.transitions (λ q. sum B.states (λ e. left_at e q)) _ (λ q l. of q)
      where
        of : (q : ℕ) → sum B.states (λ e. left_at e q) ≡ left_count A B (λ q. sum B.states (λ e. g (left_alone q e))) (λ q r. g (together q r)) q
        of q = unfold left_at left_count in
            sum-choice B.states (is_shared A B (A.action q)) _ (λ e. g (left_alone q e))
            ∙ ap (λ (k : ℕ). if_true (is_shared A B (A.action q)) k (sum B.states (λ e. g (left_alone q e))))
            (sum-sources B.states B.transitions B.source right (λ e r. if_same (B.action r) (A.action q) (g (together q r)) 0))

    rights : sum A.states (λ s. sum B.states (λ e. sum B.transitions (λ r. if_same (B.source r) e (right_at s r) 0))) ≡ sum B.transitions (right_count A B (λ r. sum A.states (λ s. g (right_alone s r))))
    rights =
        sum_cong A.states _ (λ s. sum B.transitions (right_at s))
        (λ s l. sum-sources B.states B.transitions B.source right (λ e r. right_at s r))
        ∙ sum_exchange A.states B.transitions right_at
        ∙ sum_cong B.transitions (λ r. sum A.states (λ s. right_at s r)) _ (λ r l. of r)
      where
        of : (r : ℕ) → sum A.states (λ s. right_at s r) ≡ right_count A B (λ r. sum A.states (λ s. g (right_alone s r))) r
        of r = unfold right_at right_count in
            sum-choice A.states (is_shared A B (B.action r)) (λ s. 0) (λ s. g (right_alone s r))
            ∙ ap (λ (k : ℕ). if_true (is_shared A B (B.action r)) k (sum A.states (λ s. g (right_alone s r))))
            (sum_zero A.states (λ s. 0) (λ s l. refl))

    -- the moves' numbers, added up
    pub moves-sum : sum_over g (moves_of A B) ≡ pair_count A B (λ q. sum B.states (λ e. g (left_alone q e))) (λ q r. g (together q r)) (λ r. sum A.states (λ s. g (right_alone s r)))
    unfolding moves_of pair_count
    moves-sum =
        gathered-sum g A.states (λ s. gathered B.states (moves_from A B s))
        ∙ sum_cong A.states _ (λ s. sum B.states (λ e. lefts-at s e) + sum B.states (λ e. rights-at s e)) (λ s l.
        gathered-sum g B.states (moves_from A B s) ∙ sum_cong B.states _ (λ e. lefts-at s e + rights-at s e) (λ e k. from-sum s e)
        ∙ sum_add B.states (lefts-at s) (rights-at s))
        ∙ sum_add A.states (λ s. sum B.states (lefts-at s)) (λ s. sum B.states (rights-at s))
        ∙ ap₂ (λ (i j : ℕ). i + j) lefts rights
      where
        lefts-at : (s e : ℕ) → ℕ
        lefts-at s e = sum A.transitions (λ q. if_same (A.source q) s (left_at e q) 0)

        rights-at : (s e : ℕ) → ℕ
        rights-at s e = sum B.transitions (λ r. if_same (B.source r) e (right_at s r) 0)

-- equal numbers, equal counts
module _ (A B : Automaton) where
  pub pairs-same : (left left' : ℕ → ℕ) (pair pair' : ℕ → ℕ → ℕ) (right right' : ℕ → ℕ) → ((q : ℕ) → q < A.transitions → left q ≡ left' q) → ((q r : ℕ) → q < A.transitions → r < B.transitions → pair q r ≡ pair' q r) → ((r : ℕ) → r < B.transitions → right r ≡ right' r) → pair_count A B left pair right ≡ pair_count A B left' pair' right'
  unfolding pair_count left_count right_count
  pairs-same left left' pair pair' right right' l p r =
      ap₂ (λ (i j : ℕ). i + j)
      (sum_cong A.transitions _ _ (λ q h. ap₂ (λ (i j : ℕ). if_true (is_shared A B (A.action q)) i j)
      (sum_cong B.transitions _ _ (λ u k. ap (λ (i : ℕ). if_same (B.action u) (A.action q) i 0) (p q u h k))) (l q h)))
      (sum_cong B.transitions _ _ (λ u k. ap (λ (i : ℕ). if_true (is_shared A B (B.action u)) 0 i) (r u k)))
