-- The questions of judging are document 01's, and no other list is.
use Prim.Native.Nat.{ℕ, zero, suc, ◌+◌, ◌*◌, ◌≤◌, ◌<◌}
use Rattle.std.specs.Prelude.{◌≡◌, refl, ◌≢◌, ◌⊎◌, Bool}
use Rattle.std.proofs.Common.{sym, ◌∙◌, ap₂, inl, inr}
use Rattle.std.proofs.Math.Path.{ap, subst}
use Rattle.std.proofs.Math.Bool.{true, false}
use mathlib.Core.List.{List, [], ◌∷◌, ◌++◌}
use Rattle.std.proofs.Math.ListN.{get_or}
use borrow.Author.Tests.{eqb-true, eq-eqb}
use native.Mathlib.Omega.{arith}
use Rattle.std.proofs.Math.Decide.{ℕ_discrete}
use Rattle.bisimulation.specs.definitions.Choice.{if_same, if_true}
use Rattle.bisimulation.proofs.argument.ChoiceLaws.{same, not_same, is_true, either_same}
use Rattle.bisimulation.specs.definitions.Automaton.{Automaton}
use Rattle.rules.specs.definitions.Certificate.{same_block}
use Rattle.rules.specs.definitions.Judging.{Question, questions_of_pair, questions_of_state, questions_from, questions}
use Rattle.rules.specs.definitions.Accepted.{Among, Asks, question_key, IsQuestions, Ascends, end}

among-left : {X : Type 0} {x : X} (xs ys : List X) → Among x xs → Among x (xs ++ ys)
among-left xs ys (Among.here {xs = rest}) = Among.here
among-left xs ys (Among.there {y = y} {xs = rest} a) = Among.there (among-left rest ys a)

among-right : {X : Type 0} {x : X} (xs ys : List X) → Among x ys → Among x (xs ++ ys)
among-right [] ys a = a
among-right (y ∷ xs) ys a = Among.there (among-right xs ys a)

among-either : {X : Type 0} (x : X) (xs ys : List X) → Among x (xs ++ ys) → Among x xs ⊎ Among x ys
among-either x [] ys a = inr a
among-either x (y ∷ xs) ys (Among.here) = inl Among.here
among-either x (y ∷ xs) ys (Among.there a) = go (among-either x xs ys a)
  where
    go : Among x xs ⊎ Among x ys → Among x (y ∷ xs) ⊎ Among x ys
    go (inl b) = inl (Among.there b)
    go (inr b) = inr b

-- nothing is among nothing, and one thing among itself
not-among : {X : Type 0} (x : X) (xs : List X) → Among x xs → xs ≡ [] → ⊥
not-among x xs (Among.here {xs = rest}) e = let z : ◌≡◌ {A = ℕ} 0 1 = cc in omega arith
not-among x xs (Among.there {y = y} {xs = rest} a) e = let z : ◌≡◌ {A = ℕ} 0 1 = cc in omega arith

among-cons : {X : Type 0} (x y : X) (ys : List X) → Among x (y ∷ ys) → (x ≡ y) ⊎ Among x ys
among-cons x y ys (Among.here) = inl refl
among-cons x y ys (Among.there a) = inr a

-- numbers that ascend from a lowest value on and stay below another
AscendsTo : {X : Type 0} → (X → ℕ) → ℕ → ℕ → List X → Type 0
AscendsTo number lo hi [] = lo ≤ hi
AscendsTo number lo hi (x ∷ xs) = (lo ≤ number x) × AscendsTo number (number x + 1) hi xs

lower : {X : Type 0} (number : X → ℕ) (xs : List X) (low lo hi : ℕ) → low ≤ lo → AscendsTo number lo hi xs → AscendsTo number low hi xs
unfolding AscendsTo
lower number [] low lo hi l h = omega arith
lower number (x ∷ xs) low lo hi l h = (omega (arith, h.0), h.1)

joined : {X : Type 0} (number : X → ℕ) (xs ys : List X) (lo mid hi : ℕ) → AscendsTo number lo mid xs → AscendsTo number mid hi ys → AscendsTo number lo hi (xs ++ ys)
unfolding AscendsTo
joined number [] ys lo mid hi h k = lower number ys lo mid hi h k
joined number (x ∷ xs) ys lo mid hi h k = (h.0, joined number xs ys (number x + 1) mid hi h.1 k)

ascends : {X : Type 0} (number : X → ℕ) (xs : List X) (lo hi : ℕ) → AscendsTo number lo hi xs → Ascends number lo xs
unfolding AscendsTo
ascends number [] lo hi h = Ascends.end
ascends number (x ∷ xs) lo hi h = Ascends.next h.0 (ascends number xs (number x + 1) hi h.1)

abbrev ask : (q t : ℕ) → Question
ask q t = record { challenger = q; defender = t }

module _ (A : Automaton) (blocks : List ℕ) where
  -- the questions stand in order
  AscendKeys : ℕ → ℕ → List Question → Type 0
  AscendKeys lo hi xs = AscendsTo (question_key A) lo hi xs

  one-question : (s t b r : ℕ) → ((q : ℕ) → A.source q ≡ s → question_key A (ask q t) ≡ b + q) → AscendKeys (b + r) (b + (r + 1)) (if_same (A.source r) s (ask r t ∷ []) [])
  unfolding AscendsTo AscendKeys
  one-question s t b r key = go (ℕ_discrete (A.source r) s)
    where
      go : Dec (A.source r ≡ s) → AscendKeys (b + r) (b + (r + 1)) (if_same (A.source r) s (ask r t ∷ []) [])
      go (yes e) = subst (AscendKeys (b + r) (b + (r + 1))) (same [] e refl) (omega (arith, key r e), omega (arith, key r e))
      go (no n) = subst (AscendKeys (b + r) (b + (r + 1))) (not_same (ask r t ∷ []) n refl) (omega arith)

  pair-order : (s t b : ℕ) → ((q : ℕ) → A.source q ≡ s → question_key A (ask q t) ≡ b + q) → (left r : ℕ) → AscendKeys (b + r) (b + (r + left)) (questions_of_pair A s t left r)
  unfolding questions_of_pair AscendsTo AscendKeys
  pair-order s t b key zero r = omega arith
  pair-order s t b key (suc left) r =
      let e : r + 1 + left ≡ r + suc left = omega arith in
      joined (question_key A) (if_same (A.source r) s (ask r t ∷ []) []) (questions_of_pair A s t left (r + 1)) (b + r) (b + (r + 1)) (b + (r + suc left)) (one-question s t b r key)
      (subst (λ (k : ℕ). AscendKeys (b + (r + 1)) (b + k) (questions_of_pair A s t left (r + 1))) e (pair-order s t b key left (r + 1)))

  base : ℕ → ℕ → ℕ
  base s t = (s * A.states + t) * A.transitions

  key-is : (s t q : ℕ) → A.source q ≡ s → question_key A (ask q t) ≡ base s t + q
  unfolding question_key base
  key-is s t q e = ap (λ (x : ℕ). (x * A.states + t) * A.transitions + q) e

  pair-part : (s t : ℕ) → AscendKeys (base s t) (base s (t + 1)) (if_same s t [] (if_true (same_block blocks s t) (questions_of_pair A s t A.transitions 0) []))
  unfolding AscendsTo AscendKeys base if_true
  pair-part s t = either_same (AscendKeys (base s t) (base s (t + 1))) s t (omega arith) (go (same_block blocks s t))
    where
      go : (c : Bool) → AscendKeys (base s t) (base s (t + 1)) (if_true c (questions_of_pair A s t A.transitions 0) [])
      go false = omega arith
      go true =
          let lo : base s t + 0 ≡ base s t = omega arith in
          let hi : base s t + (0 + A.transitions) ≡ base s (t + 1) = omega arith in
          subst (λ (k : ℕ). AscendKeys (base s t) k (questions_of_pair A s t A.transitions 0)) hi
          (subst (λ (k : ℕ). AscendKeys k (base s t + (0 + A.transitions)) (questions_of_pair A s t A.transitions 0)) lo
          (pair-order s t (base s t) (key-is s t) A.transitions 0))

  state-order : (s left t : ℕ) → AscendKeys (base s t) (base s (t + left)) (questions_of_state A blocks s left t)
  unfolding questions_of_state AscendsTo AscendKeys base
  state-order s zero t = omega arith
  state-order s (suc left) t =
      let e : t + 1 + left ≡ t + suc left = omega arith in
      joined (question_key A) (if_same s t [] (if_true (same_block blocks s t) (questions_of_pair A s t A.transitions 0) [])) (questions_of_state A blocks s left (t + 1)) (base s t) (base s (t + 1)) (base s (t + suc left)) (pair-part s t)
      (subst (λ (k : ℕ). AscendKeys (base s (t + 1)) (base s k) (questions_of_state A blocks s left (t + 1))) e (state-order s left (t + 1)))

  all-order : (left s : ℕ) → AscendKeys (base s 0) (base (s + left) 0) (questions_from A blocks left s)
  unfolding questions_from AscendsTo AscendKeys base
  all-order zero s = let e : s + 0 ≡ s = omega arith in omega (arith, ap (λ (k : ℕ). base k 0) e)
  all-order (suc left) s =
      let e : s + 1 + left ≡ s + suc left = omega arith in
      let f : base s (0 + A.states) ≡ base (s + 1) 0 = omega arith in
      joined (question_key A) (questions_of_state A blocks s A.states 0) (questions_from A blocks left (s + 1)) (base s 0) (base (s + 1) 0) (base (s + suc left) 0)
      (subst (λ (k : ℕ). AscendKeys (base s 0) k (questions_of_state A blocks s A.states 0)) f (state-order s A.states 0))
      (subst (λ (k : ℕ). AscendKeys (base (s + 1) 0) (base k 0) (questions_from A blocks left (s + 1))) e (all-order left (s + 1)))

  -- each of the questions is asked
  in_pair : (s t left r q : ℕ) → r ≤ q → q < r + left → A.source q ≡ s → Among (ask q t) (questions_of_pair A s t left r)
  unfolding questions_of_pair
  in_pair s t zero r q low high e = absurd (omega arith)
  in_pair s t (suc left) r q low high e = go (λ l. in_pair s t left (r + 1) q l (omega arith) e) (ℕ_discrete r q)
    where
      go : (r + 1 ≤ q → Among (ask q t) (questions_of_pair A s t left (r + 1))) → Dec (r ≡ q) → Among (ask q t) (if_same (A.source r) s (ask r t ∷ []) [] ++ questions_of_pair A s t left (r + 1))
      go rest (no n) = among-right (if_same (A.source r) s (ask r t ∷ []) []) (questions_of_pair A s t left (r + 1)) (rest (omega arith))
      go rest (yes p) =
          among-left (if_same (A.source r) s (ask r t ∷ []) []) (questions_of_pair A s t left (r + 1))
          (subst (Among (ask q t)) (same [] (ap A.source p ∙ e) refl) (subst (λ (k : ℕ). Among (ask k t) (ask r t ∷ [])) p Among.here))

  in-state : (s left t u q : ℕ) → t ≤ u → u < t + left → s ≢ u → get_or blocks s 0 ≡ get_or blocks u 0 → q < A.transitions → A.source q ≡ s → Among (ask q u) (questions_of_state A blocks s left t)
  unfolding questions_of_state same_block
  in-state s zero t u q low high n b l e = absurd (omega arith)
  in-state s (suc left) t u q low high n b l e = go (λ m. in-state s left (t + 1) u q m (omega arith) n b l e) (ℕ_discrete t u)
    where
      go : (t + 1 ≤ u → Among (ask q u) (questions_of_state A blocks s left (t + 1))) → Dec (t ≡ u) → Among (ask q u) (if_same s t [] (if_true (same_block blocks s t) (questions_of_pair A s t A.transitions 0) []) ++ questions_of_state A blocks s left (t + 1))
      go rest (no m) = among-right (if_same s t [] (if_true (same_block blocks s t) (questions_of_pair A s t A.transitions 0) [])) (questions_of_state A blocks s left (t + 1)) (rest (omega arith))
      go rest (yes p) =
          among-left (if_same s t [] (if_true (same_block blocks s t) (questions_of_pair A s t A.transitions 0) [])) (questions_of_state A blocks s left (t + 1))
          (subst (λ (k : ℕ). Among (ask q u) (if_same s k [] (if_true (same_block blocks s k) (questions_of_pair A s k A.transitions 0) []))) (sym p)
          (subst (Among (ask q u)) (not_same [] n (is_true [] (eq-eqb _ _ b) refl)) (in_pair s u A.transitions 0 q (omega arith) (omega arith) e)))

  in-questions : (left s v u q : ℕ) → s ≤ v → v < s + left → u < A.states → v ≢ u → get_or blocks v 0 ≡ get_or blocks u 0 → q < A.transitions → A.source q ≡ v → Among (ask q u) (questions_from A blocks left s)
  unfolding questions_from
  in-questions zero s v u q low high k n b l e = absurd (omega arith)
  in-questions (suc left) s v u q low high k n b l e = go (λ m. in-questions left (s + 1) v u q m (omega arith) k n b l e) (ℕ_discrete s v)
    where
      go : (s + 1 ≤ v → Among (ask q u) (questions_from A blocks left (s + 1))) → Dec (s ≡ v) → Among (ask q u) (questions_of_state A blocks s A.states 0 ++ questions_from A blocks left (s + 1))
      go rest (no m) = among-right (questions_of_state A blocks s A.states 0) (questions_from A blocks left (s + 1)) (rest (omega arith))
      go rest (yes p) =
          among-left (questions_of_state A blocks s A.states 0) (questions_from A blocks left (s + 1))
          (subst (λ (x : ℕ). Among (ask q u) (questions_of_state A blocks x A.states 0)) (sym p) (in-state v A.states 0 u q (omega arith) (omega arith) n b l e))

  -- 'for each ordered pair (s,t) of different states in one block .. and for each transition of s'
  asked : (v u q : ℕ) → v < A.states → u < A.states → v ≢ u → get_or blocks v 0 ≡ get_or blocks u 0 → q < A.transitions → A.source q ≡ v → Among (ask q u) (questions A blocks)
  unfolding questions
  asked v u q h k n b l e = in-questions A.states 0 v u q (omega arith) (omega arith) k n b l e

  -- and nothing else is
  record InPair (s t lo hi : ℕ) (x : Question) : Type 0 where
    pub source : A.source x.challenger ≡ s
    pub defender : x.defender ≡ t
    pub low : lo ≤ x.challenger
    pub high : x.challenger < hi

  only_one : (s t r : ℕ) (x : Question) → Among x (if_same (A.source r) s (ask r t ∷ []) []) → InPair s t r (r + 1) x
  only_one s t r x a = go (ℕ_discrete (A.source r) s)
    where
      is : A.source r ≡ s → (x ≡ ask r t) ⊎ Among x [] → InPair s t r (r + 1) x
      is e (inl q) =
          let c = ap (λ (y : Question). y.challenger) q in
          record { source = ap A.source c ∙ e; defender = ap (λ (y : Question). y.defender) q; low = omega arith; high = omega arith }
      is e (inr b) = absurd (not-among x [] b refl)

      go : Dec (A.source r ≡ s) → InPair s t r (r + 1) x
      go (yes e) = is e (among-cons x (ask r t) [] (subst (Among x) (sym (same [] e refl)) a))
      go (no n) = absurd (not-among x _ a (sym (not_same (ask r t ∷ []) n refl)))

  only-pair : (s t left r : ℕ) (x : Question) → Among x (questions_of_pair A s t left r) → InPair s t r (r + left) x
  unfolding questions_of_pair
  only-pair s t zero r x a = absurd (not-among x [] a refl)
  only-pair s t (suc left) r x a = go (only-pair s t left (r + 1) x) (among-either x (if_same (A.source r) s (ask r t ∷ []) []) (questions_of_pair A s t left (r + 1)) a)
    where
      go : (Among x (questions_of_pair A s t left (r + 1)) → InPair s t (r + 1) (r + 1 + left) x) → Among x (if_same (A.source r) s (ask r t ∷ []) []) ⊎ Among x (questions_of_pair A s t left (r + 1)) → InPair s t r (r + suc left) x
      go rest (inl b) = let i = only_one s t r x b in record { source = i.source; defender = i.defender; low = i.low; high = omega (arith, i.high) }
      go rest (inr b) = let i = rest b in record { source = i.source; defender = i.defender; low = omega (arith, i.low); high = omega (arith, i.high) }

  record InState (s lo hi : ℕ) (x : Question) : Type 0 where
    pub source : A.source x.challenger ≡ s
    pub low : lo ≤ x.defender
    pub high : x.defender < hi
    pub transition : x.challenger < A.transitions
    pub different : s ≢ x.defender
    pub together : get_or blocks s 0 ≡ get_or blocks x.defender 0

  only_part : (s t : ℕ) (x : Question) → Among x (if_same s t [] (if_true (same_block blocks s t) (questions_of_pair A s t A.transitions 0) [])) → InState s t (t + 1) x
  unfolding same_block if_true
  only_part s t x a = go (ℕ_discrete s t)
    where
      found : s ≢ t → (c : Bool) → same_block blocks s t ≡ c → Among x (if_true c (questions_of_pair A s t A.transitions 0) []) → InState s t (t + 1) x
      found n false e b = absurd (not-among x [] b refl)
      found n true e b =
          let i = only-pair s t A.transitions 0 x b in
          let d = i.defender in
          record {
            source = i.source;
            low = omega arith;
            high = omega arith;
            transition = omega (arith, i.high);
            different = λ q. n (q ∙ d);
            together = eqb-true _ _ e ∙ ap (λ (k : ℕ). get_or blocks k 0) (sym d);
          }

      go : Dec (s ≡ t) → InState s t (t + 1) x
      go (yes e) = absurd (not-among x _ a (sym (same (if_true (same_block blocks s t) (questions_of_pair A s t A.transitions 0) []) e refl)))
      go (no n) = found n (same_block blocks s t) refl (subst (Among x) (sym (not_same [] n refl)) a)

  only-state : (s left t : ℕ) (x : Question) → Among x (questions_of_state A blocks s left t) → InState s t (t + left) x
  unfolding questions_of_state
  only-state s zero t x a = absurd (not-among x [] a refl)
  only-state s (suc left) t x a = go (only-state s left (t + 1) x) (among-either x (if_same s t [] (if_true (same_block blocks s t) (questions_of_pair A s t A.transitions 0) [])) (questions_of_state A blocks s left (t + 1)) a)
    where
      wider : (lo hi : ℕ) → t ≤ lo → hi ≤ t + suc left → InState s lo hi x → InState s t (t + suc left) x
      wider lo hi l h i =
          record { source = i.source; low = omega (arith, i.low); high = omega (arith, i.high); transition = i.transition; different = i.different; together = i.together }

      go : (Among x (questions_of_state A blocks s left (t + 1)) → InState s (t + 1) (t + 1 + left) x) → Among x (if_same s t [] (if_true (same_block blocks s t) (questions_of_pair A s t A.transitions 0) [])) ⊎ Among x (questions_of_state A blocks s left (t + 1)) → InState s t (t + suc left) x
      go rest (inl b) = wider t (t + 1) (omega arith) (omega arith) (only_part s t x b)
      go rest (inr b) = wider (t + 1) (t + 1 + left) (omega arith) (omega arith) (rest b)

  only-asked : (left s : ℕ) → s + left ≤ A.states → (x : Question) → Among x (questions_from A blocks left s) → Asks A blocks x
  unfolding questions_from
  only-asked zero s h x a = absurd (not-among x [] a refl)
  only-asked (suc left) s h x a = go (only-asked left (s + 1) (omega arith) x) (among-either x (questions_of_state A blocks s A.states 0) (questions_from A blocks left (s + 1)) a)
    where
      go : (Among x (questions_from A blocks left (s + 1)) → Asks A blocks x) → Among x (questions_of_state A blocks s A.states 0) ⊎ Among x (questions_from A blocks left (s + 1)) → Asks A blocks x
      go rest (inr b) = rest b
      go rest (inl b) =
          let i = only-state s A.states 0 x b in
          let e = i.source in
          record {
            transition = i.transition;
            first = omega arith;
            second = omega (arith, i.high);
            different = λ q. i.different (sym e ∙ q);
            together = ap (λ (k : ℕ). get_or blocks k 0) e ∙ i.together;
          }

  -- judging asks document 01's questions
  pub questions-asked : IsQuestions A blocks (questions A blocks)
  unfolding questions base AscendsTo AscendKeys
  questions-asked =
      record {
        only = only-asked A.states 0 (omega arith);
        all = λ x a. asked (A.source x.challenger) x.defender x.challenger a.first a.second a.different a.together a.transition refl;
        order =
            let e : base 0 0 ≡ 0 = omega arith in
            subst (λ (k : ℕ). Ascends (question_key A) k (questions_from A blocks A.states 0)) e (ascends (question_key A) (questions_from A blocks A.states 0) (base 0 0) (base (0 + A.states) 0) (all-order A.states 0));
      }

-- two lists that ascend and have the same elements are one
above : {X : Type 0} (number : X → ℕ) (x : X) (xs : List X) (lo : ℕ) → Ascends number lo xs → Among x xs → lo ≤ number x
above {X = X} number x _ _ (end {lowest = lowest}) x5 = elim x5 [ ]
above number x xs lo (Ascends.next {x = y} {xs = rest} l a) (Among.here) = l
above number x xs lo (Ascends.next {x = y} {xs = rest} l a) (Among.there b) = omega (arith, above number x rest (number y + 1) a b)

same_head : {X : Type 0} (number : X → ℕ) (x y : X) (xs ys : List X) → Ascends number (number x + 1) xs → Ascends number (number y + 1) ys → (x ≡ y) ⊎ Among x ys → (y ≡ x) ⊎ Among y xs → x ≡ y
same_head number x y xs ys a b (inl e) j = e
same_head number x y xs ys a b (inr i) (inl e) = sym e
same_head number x y xs ys a b (inr i) (inr j) = absurd (omega (arith, above number x ys (number y + 1) b i, above number y xs (number x + 1) a j))

in_tail : {X : Type 0} (number : X → ℕ) (x y z : X) (xs ys : List X) → x ≡ y → Ascends number (number x + 1) xs → Among z xs → (z ≡ y) ⊎ Among z ys → Among z ys
in_tail number x y z xs ys e a i (inr j) = j
in_tail number x y z xs ys e a i (inl q) = absurd (omega (arith, above number z xs (number x + 1) a i, ap number q, ap number e))

pub one_list : {X : Type 0} (number : X → ℕ) (xs ys : List X) (lo : ℕ) → Ascends number lo xs → Ascends number lo ys → ((x : X) → Among x xs → Among x ys) → ((x : X) → Among x ys → Among x xs) → xs ≡ ys
one_list number [] [] lo a b f g = refl
one_list number [] (y ∷ ys) lo a b f g = absurd (not-among y [] (g y Among.here) refl)
one_list number (x ∷ xs) [] lo a b f g = absurd (not-among x [] (f x Among.here) refl)
one_list {X} number (x ∷ xs) (y ∷ ys) lo (Ascends.next l a) (Ascends.next m b) f g =
    let e = same_head number x y xs ys a b (among-cons x y ys (f x Among.here)) (among-cons y x xs (g y Among.here)) in
    ap₂ ◌∷◌ e
    (one_list number xs ys (number x + 1) a (subst (λ (z : X). Ascends number (number z + 1) ys) (sym e) b)
    (λ z i. in_tail number x y z xs ys e a i (among-cons z y ys (f z (Among.there i))))
    (λ z i. in_tail number y x z ys xs (sym e) b i (among-cons z x xs (g z (Among.there i)))))

-- no other list is
pub questions-only : (A : Automaton) (blocks : List ℕ) (xs : List Question) → IsQuestions A blocks xs → xs ≡ questions A blocks
questions-only A blocks xs q =
    let p = questions-asked A blocks in
    one_list (question_key A) xs (questions A blocks) 0 q.order p.order (λ x a. p.all x (q.only x a)) (λ x a. q.all x (p.only x a))
