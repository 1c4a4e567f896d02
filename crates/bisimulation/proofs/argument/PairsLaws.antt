-- The laws of the related pairs.
use Rattle.std.specs.Prelude.{ℕ, ◌≡◌, refl, Bool, true, false, cond, eqb}
use Rattle.std.proofs.Common.{eq-eqb, eqb-true, arith}
use Rattle.bisimulation.proofs.argument.ChoiceLaws.{both_true, true-both}
use Rattle.bisimulation.specs.definitions.Automaton.{Automaton}
use Rattle.bisimulation.specs.definitions.Pairs.{Pairs, equal_labels, is_pair, removed}

-- equal labels
pub equal_labels_of : (A : Automaton) (v u : ℕ) → A.label v ≡ A.label u → equal_labels A v u ≡ true
unfolding equal_labels
equal_labels_of A v u e = eq-eqb (A.label v) (A.label u) e

pub labels_equal : (A : Automaton) (v u : ℕ) → equal_labels A v u ≡ true → A.label v ≡ A.label u
unfolding equal_labels
labels_equal A v u e = eqb-true (A.label v) (A.label u) e

-- what the test of a pair tells, and when it holds
pub is_pair_true : (s t v u : ℕ) → is_pair s t v u ≡ true → (v ≡ s) × (u ≡ t)
unfolding is_pair
is_pair_true s t v u e = let b = both_true (eqb v s) (eqb u t) e in (eqb-true v s b.0, eqb-true u t b.1)

pub is_pair_of : (s t v u : ℕ) → v ≡ s → u ≡ t → is_pair s t v u ≡ true
unfolding is_pair
is_pair_of s t v u e f = true-both (eq-eqb v s e) (eq-eqb u t f)

-- (v,u) is neither (s,t) nor (t,s)
pub record OtherPair (s t v u : ℕ) : Type 0 where
  pub straight : v ≡ s → u ≡ t → ⊥
  pub turned : v ≡ t → u ≡ s → ⊥

pub other_pair_turned : {s t v u : ℕ} → OtherPair s t v u → OtherPair s t u v
other_pair_turned o = record { straight = λ e f. o.turned f e; turned = λ e f. o.straight f e }

-- another pair than the removed one is kept
pub removed_keeps : (s t : ℕ) (R : Pairs) (v u : ℕ) → OtherPair s t v u → R v u ≡ true → removed s t R v u ≡ true
unfolding removed
removed_keeps s t R v u o e = go (is_pair s t v u) (is_pair t s v u) refl refl
  where
    go : (a b : Bool) → is_pair s t v u ≡ a → is_pair t s v u ≡ b → cond a false (cond b false (R v u)) ≡ true
    go true b p q = let x = is_pair_true s t v u p in absurd (o.straight x.0 x.1)
    go false true p q = let x = is_pair_true t s v u q in absurd (o.turned x.0 x.1)
    go false false p q = e

-- what is left was there, and is another pair
pub removed_left : (s t : ℕ) (R : Pairs) (v u : ℕ) → removed s t R v u ≡ true → OtherPair s t v u × (R v u ≡ true)
unfolding removed
removed_left s t R v u = go (is_pair s t v u) (is_pair t s v u) refl refl
  where
    other : {a : Bool} → a ≡ true → a ≡ false → ⊥
    other p q = let z : ◌≡◌ {A = ℕ} 0 1 = cc in omega arith

    go : (a b : Bool) → is_pair s t v u ≡ a → is_pair t s v u ≡ b → cond a false (cond b false (R v u)) ≡ true → OtherPair s t v u × (R v u ≡ true)
    go true b p q e = absurd (other e refl)
    go false true p q e = absurd (other e refl)
    go false false p q e = (record { straight = λ x y. other (is_pair_of s t v u x y) p; turned = λ x y. other (is_pair_of t s v u x y) q }, e)
