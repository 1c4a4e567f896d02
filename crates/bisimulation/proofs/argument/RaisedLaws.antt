-- The laws of raised prices. Since the weights of a transition add up to its denominator, raised prices satisfy the conditions that the
-- prices do.
use Rattle.std.specs.Prelude.{ℕ, zero, suc, ◌+◌, ◌*◌, ◌-◌, ◌≤◌, ◌<◌, ◌≡◌, refl, Bool, true, false, cond, ℤ, pos, negsuc, neg_ℤ, nat_abs, ◌+ℤ◌, ◌*ℤ◌, ◌≤ℤ◌, ◌<ℤ◌, ltb}
use Rattle.std.proofs.Common.{◌∙◌, leb→le, ltb→lt, ltb-true, ltb-false, arith}
use Rattle.std.proofs.Math.Path.{ap, subst}
use Rattle.std.proofs.Math.IntN.{sub_ℕ}
use Rattle.bisimulation.specs.definitions.Sum.{sum, sumℤ}
use Rattle.bisimulation.proofs.argument.SumLaws.{sum_times_right, term_le}
use Rattle.bisimulation.specs.definitions.Automaton.{Automaton, SoundTransition}
use Rattle.bisimulation.specs.definitions.Prices.{price_at, price_of_targets}
use Rattle.bisimulation.specs.definitions.Pairs.{Pairs}
use Rattle.bisimulation.specs.definitions.Refutation.{RelatedCondition}
use Rattle.bisimulation.proofs.argument.Value.{value}
use Rattle.bisimulation.proofs.argument.Raised.{Raised, above, below, raise, RaisedBy, magnitudes}

pub raised_le : {c k l : ℕ} {y z : ℤ} → Raised c k y → Raised c l z → y ≤ℤ z → k ≤ l
raised_le (above a p) (above b q) h = omega (arith, leb→le a b h.le)
raised_le (above a p) (below b q) h = absurd h.le
raised_le (below a p) (above b q) h = omega arith
raised_le (below a p) (below b q) h = omega (arith, leb→le b a h.le)

pub raised_lt : {c k l : ℕ} {y z : ℤ} → Raised c k y → Raised c l z → y <ℤ z → k < l
raised_lt (above a p) (above b q) h = omega (arith, ltb→lt a b h.lt)
raised_lt (above a p) (below b q) h = absurd h.lt
raised_lt (below a p) (above b q) h = omega arith
raised_lt (below a p) (below b q) h = omega (arith, ltb→lt b a h.lt)

raised_sub : {c k : ℕ} (a b : ℕ) → c + a ≡ k + b → Raised c k (sub_ℕ a b)
raised_sub {c} {k} a b e = go (ltb a b) refl
  where
    go : (t : Bool) → ltb a b ≡ t → Raised c k (cond t (negsuc (b - suc a)) (pos (a - b)))
    go true h = below (b - suc a) (omega (arith, ltb-true a b h))
    go false h = above (a - b) (omega (arith, ltb-false a b h))

raised_neg : {c k : ℕ} (a : ℕ) → k + a ≡ c → Raised c k (neg_ℤ (pos a))
raised_neg zero e = above 0 (omega arith)
raised_neg (suc a) e = below a e

pub raised_add : {c d k l : ℕ} {y z : ℤ} → Raised c k y → Raised d l z → Raised (c + d) (k + l) (y +ℤ z)
raised_add (above a p) (above b q) = above (a + b) (omega arith)
raised_add (above a p) (below b q) = raised_sub a (suc b) (omega arith)
raised_add (below a p) (above b q) = raised_sub b (suc a) (omega arith)
raised_add (below a p) (below b q) = below (suc (a + b)) (omega arith)

-- raised by m more
pub raised_more : {c k : ℕ} (m : ℕ) {z : ℤ} → Raised c k z → Raised (c + m) (k + m) z
raised_more m (above a p) = above a (omega arith)
raised_more m (below a p) = below a (omega arith)

pub raised_times : {c k : ℕ} (d : ℕ) {z : ℤ} → Raised c k z → Raised (d * c) (d * k) (pos d *ℤ z)
raised_times d (above a p) = above (d * a) (omega (arith, ap (λ (x : ℕ). d * x) p))
raised_times d (below a p) = raised_neg (d * suc a) (omega (arith, ap (λ (x : ℕ). d * x) p))

raised_sum : (n : ℕ) (c g : ℕ → ℕ) (f : ℕ → ℤ) → ((i : ℕ) → i < n → Raised (c i) (g i) (f i)) → Raised (sum n c) (sum n g) (sumℤ n f)
unfolding sum sumℤ
raised_sum zero c g f h = above 0 refl
raised_sum (suc n) c g f h = raised_add (raised_sum n c g f (λ i l. h i (omega arith))) (h n (omega arith))

pub raise_raised : (c : ℕ) (z : ℤ) → nat_abs z ≤ c → Raised c (raise c z) z
unfolding raise
raise_raised c (pos a) l = above a refl
raise_raised c (negsuc a) l = below a (omega arith)

pub magnitudes_enough : (n : ℕ) (p : ℕ → ℤ) (i : ℕ) → i < n → nat_abs (p i) ≤ magnitudes n p
unfolding magnitudes
magnitudes_enough n p i l = term_le n (λ j. nat_abs (p j)) i l

module _ (A : Automaton) (c : ℕ) where
  module _ (X : ℕ → ℤ) (x : RaisedBy A.states c X) where
    pub price_at_raised : (q v : ℕ) → v < A.states → Raised (A.denominator q * c) (A.denominator q * raise c (X v)) (price_at A X q v)
    unfolding price_at
    price_at_raised q v l = raised_times (A.denominator q) (raise_raised c (X v) (x.enough v l))

    pub price_of_targets_raised : (q : ℕ) → SoundTransition A q → Raised (A.denominator q * c) (value A.states (A.weight q) (λ v. raise c (X v))) (price_of_targets A X q)
    unfolding price_of_targets value
    price_of_targets_raised q sound =
        subst (λ (d : ℕ). Raised d (value A.states (A.weight q) (λ v. raise c (X v))) (price_of_targets A X q)) total
        (raised_sum A.states (λ v. A.weight q v * c) _ _ (λ v l. raised_times (A.weight q v) (raise_raised c (X v) (x.enough v l))))
      where
        total : sum A.states (λ v. A.weight q v * c) ≡ A.denominator q * c
        total = sum_times_right A.states c (A.weight q) ∙ ap (λ (d : ℕ). d * c) sound.whole

  module _ {X Y : ℕ → ℤ} (x : RaisedBy A.states c X) (y : RaisedBy A.states c Y) where
    pub related_raised : {R : Pairs} → RelatedCondition A R X Y → (v u : ℕ) → v < A.states → u < A.states → R v u ≡ true → raise c (Y u) ≤ raise c (X v)
    related_raised h v u l k e = raised_le (raise_raised c (Y u) (y.enough u k)) (raise_raised c (X v) (x.enough v l)) (h.holds v u l k e)
