-- A transition of the left and one of the right as one: it keeps the rules where both do, and is in lowest terms where both are.
use Prim.Native.Nat.{ℕ, suc, ◌+◌, ◌*◌, ◌≤◌, ◌<◌}
use Rattle.std.specs.Prelude.{◌≡◌}
use Rattle.std.proofs.Common.{sym, ◌∙◌, ap, subst, mul_comm, zero-mul, one-mul}
use Rattle.std.proofs.Math.Path.{ap₂}
use mathlib.Core.List.{List, [], ◌∷◌, map}
use native.Mathlib.Omega.{arith}
use Rattle.std.proofs.Math.Nat.{mul-pos, mul-le-mul, mul-le-mul_left}
use Rattle.bisimulation.specs.definitions.Composed.{state_at}
use Rattle.numbers.specs.definitions.Divisor.{divisor_of, Divides}
use Rattle.numbers.proofs.argument.DivisorLaws.{DividesEach, divides-zero, divisor_of-greatest, divisor_of-times, divides-each-other, one-divides}
use Rattle.rules.specs.definitions.Limits.{Terms, any_terms, lowest_terms}
use Rattle.rules.specs.definitions.Model.{Entry, Transition}
use Rattle.rules.specs.definitions.SoundModel.{Each, Along, sum_over, highest_denominator, TransitionRules, LowestTerms, HasTerms}
use Rattle.rules.specs.definitions.LowestTerms.{divisor_in}
use Rattle.rules.proofs.argument.MappedLists.{sum-append, each-mapped}
use Rattle.rules.proofs.argument.SoundModelLaws.{each_append, each-parts, From, from-along, StatesFrom}
use Rattle.rules.proofs.argument.TermsLaws.{lowest-divisor, DividesWeights}
use Rattle.composition.specs.definitions.Composition.{pair_entry, pair_entries, pair_transition, still}
use Rattle.composition.proofs.argument.PairEntriesLaws.{pair-length}
use Rattle.composition.proofs.argument.Spans.{Span, span-append, span-along}

-- (v,x) is below every (u,y) with v below u
pair-below : (n v u x : ℕ) → v < u → x < n → state_at n v x < u * n
unfolding state_at
pair-below n v u x l k =
    let whole : suc v ≤ u = omega (arith, l) in
    omega (arith, mul-le-mul_left n whole, k)

-- what divides c times each of some numbers without a common divisor above 1 divides c
divides-factor : (k c : ℕ) (xs : List ℕ) → divisor_of 0 xs ≡ 1 → DividesEach k (map (λ (x : ℕ). x * c) xs) → Divides k c
divides-factor k c xs low d =
    subst (Divides k) (divisor_of-times c 0 xs ∙ ap (λ (g : ℕ). g * c) low ∙ one-mul c)
    ((divisor_of-greatest (0 * c) (map (λ (x : ℕ). x * c) xs)).greatest k (subst (Divides k) (sym (zero-mul c)) (divides-zero k)) d)

-- 'Entry states strictly ascend', between two bounds
abbrev StatesSpan : (low high : ℕ) → List Entry → Type 0
StatesSpan = Span (λ (e : Entry). e.state) (λ (e : Entry). suc e.state)

module _ (n : ℕ) where
  -- the entries of one entry of the left
  module _ (e : Entry) where
    row-span : (low first : ℕ) (fs : List Entry) → first ≤ e.state * n + low → low ≤ n → StatesFrom low fs → Each (λ (f : Entry). f.state < n) fs → StatesSpan first (suc e.state * n) (map (pair_entry n e) fs)
    unfolding From Span Each pair_entry state_at
    row-span low first [] le inside h below = omega (arith, le, inside)
    row-span low first (f ∷ fs) le inside h below = (omega (arith, le, h.0), row-span (suc f.state) _ fs (omega arith) below.0 h.1 below.1)

    row-sum : (fs : List Entry) → sum_over (λ (x : Entry). x.weight) (map (pair_entry n e) fs) ≡ e.weight * sum_over (λ (x : Entry). x.weight) fs
    unfolding sum_over pair_entry
    row-sum [] = omega arith
    row-sum (f ∷ fs) = omega (arith, row-sum fs)

    row-divides : (k : ℕ) (fs : List Entry) → DividesWeights k (map (pair_entry n e) fs) → DividesEach k (map (λ (x : ℕ). x * e.weight) (map (λ (x : Entry). x.weight) fs))
    unfolding Each DividesEach pair_entry
    row-divides k [] d = tt
    row-divides k (f ∷ fs) d = (subst (Divides k) (mul_comm e.weight f.weight) d.0, row-divides k fs d.1)

  -- what holds of each pair
  pairs-each : (P Q R : Entry → Type 0) → ((e f : Entry) → P e → Q f → R (pair_entry n e f)) → (es fs : List Entry) → Each P es → Each Q fs → Each R (pair_entries n es fs)
  unfolding Each pair_entries
  pairs-each P Q R make [] fs h k = tt
  pairs-each P Q R make (e ∷ es) fs h k =
      each_append R (map (pair_entry n e) fs) (pair_entries n es fs) (each-mapped (pair_entry n e) Q R (λ f. make e f h.0) fs k)
      (pairs-each P Q R make es fs h.1 k)

  pairs-sum : (es fs : List Entry) → sum_over (λ (x : Entry). x.weight) (pair_entries n es fs) ≡ sum_over (λ (x : Entry). x.weight) es * sum_over (λ (x : Entry). x.weight) fs
  unfolding pair_entries sum_over
  pairs-sum [] fs = omega arith
  pairs-sum (e ∷ es) fs =
      omega (arith, sum-append (λ (x : Entry). x.weight) (map (pair_entry n e) fs) (pair_entries n es fs), row-sum e fs, pairs-sum es fs)

  pairs-span : (top low first : ℕ) (es fs : List Entry) → first ≤ low * n → low ≤ top → StatesFrom low es → Each (λ (e : Entry). e.state < top) es → StatesFrom 0 fs → Each (λ (f : Entry). f.state < n) fs → StatesSpan first (top * n) (pair_entries n es fs)
  unfolding From Span Each pair_entries
  pairs-span top low first [] fs le inside h known g below = omega (arith, le, mul-le-mul_left n inside)
  pairs-span top low first (e ∷ es) fs le inside h known g below =
      span-append (λ (x : Entry). x.state) (λ (x : Entry). suc x.state) (map (pair_entry n e) fs) (pair_entries n es fs) first (suc e.state * n) (top * n)
      (row-span e 0 first fs (omega (arith, le, mul-le-mul_left n h.0)) (omega arith) g below)
      (pairs-span top (suc e.state) (suc e.state * n) es fs (omega arith) known.0 h.1 known.1 g below)

  -- what divides each product divides each factor of the left, where the right is in lowest terms
  pairs-divide : (k : ℕ) (es fs : List Entry) → divisor_of 0 (map (λ (x : Entry). x.weight) fs) ≡ 1 → DividesWeights k (pair_entries n es fs) → DividesWeights k es
  unfolding Each pair_entries
  pairs-divide k [] fs low d = tt
  pairs-divide k (e ∷ es) fs low d =
      let parts = each-parts _ (map (pair_entry n e) fs) (pair_entries n es fs) d in
      (divides-factor k e.weight _ low (row-divides e k fs parts.0), pairs-divide k es fs low parts.1)

module _ (n_l n_r m_l m_r m : ℕ) (t u : Transition) (r : TransitionRules n_l m_l t) (s : TransitionRules n_r m_r u) where
  -- it keeps the rules of the pairs of states
  pub pair-rules : t.action < m → t.denominator * u.denominator ≤ highest_denominator → TransitionRules (n_l * n_r) m (pair_transition n_r t u)
  unfolding pair_transition
  pair-rules action fits =
      let es = t.entries in
      let fs = u.entries in
      let size = pair-length n_r es fs in
      record {
        source = pair-below n_r t.source n_l u.source r.source s.source;
        action = action;
        positive = mul-pos r.positive s.positive;
        fits = fits;
        some = omega (arith, size, mul-pos r.some s.some);
        most = omega (arith, size, mul-le-mul r.most s.most);
        states = pairs-each n_r (λ (e : Entry). e.state < n_l) (λ (f : Entry). f.state < n_r) (λ (x : Entry). x.state < n_l * n_r) state es fs r.states s.states;
        ascend =
            span-along _ _ (pair_entries n_r es fs) 0 (n_l * n_r)
            (pairs-span n_r n_l 0 0 es fs (omega arith) (omega arith) (from-along _ _ es r.ascend) r.states (from-along _ _ fs s.ascend) s.states);
        weights = pairs-each n_r (λ (e : Entry). 1 ≤ e.weight) (λ (f : Entry). 1 ≤ f.weight) (λ (x : Entry). 1 ≤ x.weight) weight es fs r.weights s.weights;
        whole = pairs-sum n_r es fs ∙ ap₂ (λ (a b : ℕ). a * b) r.whole s.whole;
      }
    where
      state : (e f : Entry) → e.state < n_l → f.state < n_r → (pair_entry n_r e f).state < n_l * n_r
      state e f h k = unfold pair_entry in pair-below n_r e.state n_l f.state h k

      weight : (e f : Entry) → 1 ≤ e.weight → 1 ≤ f.weight → 1 ≤ (pair_entry n_r e f).weight
      weight e f h k = unfold pair_entry in mul-pos h k

-- and is in lowest terms
pub pair-terms : (terms : Terms) (n_r : ℕ) (t u : Transition) → HasTerms terms t → HasTerms terms u → HasTerms terms (pair_transition n_r t u)
unfolding HasTerms LowestTerms pair_transition divisor_in
pair-terms any_terms n_r t u h k = tt
pair-terms lowest_terms n_r t u h k = λ g d. h g (pairs-divide n_r g t.entries u.entries ((lowest-divisor u).0 k) d)

-- a side that stands still
pub still-rules : (n m a s : ℕ) → s < n → a < m → TransitionRules n m (still a s)
unfolding still Each Along sum_over
still-rules n m a s known action =
    record {
      source = known;
      action = action;
      positive = omega arith;
      fits = omega arith;
      some = omega arith;
      most = omega arith;
      states = (known, tt);
      ascend = tt;
      weights = (omega arith, tt);
      whole = omega arith;
    }

pub still-terms : (terms : Terms) (a s : ℕ) → HasTerms terms (still a s)
unfolding HasTerms LowestTerms still Each
still-terms any_terms a s = tt
still-terms lowest_terms a s = λ k d. divides-each-other d.0 (one-divides k)
