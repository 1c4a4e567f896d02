-- 'The sum of p(v)A(v)' over all states is the sum over a transition's entries.
use Rattle.std.specs.Prelude.{ℕ, zero, suc, ◌<◌, ◌≡◌, refl, List, [], ◌∷◌, ℤ, pos, ◌+ℤ◌, ◌*ℤ◌}
use Rattle.std.proofs.Common.{sym, ◌∙◌, ap, ap₂, arith}
use Rattle.std.proofs.Math.IntN.{+ℤ_assoc, +ℤ_comm, +ℤ_idr, zero-*ℤ}
use Rattle.std.proofs.Math.Decide.{ℕ_discrete}
use Rattle.bisimulation.specs.definitions.Choice.{if_same}
use Rattle.bisimulation.proofs.argument.ChoiceLaws.{same, not_same}
use Rattle.bisimulation.specs.definitions.Sum.{sumℤ}
use Rattle.bisimulation.proofs.argument.SumLaws.{sumℤCong}
use Rattle.rules.specs.definitions.Model.{Entry, weight_of}
use Rattle.rules.specs.definitions.SoundModel.{Each}
use Rattle.rules.proofs.argument.SoundModelLaws.{From, StatesFrom, no-weight}

-- the sum over the entries, the last first
unfoldable pub price_of_entries : List Entry → (ℕ → ℤ) → ℤ
price_of_entries [] X = pos 0
price_of_entries (e ∷ es) X = pos e.weight *ℤ X e.state +ℤ price_of_entries es X

sumℤ-zero : (n : ℕ) → sumℤ n (λ v. pos 0) ≡ pos 0
unfolding sumℤ
sumℤ-zero zero = refl
sumℤ-zero (suc n) = ap (λ (z : ℤ). z +ℤ pos 0) (sumℤ-zero n)

-- a sum of f with c in place of f a, which is 0
sumℤ-with : (a : ℕ) (c : ℤ) (f : ℕ → ℤ) → f a ≡ pos 0 → (n : ℕ) → a < n → sumℤ n (λ v. if_same a v c (f v)) ≡ c +ℤ sumℤ n f
unfolding sumℤ
sumℤ-with a c f none zero h = absurd (omega arith)
sumℤ-with a c f none (suc n) h = go (sumℤ-with a c f none n) (ℕ_discrete a n)
  where
    go : (a < n → sumℤ n (λ v. if_same a v c (f v)) ≡ c +ℤ sumℤ n f) → Dec (a ≡ n) → sumℤ n (λ v. if_same a v c (f v)) +ℤ if_same a n c (f n) ≡ c +ℤ (sumℤ n f +ℤ f n)
    go ih (yes q) =
        ap₂ ◌+ℤ◌ (sumℤCong n _ f (λ v l. sym (not_same c (λ e. omega arith) refl))) (sym (same (f n) q refl))
        ∙ +ℤ_comm (sumℤ n f) c
        ∙ ap (λ (z : ℤ). c +ℤ z) (sym (+ℤ_idr (sumℤ n f)) ∙ ap (λ (z : ℤ). sumℤ n f +ℤ z) (sym (ap f (sym q) ∙ none)))
    go ih (no q) =
        ap₂ ◌+ℤ◌ (ih (omega arith)) (sym (not_same c q refl)) ∙ +ℤ_assoc c (sumℤ n f) (f n)

-- the weight of the first entry's state, and of every other
price-term : (e : Entry) (es : List Entry) (X : ℕ → ℤ) (v : ℕ) → pos (weight_of (e ∷ es) v) *ℤ X v ≡ if_same e.state v (pos e.weight *ℤ X e.state) (pos (weight_of es v) *ℤ X v)
unfolding weight_of
price-term e es X v = go (ℕ_discrete e.state v)
  where
    go : Dec (e.state ≡ v) → pos (if_same e.state v e.weight (weight_of es v)) *ℤ X v ≡ if_same e.state v (pos e.weight *ℤ X e.state) (pos (weight_of es v) *ℤ X v)
    go (yes q) =
        ap (λ (k : ℕ). pos k *ℤ X v) (sym (same (weight_of es v) q refl))
        ∙ ap (λ (k : ℕ). pos e.weight *ℤ X k) (sym q)
        ∙ same (pos (weight_of es v) *ℤ X v) q refl
    go (no q) =
        ap (λ (k : ℕ). pos k *ℤ X v) (sym (not_same e.weight q refl)) ∙ not_same (pos e.weight *ℤ X e.state) q refl

pub price-of-entries : (n : ℕ) (es : List Entry) (lowest : ℕ) (X : ℕ → ℤ) → StatesFrom lowest es → Each (λ (e : Entry). e.state < n) es → sumℤ n (λ v. pos (weight_of es v) *ℤ X v) ≡ price_of_entries es X
unfolding price_of_entries From Each
price-of-entries n [] lowest X from known = sumℤCong n _ (λ v. pos 0) (λ v l. no-entry v) ∙ sumℤ-zero n
  where
    no-entry : (v : ℕ) → pos (weight_of [] v) *ℤ X v ≡ pos 0
    no-entry v = unfold weight_of in zero-*ℤ (X v)
price-of-entries n (e ∷ es) lowest X from known =
    sumℤCong n _ _ (λ v l. price-term e es X v)
    ∙ sumℤ-with e.state (pos e.weight *ℤ X e.state) (λ v. pos (weight_of es v) *ℤ X v)
    (ap (λ (k : ℕ). pos k *ℤ X e.state) (no-weight es (suc e.state) e.state from.1 (omega arith)) ∙ zero-*ℤ (X e.state))
    n known.0
    ∙ ap (λ (z : ℤ). pos e.weight *ℤ X e.state +ℤ z) (price-of-entries n es (suc e.state) X from.1 known.1)
