-- Laws of transitions put into lowest terms: they keep their probabilities, and two that are the same are equal field by field.
use Rattle.std.specs.Prelude.{ℕ, suc, ◌*◌, ◌≤◌, ◌<◌, ◌≡◌, ◌↔◌, true}
use Rattle.std.proofs.Math.Path.{refl, sym, ap, subst}
use Rattle.std.proofs.Common.{◌∙◌, ap₂, mul_comm}
use mathlib.Core.List.{List, [], ◌∷◌, map}
use native.Mathlib.Omega.{arith}
use Rattle.std.proofs.Math.Nat.{eq_of_mul-eq-mul_left, one-mul}
use Rattle.bisimulation.proofs.argument.ChoiceLaws.{same, not_same}
use Rattle.numbers.specs.definitions.Divisor.{Divides}
use Rattle.numbers.proofs.argument.DivisorLaws.{DividesEach, divides-zero, divides-each-other, divisor_of-greatest, divisor_of-times}
use Rattle.rules.specs.definitions.Model.{Entry, Transition, weight_of}
use Rattle.rules.specs.definitions.LowestTerms.{weights_of, divisor_in, in_lowest}
use Rattle.rules.specs.definitions.SoundModel.{Each, TransitionRules, LowestTerms}
use Rattle.rules.proofs.argument.SoundModelLaws.{From, from-along, StatesFrom, no-weight}
use Rattle.rules.proofs.argument.TermsLaws.{lowest-divisor, lowest-weight, lowest-action, lowest-denominator}
use Rattle.quotient.specs.definitions.Quotient.{same_transition}
use Rattle.quotient.proofs.argument.SameTransitions.{Same, same-tells, tells-same}

-- a divisor of each weight, changed by f, is one of each of these numbers
each-divides : (f : ℕ → ℕ) (k : ℕ) (es : List Entry) → Each (λ (e : Entry). Divides k (f e.weight)) es → DividesEach k (map f (map (λ (e : Entry). e.weight) es))
unfolding Each DividesEach
each-divides f k [] h = tt
each-divides f k (e ∷ es) h = (h.0, each-divides f k es h.1)

-- in lowest terms a transition has the same action and probabilities
pub lowest-alike : (n m : ℕ) (t : Transition) → TransitionRules n m t → (k : ℕ) → Same k (in_lowest t) t
lowest-alike n m t rules k =
    record {
      action = lowest-action t;
      probability = λ c less.
          omega (arith, ap (λ (x : ℕ). weight_of (in_lowest t).entries c * x) (lowest-denominator t rules), ap (λ (x : ℕ). (in_lowest t).denominator * x) (lowest-weight t c));
    }

-- what holds of the weight of every state holds of the entries' weights
weights-each : (P : ℕ → Type 0) (n : ℕ) (es : List Entry) (lowest : ℕ) → StatesFrom lowest es → Each (λ (e : Entry). e.state < n) es → ((v : ℕ) → lowest ≤ v → v < n → P (weight_of es v)) → Each (λ (e : Entry). P e.weight) es
unfolding From Each weight_of
weights-each P n [] lowest from known h = tt
weights-each P n (e ∷ es) lowest from known h = (
  subst P (sym (same (weight_of es e.state) refl refl)) (h e.state from.0 known.0),
  weights-each P n es (suc e.state) from.1 known.1 (λ v above less. subst P (sym (not_same e.weight (omega arith) refl)) (h v (omega (arith, above, from.0)) less)),
)

-- entries in their order, of states with one weight each, are one list
module _ (n : ℕ) where
  record Ordered (lowest : ℕ) (es : List Entry) : Type 0 where
    from : StatesFrom lowest es
    states : Each (λ (e : Entry). e.state < n) es
    weights : Each (λ (e : Entry). 1 ≤ e.weight) es

  after : {lowest : ℕ} (e : Entry) (es : List Entry) → Ordered lowest (e ∷ es) → Ordered (suc e.state) es
  unfolding From Each
  after e es h = record { from = h.from.1; states = h.states.1; weights = h.weights.1 }

  abbrev OneWeight : (lowest : ℕ) → (es fs : List Entry) → Type 0
  OneWeight lowest es fs = (v : ℕ) → lowest ≤ v → v < n → weight_of es v ≡ weight_of fs v

  -- the first of the entries has a weight
  first-weight : {lowest : ℕ} (e : Entry) (es : List Entry) → Ordered lowest (e ∷ es) → (lowest ≤ e.state) × (e.state < n) × (1 ≤ e.weight) × (e.weight ≡ weight_of (e ∷ es) e.state)
  unfolding From Each weight_of
  first-weight e es h = (h.from.0, h.states.0, h.weights.0, same (weight_of es e.state) refl refl)

  -- so the other entries begin no later
  no-later : {lowest : ℕ} (e : Entry) (es : List Entry) (f : Entry) (fs : List Entry) → Ordered lowest (e ∷ es) → Ordered lowest (f ∷ fs) → OneWeight lowest (e ∷ es) (f ∷ fs) → e.state < f.state → ⊥
  unfolding From
  no-later e es f fs h k one less =
      let own = first-weight e es h in
      let none : weight_of (f ∷ fs) e.state ≡ 0 = no-weight (f ∷ fs) f.state e.state (omega arith, k.from.1) less in
      omega (arith, own.2, own.3, none, one e.state own.0 own.1)

  entries-one : (es fs : List Entry) (lowest : ℕ) → Ordered lowest es → Ordered lowest fs → OneWeight lowest es fs → es ≡ fs
  entries-one [] [] lowest h k one = refl
  entries-one [] (f ∷ fs) lowest h k one =
      let own = first-weight f fs k in
      absurd (unfold weight_of in omega (arith, own.2, own.3, one f.state own.0 own.1))
  entries-one (e ∷ es) [] lowest h k one =
      let own = first-weight e es h in
      absurd (unfold weight_of in omega (arith, own.2, own.3, one e.state own.0 own.1))
  entries-one (e ∷ es) (f ∷ fs) lowest h k one = go (entries-one es fs (suc e.state) (after e es h))
    where
      at : e.state ≡ f.state
      at = omega (arith, no-later e es f fs h k one, no-later f fs e es k h (λ v above less. sym (one v above less)))

      weight : e.weight ≡ f.weight
      weight =
          let own = first-weight e es h in
          own.3 ∙ one e.state own.0 own.1 ∙ ap (weight_of (f ∷ fs)) at ∙ sym (first-weight f fs k).3

      rest : OneWeight (suc e.state) es fs
      rest v above less =
          unfold weight_of in
          not_same e.weight (omega arith) refl ∙ one v (omega (arith, above, (first-weight e es h).0)) less ∙ sym (not_same f.weight (omega (arith, at)) refl)

      go : (Ordered (suc e.state) fs → OneWeight (suc e.state) es fs → es ≡ fs) → (e ∷ es) ≡ (f ∷ fs)
      go ih =
          ap₂ (λ (x : Entry) (xs : List Entry). x ∷ xs)
          (ap₂ (λ (v w : ℕ). record { state = v; weight = w }) at weight)
          (ih (subst (λ (v : ℕ). Ordered (suc v) fs) (sym at) (after f fs k)) rest)

-- transitions that keep the rules, with lowest terms: the denominator of one divides that of every other with the same probabilities
module _ (n m m' : ℕ) (t u : Transition) (rules : TransitionRules n m t) (rules' : TransitionRules n m' u) where
  denominator-divides : LowestTerms t → ((v : ℕ) → v < n → weight_of t.entries v * u.denominator ≡ weight_of u.entries v * t.denominator) → Divides t.denominator u.denominator
  unfolding divisor_in
  denominator-divides low h =
      let d = t.denominator in
      let c = u.denominator in
      let each : Each (λ (e : Entry). Divides d (e.weight * c)) t.entries =
      weights-each (λ (w : ℕ). Divides d (w * c)) n t.entries 0 (from-along _ _ t.entries rules.ascend) rules.states
      (λ v above less. record { times = weight_of u.entries v; product = sym (h v less) }) in
      subst (Divides d) (divisor_of-times c 0 (weights_of t) ∙ ap (λ (x : ℕ). x * c) ((lowest-divisor t).0 low) ∙ one-mul c)
      ((divisor_of-greatest (0 * c) (map (λ (w : ℕ). w * c) (weights_of t))).greatest d (subst (Divides d) (omega arith) (divides-zero d)) (each-divides (λ (w : ℕ). w * c) d t.entries each))

-- so two that have the same probabilities have the same fields
pub lowest-fields : (n m m' : ℕ) (t u : Transition) → TransitionRules n m t → TransitionRules n m' u → LowestTerms t → LowestTerms u → ((v : ℕ) → v < n → weight_of t.entries v * u.denominator ≡ weight_of u.entries v * t.denominator) → (t.denominator ≡ u.denominator) × (t.entries ≡ u.entries)
lowest-fields n m m' t u rules rules' low low' h =
    let over = divides-each-other (denominator-divides n m m' t u rules rules' low h) (denominator-divides n m' m u t rules' rules low' (λ v less. sym (h v less))) in (
      over,
      entries-one n t.entries u.entries 0
          (record { from = from-along _ _ t.entries rules.ascend; states = rules.states; weights = rules.weights })
          (record { from = from-along _ _ u.entries rules'.ascend; states = rules'.states; weights = rules'.weights })
          (λ v above less.
          eq_of_mul-eq-mul_left u.denominator rules'.positive _ _
          (mul_comm u.denominator _ ∙ h v less ∙ ap (λ (d : ℕ). weight_of u.entries v * d) over ∙ mul_comm _ u.denominator)),
    )

-- equal from the action on
pub record SameFields (t u : Transition) : Type 0 where
  pub action : t.action ≡ u.action
  pub denominator : t.denominator ≡ u.denominator
  pub entries : t.entries ≡ u.entries

-- in lowest terms, to be the same is to be equal field by field
pub same-fields : (k m m' : ℕ) (t u : Transition) → TransitionRules k m t → TransitionRules k m' u → LowestTerms t → LowestTerms u → (same_transition k t u ≡ true) ↔ SameFields t u
same-fields k m m' t u rules rules' low low' = (
  λ e.
      let s = same-tells k t u e in
      let f = lowest-fields k m m' t u rules rules' low low' s.probability in
      record { action = s.action; denominator = f.0; entries = f.1 },
  λ f. tells-same k (record { action = f.action; probability = λ c less. ap₂ (λ (es : List Entry) (d : ℕ). weight_of es c * d) f.entries (sym f.denominator) }),
)
