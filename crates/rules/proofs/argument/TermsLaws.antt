-- Laws of the terms that a transition is written in, and of a transition divided by its divisor.
use Rattle.std.specs.Prelude.{ℕ, ◌*◌, ◌/◌, ◌≤◌, ◌≡◌, ◌↔◌, length}
use Rattle.std.proofs.Math.Path.{refl, sym, ap}
use Rattle.std.proofs.Common.{◌∙◌, subst, mul-one}
use mathlib.Core.List.{List, [], ◌∷◌, map}
use Rattle.std.proofs.Math.ListN.{length-map}
use Rattle.std.proofs.Math.Decide.{ℕ_discrete}
use native.Mathlib.Omega.{arith}
use Rattle.std.proofs.Math.Nat.{div-le_self, eq_of_mul-eq-mul_right}
use Rattle.bisimulation.specs.definitions.Choice.{if_same}
use Rattle.bisimulation.proofs.argument.ChoiceLaws.{same, not_same}
use Rattle.numbers.specs.definitions.Divisor.{divisor_of, Divides}
use Rattle.numbers.proofs.argument.DivisorLaws.{DividesEach, lowest-exactly, divides-zero, divides-sum, divides-positive, divided-times, divided-some, divisor_of-greatest, divided-lowest}
use Rattle.rules.specs.definitions.Limits.{Terms, any_terms, lowest_terms}
use Rattle.rules.specs.definitions.Model.{Entry, Transition, no_transition, weight_of}
use Rattle.rules.specs.definitions.SoundModel.{Each, sum_over, TransitionRules, LowestTerms, HasTerms}
use Rattle.rules.specs.definitions.LowestTerms.{weights_of, divisor_in, divided_entry, in_lowest}
use Rattle.rules.specs.definitions.Faults.{fault, Passes}
use Rattle.rules.specs.definitions.Reading.{terms_fault}
use Rattle.rules.proofs.argument.FaultLaws.{pass_on, pass-unless_same}
use Rattle.rules.proofs.argument.MappedLists.{each_all, each-mapped, along-mapped, map_same}

-- dividing each entry's weight is dividing each weight
pub weights-divided : (k : ℕ) (es : List Entry) → Each (λ (e : Entry). Divides k e.weight) es ↔ DividesEach k (map (λ (e : Entry). e.weight) es)
unfolding Each DividesEach
weights-divided k [] = (λ h. h, λ h. h)
weights-divided k (e ∷ es) =
    let rest = weights-divided k es in
    (λ h. (h.0, rest.0 h.1), λ h. (h.0, rest.1 h.1))

-- lowest terms: the divisor is 1
pub lowest-divisor : (t : Transition) → LowestTerms t ↔ (divisor_in t ≡ 1)
unfolding LowestTerms divisor_in
lowest-divisor t =
    let x = lowest-exactly (map (λ (e : Entry). e.weight) t.entries) in
    (λ low. x.1 (λ k d. low k ((weights-divided k t.entries).1 d)), λ one k d. x.0 one k ((weights-divided k t.entries).0 d))

-- no 34 exactly where the terms are those asked for
pub terms-exactly : (terms : Terms) (t : Transition) → Passes (terms_fault terms t) ↔ HasTerms terms t
unfolding terms_fault HasTerms
terms-exactly any_terms t = (λ p. tt, λ h. refl)
terms-exactly lowest_terms t = (
  λ p. (lowest-divisor t).1 (pass-unless_same _ _ _ _ p (omega arith)).0,
  λ h. pass_on (same (fault 34) ((lowest-divisor t).0 h) refl) refl,
)

-- entries whose weights g divides
abbrev pub DividesWeights : ℕ → List Entry → Type 0
DividesWeights g es = Each (λ (e : Entry). Divides g e.weight) es

-- and what they are when divided
module _ (g : ℕ) where
  divides-total : (es : List Entry) → DividesWeights g es → Divides g (sum_over (λ (e : Entry). e.weight) es)
  unfolding Each sum_over
  divides-total [] d = divides-zero g
  divides-total (e ∷ es) d = divides-sum d.0 (divides-total es d.1)

  divided-total : (es : List Entry) → DividesWeights g es → sum_over (λ (e : Entry). e.weight) (map (divided_entry g) es) * g ≡ sum_over (λ (e : Entry). e.weight) es
  unfolding Each sum_over divided_entry
  divided-total [] d = omega arith
  divided-total (e ∷ es) d = omega (arith, divided-times d.0, divided-total es d.1)

  divided-weights : (es : List Entry) → DividesWeights g es → Each (λ (e : Entry). 1 ≤ e.weight) es → Each (λ (e : Entry). 1 ≤ e.weight) (map (divided_entry g) es)
  unfolding Each divided_entry
  divided-weights [] d some = tt
  divided-weights (e ∷ es) d some = (divided-some d.0 some.0, divided-weights es d.1 some.1)

  weight-divided : (es : List Entry) (v : ℕ) → DividesWeights g es → weight_of es v ≡ weight_of (map (divided_entry g) es) v * g
  unfolding Each weight_of divided_entry
  weight-divided [] v d = omega arith
  weight-divided (e ∷ es) v d = go (ℕ_discrete e.state v) (weight-divided es v d.1)
    where
      go : Dec (e.state ≡ v) → weight_of es v ≡ weight_of (map (divided_entry g) es) v * g → if_same e.state v e.weight (weight_of es v) ≡ if_same e.state v (e.weight / g) (weight_of (map (divided_entry g) es) v) * g
      go (yes s) ih = sym (same _ s refl) ∙ sym (divided-times d.0) ∙ ap (λ (z : ℕ). z * g) (same _ s refl)
      go (no n) ih = sym (not_same _ n refl) ∙ ih ∙ ap (λ (z : ℕ). z * g) (not_same _ n refl)

  each-divided : (k : ℕ) (es : List Entry) → DividesWeights k (map (divided_entry g) es) → DividesEach k (map (λ (x : ℕ). x / g) (map (λ (e : Entry). e.weight) es))
  unfolding Each DividesEach divided_entry
  each-divided k [] d = tt
  each-divided k (e ∷ es) d = (d.0, each-divided k es d.1)

-- what is divided by 1
over-one : (g x : ℕ) → g ≡ 1 → x / g ≡ x
over-one g x e =
    let whole : Divides 1 x = record { times = x; product = mul-one x } in
    ap (λ (z : ℕ). x / z) e ∙ omega (arith, divided-times whole)

module _ (t : Transition) where
  -- the divisor divides each weight
  pub divisor-weights : DividesWeights (divisor_in t) t.entries
  unfolding divisor_in
  divisor-weights = (weights-divided _ t.entries).1 (divisor_of-greatest 0 (weights_of t)).each

  -- every weight is the divided one times the divisor
  pub lowest-weight : (v : ℕ) → weight_of t.entries v ≡ weight_of (in_lowest t).entries v * divisor_in t
  unfolding in_lowest
  lowest-weight v = weight-divided (divisor_in t) t.entries v divisor-weights

  -- as many entries, from and by the same
  pub lowest-count : length (in_lowest t).entries ≡ length t.entries
  unfolding in_lowest
  lowest-count = length-map t.entries _

  pub lowest-source : (in_lowest t).source ≡ t.source
  unfolding in_lowest
  lowest-source = refl

  pub lowest-action : (in_lowest t).action ≡ t.action
  unfolding in_lowest
  lowest-action = refl

  -- lowest terms stay
  pub lowest-same : LowestTerms t → in_lowest t ≡ t
  unfolding in_lowest divided_entry
  lowest-same low =
      let one = (lowest-divisor t).0 low in
      let entry : (e : Entry) → divided_entry (divisor_in t) e ≡ e = λ e i. record { state = e.state; weight = over-one (divisor_in t) e.weight one i } in
      λ i.
      record {
        source = t.source;
        action = t.action;
        denominator = over-one (divisor_in t) t.denominator one i;
        entries = map_same (divided_entry (divisor_in t)) t.entries (each_all _ entry t.entries) i;
      }

  -- of a transition that keeps the rules
  module _ {n m : ℕ} (rules : TransitionRules n m t) where
    -- the divisor divides d
    pub divisor-denominator : Divides (divisor_in t) t.denominator
    divisor-denominator = subst (Divides (divisor_in t)) rules.whole (divides-total (divisor_in t) t.entries divisor-weights)

    -- so it is at least 1
    pub divisor-some : 1 ≤ divisor_in t
    divisor-some = divides-positive divisor-denominator rules.positive

    -- d is the divided one times the divisor
    pub lowest-denominator : t.denominator ≡ (in_lowest t).denominator * divisor_in t
    unfolding in_lowest
    lowest-denominator = sym (divided-times divisor-denominator)

    -- divided, it keeps the rules
    pub lowest-rules : TransitionRules n m (in_lowest t)
    unfolding in_lowest divided_entry
    lowest-rules =
        let g = divisor_in t in
        let es = t.entries in
        let sums : sum_over (λ (e : Entry). e.weight) (map (divided_entry g) es) * g ≡ t.denominator / g * g =
        divided-total g es divisor-weights ∙ rules.whole ∙ sym (divided-times divisor-denominator) in
        record {
          source = rules.source;
          action = rules.action;
          positive = divided-some divisor-denominator rules.positive;
          fits = omega (arith, div-le_self t.denominator g, rules.fits);
          some = omega (arith, length-map es (divided_entry g), rules.some);
          most = omega (arith, length-map es (divided_entry g), rules.most);
          states = each-mapped (divided_entry g) _ _ (λ e k. k) es rules.states;
          ascend = along-mapped (divided_entry g) _ _ (λ e f k. k) es rules.ascend;
          weights = divided-weights g es divisor-weights rules.weights;
          whole = eq_of_mul-eq-mul_right g divisor-some _ _ sums;
        }

    -- and is in lowest terms
    pub lowest-terms : LowestTerms (in_lowest t)
    unfolding LowestTerms in_lowest divisor_in
    lowest-terms k d = divided-lowest (weights_of t) divisor-some k (each-divided (divisor_in t) k t.entries d)

-- the transition that a model lacks stays
pub lowest-none : in_lowest no_transition ≡ no_transition
unfolding in_lowest divisor_in divisor_of
lowest-none = refl
