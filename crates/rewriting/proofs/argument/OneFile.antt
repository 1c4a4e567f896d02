-- Document 02, K10: in lowest terms one automaton has one file. Two sound models in lowest terms that hold one automaton are the same, and two in any
-- terms are rewritten to the same.
use Rattle.std.specs.Prelude.{ℕ, suc, ◌*◌, ◌≤◌, ◌<◌, ◌≡◌, length, get_or}
use Rattle.std.proofs.Math.Path.{refl, sym, ap, ap₂, subst}
use Rattle.std.proofs.Common.{◌∙◌, subst₂, one-mul, zero-mul}
use mathlib.Core.List.{List, [], ◌∷◌, map}
use Rattle.std.proofs.Math.Decide.{ℕ_discrete, dec_lt}
use native.Mathlib.Omega.{arith}
use Rattle.std.proofs.Math.Nat.{eq_of_mul-eq-mul_right}
use Rattle.bisimulation.proofs.argument.ChoiceLaws.{same, not_same}
use Rattle.bisimulation.specs.definitions.Automaton.{Automaton, SoundAutomaton, SameProbabilities}
use Rattle.bisimulation.proofs.argument.Spelling.{same_probabilities_turned}
use Rattle.numbers.specs.definitions.Divisor.{divisor_of, Divides}
use Rattle.numbers.proofs.argument.DivisorLaws.{DividesEach, divides-zero, divides-each-other, divisor_of-greatest, divisor_of-times}
use Rattle.rules.specs.definitions.Limits.{Terms, lowest_terms, Limits, with_terms}
use Rattle.rules.specs.definitions.Model.{Entry, Transition, Model, model_bytes, weight_of, no_transition, automaton_of, HoldOneAutomaton}
use Rattle.rules.specs.definitions.SoundModel.{Each, LowestTerms, HasTerms, TransitionRules, SoundModel}
use Rattle.rules.specs.definitions.LowestTerms.{weights_of, divisor_in}
use Rattle.rules.proofs.argument.SoundModelLaws.{each_at, From, from-along, StatesFrom, no-weight, sound-automaton}
use Rattle.rules.proofs.argument.TermsLaws.{lowest-divisor}
use Rattle.rewriting.specs.definitions.Rewritten.{rewritten_model}
use Rattle.rewriting.proofs.argument.RewrittenFiles.{rewritten-sound, rewritten-one}

-- lists that are as long and have the same at each position
lists-same : {X : Type 0} (d : X) (xs ys : List X) → length xs ≡ length ys → ((i : ℕ) → i < length xs → get_or xs i d ≡ get_or ys i d) → xs ≡ ys
lists-same d [] [] e h = refl
lists-same d [] (y ∷ ys) e h = absurd (omega arith)
lists-same d (x ∷ xs) [] e h = absurd (omega arith)
lists-same d (x ∷ xs) (y ∷ ys) e h = ap₂ ◌∷◌ (h 0 (omega arith)) (lists-same d xs ys (omega arith) (λ i l. h (suc i) (omega arith)))

-- the first of entries has its weight, the states before it have none, and the others theirs
module _ (e : Entry) (es : List Entry) where
  first-weight : weight_of (e ∷ es) e.state ≡ e.weight
  unfolding weight_of
  first-weight = sym (same _ refl refl)

  later-weight : (v : ℕ) → (e.state ≡ v → ⊥) → weight_of (e ∷ es) v ≡ weight_of es v
  unfolding weight_of
  later-weight v n = sym (not_same _ n refl)

-- what is known of entries: their states ascend from a lowest one and are below n, and no weight is 0
pub record Listed (n lowest : ℕ) (es : List Entry) : Type 0 where
  pub from : StatesFrom lowest es
  pub below : Each (λ (e : Entry). e.state < n) es
  pub some : Each (λ (e : Entry). 1 ≤ e.weight) es

module _ (n : ℕ) where
  listed-rest : (lowest : ℕ) (e : Entry) (es : List Entry) → Listed n lowest (e ∷ es) → Listed n (suc e.state) es
  unfolding From Each
  listed-rest lowest e es h = record { from = h.from.1; below = h.below.1; some = h.some.1 }

  first_some : (lowest : ℕ) (e : Entry) (es : List Entry) → Listed n lowest (e ∷ es) → (lowest ≤ e.state) × (e.state < n) × (1 ≤ e.weight)
  unfolding From Each
  first_some lowest e es h = (h.from.0, h.below.0, h.some.0)

  -- the first state of entries is not below that of others with the same weights
  not-before : (lowest : ℕ) (e f : Entry) (es fs : List Entry) → Listed n lowest (e ∷ es) → Listed n lowest (f ∷ fs) → weight_of (e ∷ es) e.state ≡ weight_of (f ∷ fs) e.state → f.state ≤ e.state
  not-before lowest e f es fs h k w = go (dec_lt e.state f.state)
    where
      go : Dec (e.state < f.state) → f.state ≤ e.state
      go (yes l) =
          let none = no-weight fs (suc f.state) e.state (listed-rest lowest f fs k).from (omega arith) in
          absurd (omega (arith, first_some lowest e es h, first-weight e es, w, later-weight f fs e.state (λ (z : f.state ≡ e.state). omega arith), none))
      go (no l) = omega arith

  -- so entries with the same weights are the same
  entries-same : (lowest : ℕ) (es fs : List Entry) → Listed n lowest es → Listed n lowest fs → ((v : ℕ) → v < n → weight_of es v ≡ weight_of fs v) → es ≡ fs
  unfolding weight_of
  entries-same lowest [] [] h k w = refl
  entries-same lowest [] (f ∷ fs) h k w =
      let s = first_some lowest f fs k in
      absurd (omega (arith, s, first-weight f fs, w f.state s.1))
  entries-same lowest (e ∷ es) [] h k w =
      let s = first_some lowest e es h in
      absurd (omega (arith, s, first-weight e es, w e.state s.1))
  entries-same lowest (e ∷ es) (f ∷ fs) h k w =
      let s = first_some lowest e es h in
      let t = first_some lowest f fs k in
      let a = not-before lowest e f es fs h k (w e.state s.1) in
      let b = not-before lowest f e fs es k h (sym (w f.state t.1)) in
      let state : e.state ≡ f.state = omega arith in
      let weight : e.weight ≡ f.weight = sym (first-weight e es) ∙ w e.state s.1 ∙ ap (weight_of (f ∷ fs)) state ∙ first-weight f fs in
      let here : e ≡ f = λ i. record { state = state i; weight = weight i } in
      let others = listed-rest lowest e es h in
      let mores : Listed n (suc e.state) fs = subst (λ (x : ℕ). Listed n (suc x) fs) (sym state) (listed-rest lowest f fs k) in
      ap₂ ◌∷◌ here (entries-same (suc e.state) es fs others mores (λ v l. rest v l state others mores (ℕ_discrete e.state v)))
    where
      rest : (v : ℕ) → v < n → e.state ≡ f.state → Listed n (suc e.state) es → Listed n (suc e.state) fs → Dec (e.state ≡ v) → weight_of es v ≡ weight_of fs v
      rest v l state others mores (yes z) =
          no-weight es (suc e.state) v others.from (omega arith) ∙ sym (no-weight fs (suc e.state) v mores.from (omega arith))
      rest v l state others mores (no z) =
          sym (later-weight e es v z) ∙ w v l ∙ later-weight f fs v (λ (y : f.state ≡ v). z (state ∙ y))

-- numbers p(v) over d with the probabilities that entries have over D, at each state from a lowest one on: so at each entry
each-entry : (n : ℕ) (p : ℕ → ℕ) (d D lowest : ℕ) (es : List Entry) → Listed n lowest es → ((v : ℕ) → lowest ≤ v → v < n → weight_of es v * d ≡ p v * D) → Each (λ (e : Entry). e.weight * d ≡ p e.state * D) es
unfolding Each
each-entry n p d D lowest [] h w = tt
each-entry n p d D lowest (e ∷ es) h w =
    let s = first_some n lowest e es h in (
      ap (λ (z : ℕ). z * d) (sym (first-weight e es)) ∙ w e.state s.0 s.1,
      each-entry n p d D (suc e.state) es (listed-rest n lowest e es h)
          (λ v l k. ap (λ (z : ℕ). z * d) (sym (later-weight e es v (λ (z : e.state ≡ v). omega arith))) ∙ w v (omega arith) k),
    )

divides-all : (p : ℕ → ℕ) (d D : ℕ) (es : List Entry) → Each (λ (e : Entry). e.weight * d ≡ p e.state * D) es → DividesEach D (map (λ (x : ℕ). x * d) (map (λ (e : Entry). e.weight) es))
unfolding Each DividesEach
divides-all p d D [] h = tt
divides-all p d D (e ∷ es) h = (record { times = p e.state; product = sym h.0 }, divides-all p d D es h.1)

-- then the denominator of lowest terms divides d
denominator-divides : (t : Transition) → LowestTerms t → (p : ℕ → ℕ) (d : ℕ) → Each (λ (e : Entry). e.weight * d ≡ p e.state * t.denominator) t.entries → Divides t.denominator d
unfolding divisor_in
denominator-divides t low p d h =
    let D = t.denominator in
    let all = map (λ (x : ℕ). x * d) (weights_of t) in
    let is : divisor_of (0 * d) all ≡ d = divisor_of-times d 0 (weights_of t) ∙ ap (λ (z : ℕ). z * d) ((lowest-divisor t).0 low) ∙ one-mul d in
    subst (Divides D) is
    ((divisor_of-greatest (0 * d) all).greatest D (subst (Divides D) (sym (zero-mul d)) (divides-zero D)) (divides-all p d D t.entries h))

-- two transitions in lowest terms with the same probabilities are the same
module _ (n m : ℕ) where
  listed : (t : Transition) → TransitionRules n m t → Listed n 0 t.entries
  listed t rules = record { from = from-along _ _ t.entries rules.ascend; below = rules.states; some = rules.weights }

  pub transition-same : (t u : Transition) → TransitionRules n m t → TransitionRules n m u → LowestTerms t → LowestTerms u → t.source ≡ u.source → t.action ≡ u.action → ((v : ℕ) → v < n → weight_of t.entries v * u.denominator ≡ weight_of u.entries v * t.denominator) → t ≡ u
  transition-same t u rt ru lt lu source action w =
      let denominator : t.denominator ≡ u.denominator =
      divides-each-other
      (denominator-divides t lt (weight_of u.entries) u.denominator (each-entry n _ _ _ 0 t.entries (listed t rt) (λ v l k. w v k)))
      (denominator-divides u lu (weight_of t.entries) t.denominator (each-entry n _ _ _ 0 u.entries (listed u ru) (λ v l k. sym (w v k)))) in
      let weights : (v : ℕ) → v < n → weight_of t.entries v ≡ weight_of u.entries v =
      λ v l. eq_of_mul-eq-mul_right u.denominator ru.positive _ _ (w v l ∙ ap (λ (z : ℕ). weight_of u.entries v * z) denominator) in
      let entries = entries-same n 0 t.entries u.entries (listed t rt) (listed u ru) weights in
      λ i. record { source = source i; action = action i; denominator = denominator i; entries = entries i }

-- in lowest terms, models that hold one automaton are the same: source, action, labels and the number of actions are the automaton's too
pub one-lowest : (L : Limits) (M N : Model) → SoundModel (with_terms lowest_terms L) M → SoundModel (with_terms lowest_terms L) N → HoldOneAutomaton M N → M ≡ N
unfolding HoldOneAutomaton automaton_of HasTerms
one-lowest L M N x y one =
    let n = length M.labels in
    let m = M.actions in
    let t : ℕ → Transition = λ q. get_or M.transitions q no_transition in
    let u : ℕ → Transition = λ q. get_or N.transitions q no_transition in
    let rules : Each (TransitionRules n m) N.transitions =
    subst₂ (λ (a b : ℕ). Each (TransitionRules a b) N.transitions) (sym one.states) (sym one.actions) y.transitions in
    let each : (q : ℕ) → q < length M.transitions → t q ≡ u q =
    λ q l.
    let k : q < length N.transitions = omega (arith, one.transitions) in
    transition-same n m (t q) (u q) (each_at (TransitionRules n m) M.transitions q no_transition x.transitions l) (each_at (TransitionRules n m) N.transitions q no_transition rules k)
    (each_at LowestTerms M.transitions q no_transition x.terms l) (each_at LowestTerms N.transitions q no_transition y.terms k)
    (one.source q l) (one.action q l) (λ v j. one.probability q v l j) in
    λ i.
    record {
      actions = one.actions i;
      labels = lists-same 0 M.labels N.labels one.states one.label i;
      transitions = lists-same no_transition M.transitions N.transitions one.transitions each i;
    }

-- so their files are the same bytes
pub one-file : (L : Limits) (M N : Model) → SoundModel (with_terms lowest_terms L) M → SoundModel (with_terms lowest_terms L) N → HoldOneAutomaton M N → model_bytes M ≡ model_bytes N
one-file L M N x y one = ap model_bytes (one-lowest L M N x y one)

-- the same probabilities as a third, by a sound second
pub same-joined : {A B C : Automaton} → SoundAutomaton B → SameProbabilities A B → SameProbabilities B C → SameProbabilities A C
unfolding SoundAutomaton
same-joined {A} {B} {C} sound e f =
    record {
      states = e.states ∙ f.states;
      actions = e.actions ∙ f.actions;
      transitions = e.transitions ∙ f.transitions;
      label = λ v l. e.label v l ∙ f.label v (omega (arith, e.states));
      source = λ q l. e.source q l ∙ f.source q (omega (arith, e.transitions));
      action = λ q l. e.action q l ∙ f.action q (omega (arith, e.transitions));
      probability = λ q v l k.
          let i : q < B.transitions = omega (arith, e.transitions) in
          let j : v < B.states = omega (arith, e.states) in
          eq_of_mul-eq-mul_right (B.denominator q) (sound q i).positive _ _
          (omega (arith, ap (λ (z : ℕ). z * C.denominator q) (e.probability q v l k), ap (λ (z : ℕ). z * A.denominator q) (f.probability q v i j)));
    }

-- in any terms, models that hold one automaton are rewritten to the same
pub one-rewritten : (a b : Terms) (L : Limits) (M N : Model) → SoundModel (with_terms a L) M → SoundModel (with_terms b L) N → HoldOneAutomaton M N → rewritten_model M ≡ rewritten_model N
unfolding HoldOneAutomaton
one-rewritten a b L M N x y one =
    one-lowest L (rewritten_model M) (rewritten_model N) (rewritten-sound a L M x) (rewritten-sound b L N y)
    (same-joined (sound-automaton (with_terms a L) M x) (same_probabilities_turned (rewritten-one (with_terms a L) M x))
    (same-joined (sound-automaton (with_terms b L) N y) one (rewritten-one (with_terms b L) N y)))

-- and a model in lowest terms is its own
pub lowest-rewritten : (L : Limits) (M : Model) → SoundModel (with_terms lowest_terms L) M → rewritten_model M ≡ M
lowest-rewritten L M x = sym (one-lowest L M (rewritten_model M) x (rewritten-sound lowest_terms L M x) (rewritten-one (with_terms lowest_terms L) M x))
