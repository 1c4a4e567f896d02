-- The model that a text holds: it is sound, its file is read back, its transitions are in lowest terms, and its probabilities are the text's.
use Rattle.std.specs.Prelude.{ℕ, zero, suc, ◌+◌, ◌*◌, ◌/◌, ◌≤◌, ◌<◌, ◌≡◌, refl, replicate}
use Rattle.std.proofs.Math.Path.{sym, ap, subst}
use Rattle.std.proofs.Common.{◌∙◌, inl, inr, zero-mul}
use mathlib.Core.List.{List, [], ◌∷◌, map, map-map}
use Rattle.std.proofs.Math.ListN.{length, length-map, length-replicate}
use Rattle.std.proofs.Math.Decide.{ℕ_discrete}
use native.Mathlib.Omega.{arith}
use Rattle.std.proofs.Math.Nat.{div-le_self, eq_of_mul-eq-mul_right, one-mul}
use Rattle.bisimulation.specs.definitions.Choice.{if_same}
use Rattle.bisimulation.proofs.argument.ChoiceLaws.{same, not_same}
use Rattle.numbers.specs.definitions.Divisor.{divisor_of, Divides}
use Rattle.numbers.proofs.argument.DivisorLaws.{DividesEach, divides-zero, divides-sum, divides-most, divides-positive, divided-times, divided-some, divisor_of-greatest, divisor_of-times, divided-lowest, divided-divisor}
use Rattle.rules.specs.definitions.Limits.{Limits}
use Rattle.rules.specs.definitions.Model.{Entry, Transition, Model, model_bytes, weight_of}
use Rattle.rules.specs.definitions.Reading as rules-reading
use Rattle.rules.specs.definitions.SoundModel.{Each, Along, sum_over, TransitionRules, SoundModel, FitsWidths, LowestTerms, HasTerms}
use Rattle.rules.specs.definitions.Accepted.{FileOf}
use Rattle.rules.proofs.argument.SoundModelLaws.{each_map, from-along, lowest-has}
use Rattle.rules.proofs.argument.ReadBack.{read-back-whole}
use Rattle.rules.proofs.argument.MappedLists.{each_both, each-mapped, along-mapped, sum-mapped}
use Rattle.prism.specs.definitions.Lines.{Head}
use Rattle.prism.specs.definitions.Reading.{Choice, action_of, total_of}
use Rattle.prism.specs.definitions.HeldModel.{weights_of, entry_over, transition_over, transition_of, held_model}
use Rattle.prism.specs.definitions.AllowedText.{Probability, Target, WrittenChoice, ProbabilityRules, parts_of, ChoiceRules, NextChoice, names_of, TextRules, read_choice, AllowedText}
use Rattle.prism.specs.definitions.HeldText.{Beside, Says, Holds}
use Rattle.prism.proofs.argument.MappedLists.{beside-mapped, beside-unmapped, ascending-few}
use Rattle.prism.proofs.argument.LineLaws as line-laws
use Rattle.prism.proofs.argument.ChoiceLines.{entry_for, sum-targets}
use Rattle.prism.proofs.argument.NameLaws.{Known, names-known}

-- what a choice's ten-thousandths are, for n states and m actions
pub record HeldChoice (n m : ℕ) (c : Choice) : Type 0 where
  pub source : c.source < n
  pub action : c.action < m
  pub some : 1 ≤ length c.entries
  pub states : Each (λ (e : Entry). e.state < n) c.entries
  pub ascend : Along (λ (e f : Entry). e.state < f.state) c.entries
  pub weights : Each (λ (e : Entry). 1 ≤ e.weight) c.entries
  pub whole : total_of c ≡ 10000

-- the divisor of the ten-thousandths
abbrev pub divisor_in : Choice → ℕ
divisor_in c = divisor_of 0 (weights_of c.entries)

-- numbers that g divides: their sum, and what they are when divided
module _ (g : ℕ) where
  divides-total : (es : List Entry) → DividesEach g (weights_of es) → Divides g (sum_over (λ (e : Entry). e.weight) es)
  unfolding DividesEach sum_over
  divides-total [] d = divides-zero g
  divides-total (e ∷ es) d = divides-sum d.0 (divides-total es d.1)

  divided-total : (es : List Entry) → DividesEach g (weights_of es) → sum_over (λ (e : Entry). e.weight) (map (entry_over g) es) * g ≡ sum_over (λ (e : Entry). e.weight) es
  unfolding DividesEach sum_over entry_over
  divided-total [] d = omega arith
  divided-total (e ∷ es) d = omega (arith, divided-times d.0, divided-total es d.1)

  divided-weights : (es : List Entry) → DividesEach g (weights_of es) → Each (λ (e : Entry). 1 ≤ e.weight) es → Each (λ (e : Entry). 1 ≤ e.weight) (map (entry_over g) es)
  unfolding DividesEach Each entry_over
  divided-weights [] d some = tt
  divided-weights (e ∷ es) d some = (divided-some d.0 some.0, divided-weights es d.1 some.1)

module _ {n m : ℕ} (c : Choice) (h : HeldChoice n m c) where
  -- the divisor divides 10,000
  pub divisor-whole : Divides (divisor_in c) 10000
  unfolding total_of
  divisor-whole = subst (Divides (divisor_in c)) h.whole (divides-total (divisor_in c) c.entries (divisor_of-greatest 0 _).each)

  -- so it is at least 1
  pub divisor-some : 1 ≤ divisor_in c
  divisor-some = divides-positive divisor-whole (omega arith)

  -- and the denominator times it is 10,000
  pub denominator-times : (transition_of c).denominator * divisor_in c ≡ 10000
  unfolding transition_of transition_over
  denominator-times = divided-times divisor-whole

  -- a choice is held as a transition that keeps the rules
  pub held-transition : TransitionRules n m (transition_of c)
  unfolding transition_of transition_over total_of entry_over
  held-transition =
      let g = divisor_in c in
      let es = c.entries in
      let divides = (divisor_of-greatest 0 (weights_of es)).each in
      let few = ascending-few (λ (e : Entry). e.state) n es 0 (omega arith) (from-along _ _ es h.ascend) h.states in
      let sums : sum_over (λ (e : Entry). e.weight) (map (entry_over g) es) * g ≡ 10000 / g * g =
      divided-total g es divides ∙ h.whole ∙ sym (divided-times divisor-whole) in
      record {
        source = h.source;
        action = h.action;
        positive = divided-some divisor-whole (omega arith);
        fits = omega (arith, div-le_self 10000 g);
        some = omega (arith, length-map es (entry_over g), h.some);
        most = omega (arith, length-map es (entry_over g));
        states = each-mapped (entry_over g) _ _ (λ e k. k) es h.states;
        ascend = along-mapped (entry_over g) _ _ (λ e f k. k) es h.ascend;
        weights = divided-weights g es divides h.weights;
        whole = eq_of_mul-eq-mul_right g divisor-some _ _ sums;
      }

-- entries whose weights k divides
each-divides : (k g : ℕ) (es : List Entry) → Each (λ (e : Entry). Divides k e.weight) (map (entry_over g) es) → DividesEach k (map (λ (x : ℕ). x / g) (weights_of es))
unfolding Each DividesEach entry_over
each-divides k g [] d = tt
each-divides k g (e ∷ es) d = (d.0, each-divides k g es d.1)

-- q over D, times 10,000 over g
crossed : (q g w D : ℕ) → q * g ≡ w → D * g ≡ 10000 → q * 10000 ≡ w * D
crossed q g w D a b = omega (arith, ap (λ (z : ℕ). q * z) b, ap (λ (z : ℕ). z * D) a)

-- numbers over d that say the same probability
same-terms : (q g w D p d : ℕ) → 1 ≤ g → q * g ≡ w → D * g ≡ 10000 → p * 10000 ≡ w * d → p * D ≡ q * d
same-terms q g w D p d some a b e =
    eq_of_mul-eq-mul_right g some _ _ (omega (arith, ap (λ (z : ℕ). p * z) b, ap (λ (z : ℕ). z * d) a))

same-terms-each : (g D : ℕ) → 1 ≤ g → D * g ≡ 10000 → (p : ℕ → ℕ) (d : ℕ) (es : List Entry) → DividesEach g (weights_of es) → Each (λ (e : Entry). p e.state * 10000 ≡ e.weight * d) es → DividesEach D (map (λ (x : ℕ). x * d) (map (λ (x : ℕ). x / g) (weights_of es)))
unfolding Each DividesEach
same-terms-each g D some b p d [] divides says = tt
same-terms-each g D some b p d (e ∷ es) divides says = (
  record { times = p e.state; product = same-terms (e.weight / g) g e.weight D (p e.state) d some (divided-times divides.0) b says.0 },
  same-terms-each g D some b p d es divides.1 says.1,
)

weight-over : (g : ℕ) (es : List Entry) (v : ℕ) → DividesEach g (weights_of es) → weight_of (map (entry_over g) es) v * g ≡ weight_of es v
unfolding DividesEach weight_of entry_over
weight-over g [] v d = omega arith
weight-over g (e ∷ es) v d = go (ℕ_discrete e.state v) (weight-over g es v d.1)
  where
    go : Dec (e.state ≡ v) → weight_of (map (entry_over g) es) v * g ≡ weight_of es v → if_same e.state v (e.weight / g) (weight_of (map (entry_over g) es) v) * g ≡ if_same e.state v e.weight (weight_of es v)
    go (yes s) ih = ap (λ (z : ℕ). z * g) (sym (same _ s refl)) ∙ divided-times d.0 ∙ same _ s refl
    go (no n) ih = ap (λ (z : ℕ). z * g) (sym (not_same _ n refl)) ∙ ih ∙ not_same _ n refl

entries_over : (g D : ℕ) → D * g ≡ 10000 → (es : List Entry) → DividesEach g (weights_of es) → Beside (λ (e f : Entry). Says D e.state e.weight f) es (map (entry_over g) es)
unfolding DividesEach Beside entry_over
entries_over g D b [] d = tt
entries_over g D b (e ∷ es) d = (
  record { state = refl; probability = crossed (e.weight / g) g e.weight D (divided-times d.0) b },
  entries_over g D b es d.1,
)

module _ {n m : ℕ} (c : Choice) (h : HeldChoice n m c) where
  -- its transition is in lowest terms
  pub held-lowest : LowestTerms (transition_of c)
  unfolding LowestTerms transition_of transition_over
  held-lowest k d = divided-lowest (weights_of c.entries) (divisor-some c h) k (each-divides k (divisor_in c) c.entries d)

  -- its probabilities are the choice's: at each state, weight over denominator is parts over 10,000
  pub held-probability : (v : ℕ) → weight_of (transition_of c).entries v * 10000 ≡ weight_of c.entries v * (transition_of c).denominator
  unfolding transition_of transition_over
  held-probability v =
      crossed _ (divisor_in c) _ _ (weight-over (divisor_in c) c.entries v (divisor_of-greatest 0 _).each) (divided-times (divisor-whole c h))

  -- entry by entry, in their order
  pub held-entries : Beside (λ (e f : Entry). Says (transition_of c).denominator e.state e.weight f) c.entries (transition_of c).entries
  unfolding transition_of transition_over
  held-entries = entries_over (divisor_in c) _ (divided-times (divisor-whole c h)) c.entries (divisor_of-greatest 0 _).each

  -- 'Each d is the least possible': numbers p(v) over d that say the probabilities of the choice have no less a denominator
  pub least-denominator : (p : ℕ → ℕ) (d : ℕ) → 1 ≤ d → Each (λ (e : Entry). p e.state * 10000 ≡ e.weight * d) c.entries → (transition_of c).denominator ≤ d
  unfolding transition_of transition_over
  least-denominator p d some says =
      let g = divisor_in c in
      let ws = weights_of c.entries in
      let qs = map (λ (x : ℕ). x / g) ws in
      let is_d : divisor_of (0 * d) (map (λ (x : ℕ). x * d) qs) ≡ d =
      divisor_of-times d 0 qs ∙ ap (λ (z : ℕ). z * d) (divided-divisor ws (divisor-some c h)) ∙ one-mul d in
      let each =
      same-terms-each g (10000 / g) (divisor-some c h) (divided-times (divisor-whole c h)) p d c.entries (divisor_of-greatest 0 ws).each says in
      let common = (divisor_of-greatest (0 * d) (map (λ (x : ℕ). x * d) qs)).greatest (10000 / g) (subst (Divides (10000 / g)) (sym (zero-mul d)) (divides-zero _)) each in
      divides-most (subst (Divides (10000 / g)) is_d common) some

-- a probability that is written is positive
pub parts-some : (p : Probability) → ProbabilityRules p → 1 ≤ parts_of p
parts-some = line-laws.parts-some

-- a written choice is read as one that keeps the rules
pub read_held : (n : ℕ) (names : List (List ℕ)) (c : WrittenChoice) → ChoiceRules n c → Known names c.name → HeldChoice n (length names + 1) (read_choice names c)
unfolding read_choice Known total_of
read_held n names c h known =
    let xs = c.targets in
    record {
      source = h.source;
      action = omega arith;
      some = omega (arith, length-map xs entry_for, h.some);
      states = each-mapped entry_for _ _ (λ x k. k) xs h.states;
      ascend = along-mapped entry_for _ _ (λ x y k. k) xs h.ascend;
      weights = each-mapped entry_for _ _ (λ x k. parts-some x.probability k) xs h.probabilities;
      whole = sum-targets xs ∙ h.whole;
    }

pub choice-holds : (n : ℕ) (names : List (List ℕ)) (c : WrittenChoice) → ChoiceRules n c → Known names c.name → Holds names c (transition_of (read_choice names c))
unfolding transition_of transition_over read_choice
choice-holds n names c h known =
    let held = read_held n names c h known in
    record {
      source = refl;
      action = refl;
      targets = beside-unmapped _ _ c.targets _ (held-entries (read_choice names c) held);
      least = λ p d some says. least-denominator (read_choice names c) held p d some (each-mapped _ _ _ (λ x e. e) c.targets says);
    }

-- the choices of a text, as reading has them
abbrev pub choices_in : List WrittenChoice → List Choice
choices_in cs = map (read_choice (names_of cs)) cs

-- labels 0
pub zeros : (n : ℕ) → Each (λ (l : ℕ). l ≡ 0) (replicate n 0)
unfolding Each
zeros zero = tt
zeros (suc n) = (refl, zeros n)

as_many : (c : Choice) → length (transition_of c).entries ≡ length c.entries
unfolding transition_of transition_over
as_many c = length-map c.entries _

as_written : (names : List (List ℕ)) (c : WrittenChoice) → length (read_choice names c).entries ≡ length c.targets
unfolding read_choice
as_written names c = length-map c.targets _

in_order : (c d : WrittenChoice) → NextChoice c d → c.source ≤ d.source
unfolding NextChoice
in_order c d (inl e) = omega arith
in_order c d (inr e) = omega arith

module _ {L : Limits} {h : Head} {cs : List WrittenChoice} (rules : TextRules L h cs) where
  -- all choices of a text are read as ones that keep the rules
  pub text-choices : Each (HeldChoice h.states (length (names_of cs) + 1)) (choices_in cs)
  text-choices =
      each-mapped (read_choice (names_of cs)) _ _ (λ c k. read_held h.states (names_of cs) c k.0 k.1) cs
      (each_both _ _ cs rules.each (names-known [] cs))

  -- the model that a text holds is sound
  pub held-sound : SoundModel L (held_model h (names_of cs) (choices_in cs))
  unfolding held_model transition_of transition_over read_choice
  held-sound =
      let n = h.states in
      let m = length (names_of cs) + 1 in
      let states : length {A = ℕ} (replicate n 0) ≡ n = length-replicate n 0 in
      let lines : sum_over (λ (t : Transition). length t.entries) (map transition_of (choices_in cs)) ≡ sum_over (λ (c : WrittenChoice). length c.targets) cs =
      sum-mapped transition_of (λ (c : Choice). length c.entries) _ (λ c. as_many c) (choices_in cs)
      ∙ sum-mapped (read_choice (names_of cs)) (λ (c : WrittenChoice). length c.targets) _ (λ c. as_written (names_of cs) c) cs in
      record {
        some_state = omega (arith, rules.some_state);
        states = omega (arith, rules.states);
        some_action = omega arith;
        actions = omega (arith, rules.names);
        count = omega (arith, length-map (choices_in cs) transition_of, length-map cs (read_choice (names_of cs)), rules.choices, rules.most_choices);
        labels = each_map (λ (l : ℕ). l ≡ 0) _ (λ l e. omega arith) _ (zeros n);
        transitions =
            subst (λ (k : ℕ). Each (TransitionRules k m) (map transition_of (choices_in cs))) (sym states)
            (each-mapped transition_of _ _ (λ c k. held-transition c k) (choices_in cs) text-choices);
        sources =
            along-mapped transition_of (λ (c d : Choice). c.source ≤ d.source) _ (λ c d k. k) (choices_in cs)
            (along-mapped (read_choice (names_of cs)) NextChoice _ (λ c d k. in_order c d k) cs rules.order);
        entries = omega (arith, lines, rules.lines, rules.most_lines);
        terms = each-mapped transition_of _ _ (λ c k. lowest-has L.terms (transition_of c) (held-lowest c k)) (choices_in cs) text-choices;
      }

module _ {L : Limits} {text : List ℕ} {M : Model} (allowed : AllowedText L text M) where
  -- the model that an allowed text holds is sound
  pub allowed-sound : SoundModel L M
  allowed-sound = subst (SoundModel L) (sym allowed.model) (held-sound allowed.rules)

  -- its bytes are the file of a sound model
  pub allowed-file : FileOf L (model_bytes M) M
  allowed-file = record { sound = allowed-sound; encoded = refl }

  -- which is read back
  pub allowed-back : FitsWidths L → rules-reading.read_whole L (model_bytes M) ≡ rules-reading.model M (length (model_bytes M))
  allowed-back fits = read-back-whole L M fits allowed-sound

  -- each transition of it is in lowest terms
  pub allowed-lowest : Each LowestTerms M.transitions
  unfolding held_model
  allowed-lowest =
      subst (λ (N : Model). Each LowestTerms N.transitions) (sym allowed.model)
      (each-mapped transition_of _ _ (λ c k. held-lowest c k) _ (text-choices allowed.rules))

  -- and they hold the text's choices, one by one in their order
  pub allowed-holds : Beside (Holds (names_of allowed.choices)) allowed.choices M.transitions
  unfolding held_model
  allowed-holds =
      let cs = allowed.choices in
      let names = names_of cs in
      subst (λ (N : Model). Beside (Holds names) cs N.transitions) (sym allowed.model)
      (subst (Beside (Holds names) cs) (sym (map-map transition_of (read_choice names) cs))
      (beside-mapped (λ (c : WrittenChoice). transition_of (read_choice names c)) _ _ (λ c k. choice-holds allowed.head.states names c k.0 k.1) cs
      (each_both _ _ cs allowed.rules.each (names-known [] cs))))
