-- A model that a text can hold is held by its own text.
use Rattle.std.specs.Prelude.{ℕ, suc, ◌+◌, ◌*◌, ◌-◌, ◌/◌, ◌≤◌, ◌<◌, max, ◌≡◌, ◌⊎◌, ◌↔◌, length, replicate}
use Rattle.std.proofs.Math.Path.{refl, sym, ap, subst}
use Rattle.std.proofs.Common.{◌∙◌, ap₂, inl, inr, mul-le-mul_right, zero-mul}
use mathlib.Core.List.{List, [], ◌∷◌, map}
use Rattle.std.proofs.Math.ListN.{length-map}
use Rattle.std.proofs.Math.Decide.{ℕ_discrete}
use native.Mathlib.Omega.{arith}
use Rattle.std.proofs.Math.Nat.{div-div-eq-div-mul, div-eq_of_eq-mul_left, mul-div_cancel, one-le-mul, one-mul}
use Rattle.bisimulation.specs.definitions.Choice.{if_same}
use Rattle.bisimulation.proofs.argument.ChoiceLaws.{same, not_same, either_same}
use Rattle.numbers.specs.definitions.Decimal.{value_from, value_of}
use Rattle.numbers.specs.definitions.Divisor.{divisor_of, Divides}
use Rattle.numbers.proofs.argument.DivisorLaws.{DividesEach, divided-times, divided-some, divisor_of-times, lowest-exactly}
use Rattle.rules.specs.definitions.Limits.{Limits}
use Rattle.rules.specs.definitions.Model.{Entry, Transition, Model}
use Rattle.rules.specs.definitions.SoundModel.{Each, Along, sum_over, TransitionRules, LowestTerms}
use Rattle.rules.proofs.argument.SoundModelLaws.{each_map}
use Rattle.rules.proofs.argument.MappedLists.{each_both, each-most, each-mapped, along-mapped}
use Rattle.prism.specs.definitions.Reading.{action_of, with_name}
use Rattle.prism.specs.definitions.HeldModel.{weights_of, entry_over, transition_over, transition_of, held_model}
use Rattle.prism.specs.definitions.AllowedText.{one, point, WrittenChoice, ProbabilityRules, parts_of, ChoiceRules, NextChoice, FirstChoice, names_from, names_of, read_choice, AllowedText}
use Rattle.prism.specs.definitions.WrittenText.{four_digits, probability_of, target_of, name_of, choice_of, choices_from, head_of, text_of, BySight, Writable}
use Rattle.prism.proofs.argument.NameLaws.{action-most, with-count, seen-from}
use Rattle.prism.proofs.argument.ChoiceLines.{entry_for, sum-targets}
use Rattle.prism.proofs.argument.HeldLaws.{divisor_in, denominator-times, choices_in, zeros, text-choices, allowed-sound, allowed-lowest}
use Rattle.prism.proofs.argument.WrittenNames.{names_to, count-names, action-seen, names-written, name-shown}

-- four digits: they are digits, and their value is the number
four-digits : (p : ℕ) → p < 10000 → Each (λ (b : ℕ). (0x30 ≤ b) × (b ≤ 0x39)) (four_digits p)
unfolding four_digits Each
four-digits p h = omega arith

four-value : (p : ℕ) → p < 10000 → value_of (four_digits p) ≡ p
unfolding four_digits value_of value_from
four-value p h = omega (arith, div-div-eq-div-mul p 10 10, div-div-eq-div-mul p 100 10)

-- a probability of 1 to 10,000 parts keeps the rules, and has so many parts
probability-rules : (p : ℕ) → 1 ≤ p → p ≤ 10000 → ProbabilityRules (probability_of p)
unfolding ProbabilityRules probability_of
probability-rules p some most = go (ℕ_discrete p 10000)
  where
    go : Dec (p ≡ 10000) → ProbabilityRules (if_same p 10000 one (point (four_digits p)))
    go (yes e) = subst ProbabilityRules (same _ e refl) (unfold ProbabilityRules in tt)
    go (no n) =
        let small : p < 10000 = omega arith in
        subst ProbabilityRules (not_same one n refl)
        (unfold ProbabilityRules four_digits in (omega arith, omega arith, four-digits p small, omega (arith, four-value p small)))

parts-back : (p : ℕ) → p ≤ 10000 → parts_of (probability_of p) ≡ p
unfolding probability_of
parts-back p most = go (ℕ_discrete p 10000)
  where
    go : Dec (p ≡ 10000) → parts_of (if_same p 10000 one (point (four_digits p))) ≡ p
    go (yes e) = ap parts_of (sym (same _ e refl)) ∙ (unfold parts_of in sym e)
    go (no n) =
        ap parts_of (sym (not_same one n refl)) ∙ (unfold parts_of four_digits in ap (λ (v : ℕ). v * 1) (four-value p (omega arith)) ∙ omega arith)

-- an entry in ten-thousandths
unfoldable times_entry : ℕ → Entry → Entry
times_entry g e = record { state = e.state; weight = e.weight * g }

module _ (g : ℕ) where
  -- targets as reading has them
  entries-read : (es : List Entry) → Each (λ (e : Entry). e.weight * g ≤ 10000) es → map entry_for (map (target_of g) es) ≡ map (times_entry g) es
  unfolding Each target_of times_entry
  entries-read [] h = refl
  entries-read (e ∷ es) h = λ i. record { state = e.state; weight = parts-back (e.weight * g) h.0 i } ∷ entries-read es h.1 i

  weights-times : (es : List Entry) → weights_of (map (times_entry g) es) ≡ map (λ (x : ℕ). x * g) (weights_of es)
  unfolding times_entry
  weights-times [] = refl
  weights-times (e ∷ es) = ap (λ (ws : List ℕ). (e.weight * g) ∷ ws) (weights-times es)

  sum-times : (es : List Entry) → sum_over (λ (e : Entry). e.weight) (map (times_entry g) es) ≡ sum_over (λ (e : Entry). e.weight) es * g
  unfolding times_entry sum_over
  sum-times [] = omega arith
  sum-times (e ∷ es) = omega (arith, sum-times es)

  entries_over : 1 ≤ g → (es : List Entry) → map (entry_over g) (map (times_entry g) es) ≡ es
  unfolding times_entry entry_over
  entries_over some [] = refl
  entries_over some (e ∷ es) = λ i. record { state = e.state; weight = mul-div_cancel e.weight some i } ∷ entries_over some es i

each-divides : (k : ℕ) (es : List Entry) → DividesEach k (weights_of es) → Each (λ (e : Entry). Divides k e.weight) es
unfolding Each DividesEach
each-divides k [] d = tt
each-divides k (e ∷ es) d = (d.0, each-divides k es d.1)

-- a transition that keeps the rules, in lowest terms over a denominator that divides 10,000, written as a choice
module _ (n m : ℕ) (t : Transition) (rules : TransitionRules n m t) (decimals : Divides t.denominator 10000) where
  abbrev times : ℕ
  times = 10000 / t.denominator

  is_whole : times * t.denominator ≡ 10000
  is_whole = divided-times decimals

  times-some : 1 ≤ times
  times-some = divided-some decimals (omega arith)

  parts-most : Each (λ (e : Entry). e.weight * times ≤ 10000) t.entries
  parts-most =
      each_map (λ (e : Entry). e.weight ≤ t.denominator) _ (λ e k. omega (arith, mul-le-mul_right times k, is_whole)) t.entries
      (each-most _ t.denominator t.entries (omega (arith, rules.whole)))

  read-entries : map entry_for (map (target_of times) t.entries) ≡ map (times_entry times) t.entries
  read-entries = entries-read times t.entries parts-most

  choice-rules : (k : ℕ) → ChoiceRules n (choice_of k t)
  unfolding choice_of target_of
  choice-rules k =
      let es = t.entries in
      let xs = map (target_of times) es in
      record {
        source = rules.source;
        some = omega (arith, length-map es (target_of times), rules.some);
        states = each-mapped (target_of times) _ _ (λ e h. h) es rules.states;
        ascend = along-mapped (target_of times) _ _ (λ e f h. h) es rules.ascend;
        name = name-shown t.action;
        probabilities =
            each-mapped (target_of times) _ _ (λ e h. probability-rules (e.weight * times) (one-le-mul h.0 times-some) h.1) es
            (each_both _ _ es rules.weights parts-most);
        whole =
            sym (sum-targets xs)
            ∙ ap (sum_over (λ (e : Entry). e.weight)) read-entries
            ∙ sum-times times es
            ∙ omega (arith, ap (λ (z : ℕ). z * times) rules.whole, is_whole);
      }

  -- it is held as the transition again
  choice-held : LowestTerms t → (names : List (List ℕ)) → action_of names (name_of t.action) ≡ t.action → (k : ℕ) → transition_of (read_choice names (choice_of k t)) ≡ t
  unfolding LowestTerms transition_of transition_over read_choice choice_of
  choice-held lowest names action k =
      let es = t.entries in
      let ones : divisor_of 0 (weights_of es) ≡ 1 =
      (lowest-exactly (weights_of es)).1 (λ j d. lowest j (each-divides j es d)) in
      let scaled : divisor_of 0 (map (λ (x : ℕ). x * times) (weights_of es)) ≡ times =
      ap (λ (z : ℕ). divisor_of z (map (λ (x : ℕ). x * times) (weights_of es))) (sym (zero-mul times))
      ∙ divisor_of-times times 0 (weights_of es)
      ∙ ap (λ (z : ℕ). z * times) ones
      ∙ one-mul times in
      let is_times : divisor_of 0 (weights_of (map entry_for (map (target_of times) es))) ≡ times =
      ap (λ (xs : List Entry). divisor_of 0 (weights_of xs)) read-entries ∙ ap (divisor_of 0) (weights-times times es) ∙ scaled in
      let is_d : 10000 / times ≡ t.denominator = div-eq_of_eq-mul_left times-some (omega (arith, is_whole)) in
      λ i.
      record {
        source = t.source;
        action = action i;
        denominator = (ap (λ (g : ℕ). 10000 / g) is_times ∙ is_d) i;
        entries = (ap₂ (λ (g : ℕ) (xs : List Entry). map (entry_over g) xs) is_times read-entries ∙ entries_over times times-some es) i;
      }

-- each choice of the transitions, whatever its number
each-choice : (P : Transition → Type 0) (Q : WrittenChoice → Type 0) → ((t : Transition) → P t → (k : ℕ) → Q (choice_of k t)) → (ts : List Transition) (last next : ℕ) → Each P ts → Each Q (choices_from last next ts)
unfolding Each choices_from
each-choice P Q make [] last next h = tt
each-choice P Q make (t ∷ ts) last next h = (make t h.0 _, each-choice P Q make ts t.source _ h.1)

count-choices : (ts : List Transition) (last next : ℕ) → length (choices_from last next ts) ≡ length ts
unfolding choices_from
count-choices [] last next = refl
count-choices (t ∷ ts) last next = ap suc (count-choices ts t.source _)

count-lines : (ts : List Transition) (last next : ℕ) → sum_over (λ (c : WrittenChoice). length c.targets) (choices_from last next ts) ≡ sum_over (λ (t : Transition). length t.entries) ts
unfolding choices_from choice_of sum_over
count-lines [] last next = refl
count-lines (t ∷ ts) last next =
    omega (arith, length-map t.entries (target_of (10000 / t.denominator)), count-lines ts t.source (if_same t.source last next 0 + 1))

-- 'Sources never descend; choices of a source count up from 0'
next-choice : (k : ℕ) (t u : Transition) → t.source ≤ u.source → NextChoice (choice_of k t) (choice_of (if_same u.source t.source (k + 1) 0) u)
unfolding NextChoice choice_of
next-choice k t u h = go (ℕ_discrete u.source t.source)
  where
    Number : ℕ → Type 0
    Number j = ((u.source ≡ t.source) × (j ≡ k + 1)) ⊎ ((t.source < u.source) × (j ≡ 0))

    go : Dec (u.source ≡ t.source) → Number (if_same u.source t.source (k + 1) 0)
    go (yes e) = inl (e, sym (same 0 e refl))
    go (no n) = inr (omega arith, sym (not_same (k + 1) n refl))

choices-order : (ts : List Transition) (last next : ℕ) → Along (λ (t u : Transition). t.source ≤ u.source) ts → Along NextChoice (choices_from last next ts)
unfolding Along choices_from
choices-order [] last next h = tt
choices-order (t ∷ []) last next h = tt
choices-order (t ∷ u ∷ ts) last next h =
    (next-choice (if_same t.source last next 0) t u h.0, choices-order (u ∷ ts) t.source (if_same t.source last next 0 + 1) h.1)

first-choice : (ts : List Transition) → FirstChoice (choices_from 0 0 ts)
unfolding FirstChoice choices_from choice_of
first-choice [] = tt
first-choice (t ∷ ts) = either_same (λ (k : ℕ). k ≡ 0) t.source 0 refl refl

-- the choices are held as the transitions again
choices-held : (names : List (List ℕ)) (ts : List Transition) (last next : ℕ) → Each (λ (t : Transition). (k : ℕ) → transition_of (read_choice names (choice_of k t)) ≡ t) ts → map transition_of (map (read_choice names) (choices_from last next ts)) ≡ ts
unfolding Each choices_from
choices-held names [] last next h = refl
choices-held names (t ∷ ts) last next h = ap₂ ◌∷◌ (h.0 _) (choices-held names ts t.source _ h.1)

zeros-held : (ls : List ℕ) → Each (λ (l : ℕ). l ≡ 0) ls → replicate (length ls) 0 ≡ ls
unfolding Each
zeros-held [] h = refl
zeros-held (l ∷ ls) h = ap₂ ◌∷◌ (sym h.0) (zeros-held ls h.1)

-- a model that a text can hold is held by its own text, which is allowed
pub written-allowed : (L : Limits) (M : Model) → Writable L M → AllowedText L (text_of M) M
unfolding text_of head_of held_model names_to
written-allowed L M w =
    let ts = M.transitions in
    let cs = choices_from 0 0 ts in
    let n = length M.labels in
    let s = M.actions - 1 in
    let counted : M.actions ≡ s + 1 = omega (arith, w.sound.some_action) in
    let names : names_of cs ≡ names_to s = names-written s M.actions counted ts 0 0 0 w.actions in
    let count : length (names_of cs) ≡ s = ap length names ∙ count-names s in
    let ruled = each_both _ _ ts w.sound.transitions w.decimals in
    let held : Each (λ (t : Transition). (k : ℕ) → transition_of (read_choice (names_of cs) (choice_of k t)) ≡ t) ts =
    each_map _ _ (λ t h k. choice-held n M.actions t h.0.0 h.0.1 h.1 (names_of cs)
    (ap (λ (xs : List (List ℕ)). action_of xs (name_of t.action)) names ∙ action-seen s t.action (omega (arith, h.0.0.action))) k) ts
    (each_both _ _ ts ruled w.lowest) in
    let actions : M.actions ≡ length (names_of cs) + 1 = omega arith in
    record {
      head = head_of M;
      choices = cs;
      rules =
          record {
            some_state = w.sound.some_state;
            states = w.sound.states;
            choices = count-choices ts 0 0;
            most_choices = w.sound.count;
            lines = count-lines ts 0 0;
            most_lines = w.sound.entries;
            names = omega (arith, count, w.sound.actions);
            each = each-choice _ _ (λ t h k. choice-rules n M.actions t h.0 h.1 k) ts 0 0 ruled;
            order = choices-order ts 0 0 w.sound.sources;
            first = first-choice ts;
          };
      bytes = refl;
      model = λ i.
          record {
            actions = actions i;
            labels = sym (zeros-held M.labels w.labels) i;
            transitions = sym (choices-held (names_of cs) ts 0 0 held) i;
          };
    }

-- the actions of a text's choices are numbered by first sight
by-sight : (seen : List (List ℕ)) (cs : List WrittenChoice) → BySight (length seen) (length (names_from seen cs) + 1) (map transition_of (map (read_choice (names_from seen cs)) cs))
unfolding BySight names_from transition_of transition_over read_choice
by-sight seen [] = refl
by-sight seen (c ∷ cs) =
    let later = with_name seen c.name in
    let stays = (seen-from seen c.name cs).action in
    let counted : length later ≡ max (length seen) (action_of (names_from later cs) c.name) = omega (arith, with-count seen c.name) in
    let names = names_from later cs in
    (omega (arith, stays, action-most seen c.name), subst (λ (k : ℕ). BySight k (length names + 1) (map transition_of (map (read_choice names) cs))) counted (by-sight later cs))

-- and every model that a text holds is one that its own text holds
pub allowed-writable : {L : Limits} {text : List ℕ} {M : Model} → AllowedText L text M → Writable L M
unfolding held_model
allowed-writable {L} {text} {M} allowed =
    let held : (P : Model → Type 0) → P (held_model allowed.head (names_of allowed.choices) (choices_in allowed.choices)) → P M = λ P h.
    subst P (sym allowed.model) h in
    record {
      sound = allowed-sound allowed;
      labels = held (λ (N : Model). Each (λ (l : ℕ). l ≡ 0) N.labels) (zeros allowed.head.states);
      decimals =
          held (λ (N : Model). Each (λ (t : Transition). Divides t.denominator 10000) N.transitions)
          (each-mapped transition_of _ _ (λ c h. record { times = divisor_in c; product = omega (arith, denominator-times c h) }) _ (text-choices allowed.rules));
      lowest = allowed-lowest allowed;
      actions = held (λ (N : Model). BySight 0 N.actions N.transitions) (by-sight [] allowed.choices);
    }

-- so the models that texts hold are these
pub held-exactly : (L : Limits) (M : Model) → Writable L M ↔ ((text : List ℕ) × AllowedText L text M)
held-exactly L M = (λ w. (text_of M, written-allowed L M w), λ t. allowed-writable t.1)
