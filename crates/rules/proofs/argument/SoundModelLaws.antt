-- Laws of the rules of a model: the automaton of a sound model is sound, and its file is bytes.
use Prim.Native.Nat.{ℕ, zero, suc, ◌+◌, ◌≤◌, ◌<◌}
use Rattle.std.specs.Prelude.{◌≡◌, length, get_or}
use Rattle.std.proofs.Math.Path.{refl, ap}
use Rattle.std.proofs.Common.{sym, ◌∙◌}
use mathlib.Core.List.{List, [], ◌∷◌, ◌++◌}
use Rattle.std.proofs.Math.Decide.{ℕ_discrete}
use native.Mathlib.Omega.{arith}
use Rattle.bisimulation.specs.definitions.Choice.{if_same}
use Rattle.bisimulation.proofs.argument.ChoiceLaws.{same, not_same}
use Rattle.bisimulation.specs.definitions.Sum.{sum}
use Rattle.bisimulation.specs.definitions.Automaton.{SoundAutomaton}
use Rattle.rules.specs.definitions.Limits.{Terms, any_terms, lowest_terms, Limits, limits, with_terms, current}
use Rattle.rules.specs.definitions.Bytes.{byte_at, two_bytes}
use Rattle.rules.specs.definitions.Model.{Entry, Transition, Model, entries_bytes, transition_bytes, transitions_bytes, head_bytes, labels_bytes, model_bytes, weight_of, no_transition, automaton_of}
use Rattle.rules.specs.definitions.SoundModel.{Each, Along, sum_over, Bytes, TransitionRules, LowestTerms, HasTerms, SoundModel, FitsWidths}

pub limits-fit : FitsWidths limits
limits-fit = omega arith

pub current-fit : FitsWidths current
current-fit = omega arith

-- what holds of each element holds of the one at a position
pub each_at : {A : Type 0} (P : A → Type 0) (xs : List A) (i : ℕ) (d : A) → Each P xs → i < length xs → P (get_or xs i d)
unfolding Each
each_at P [] i d h less = absurd (omega arith)
each_at P (x ∷ xs) zero d h less = h.0
each_at P (x ∷ xs) (suc i) d h less = each_at P xs i d h.1 (omega arith)

-- and the other way round
pub at_each : {A : Type 0} (P : A → Type 0) (xs : List A) (d : A) → ((i : ℕ) → i < length xs → P (get_or xs i d)) → Each P xs
unfolding Each
at_each P [] d h = tt
at_each P (x ∷ xs) d h = (h 0 (omega arith), at_each P xs d (λ i less. h (suc i) (omega arith)))

-- what follows from P of one element follows of each, and each of two lists are each of the two in a row
pub each_map : {A : Type 0} (P Q : A → Type 0) → ((x : A) → P x → Q x) → (xs : List A) → Each P xs → Each Q xs
unfolding Each
each_map P Q f [] h = tt
each_map P Q f (x ∷ xs) h = (f x h.0, each_map P Q f xs h.1)

pub each_append : {A : Type 0} (P : A → Type 0) (xs ys : List A) → Each P xs → Each P ys → Each P (xs ++ ys)
unfolding Each
each_append P [] ys h k = k
each_append P (x ∷ xs) ys h k = (h.0, each_append P xs ys h.1 k)

pub each-parts : {A : Type 0} (P : A → Type 0) (xs ys : List A) → Each P (xs ++ ys) → Each P xs × Each P ys
unfolding Each
each-parts P [] ys h = (tt, h)
each-parts P (x ∷ xs) ys h = let k = each-parts P xs ys h.1 in ((h.0, k.0), k.1)

-- the first number is not below `lowest`, and none is below what `next` says of the element before it
unfoldable pub From : {A : Type 0} → (A → ℕ) → (A → ℕ) → ℕ → List A → Type 0
From f next lowest [] = Unit
From f next lowest (x ∷ xs) = (lowest ≤ f x) × From f next (next x) xs

module _ {A : Type 0} (f next : A → ℕ) where
  pub from-lower : (xs : List A) (low lowest : ℕ) → low ≤ lowest → From f next lowest xs → From f next low xs
  unfolding From
  from-lower [] low lowest le h = tt
  from-lower (x ∷ xs) low lowest le h = (omega arith, h.1)

  after-along : (x : A) (xs : List A) → Along (λ (a b : A). next a ≤ f b) (x ∷ xs) → From f next (next x) xs
  unfolding From Along
  after-along x [] h = tt
  after-along x (y ∷ xs) h = (h.0, after-along y xs h.1)

  pub from-along : (xs : List A) → Along (λ (a b : A). next a ≤ f b) xs → From f next 0 xs
  unfolding From
  from-along [] h = tt
  from-along (x ∷ xs) h = (omega arith, after-along x xs h)

  along-after : (x : A) (xs : List A) → From f next (next x) xs → Along (λ (a b : A). next a ≤ f b) (x ∷ xs)
  unfolding From Along
  along-after x [] h = tt
  along-after x (y ∷ xs) h = (h.0, along-after y xs h.1)

  pub along-from : (xs : List A) (lowest : ℕ) → From f next lowest xs → Along (λ (a b : A). next a ≤ f b) xs
  unfolding From Along
  along-from [] lowest h = tt
  along-from (x ∷ xs) lowest h = along-after x xs h.1

-- 'Entry states strictly ascend', from a lowest one on; 'Sources never descend'
abbrev pub StatesFrom : ℕ → List Entry → Type 0
StatesFrom = From (λ (e : Entry). e.state) (λ (e : Entry). suc e.state)

abbrev pub SourcesFrom : ℕ → List Transition → Type 0
SourcesFrom = From (λ (t : Transition). t.source) (λ (t : Transition). t.source)

-- a state below the lowest has no weight
pub no-weight : (es : List Entry) (lowest v : ℕ) → StatesFrom lowest es → v < lowest → weight_of es v ≡ 0
unfolding From weight_of
no-weight [] lowest v h less = refl
no-weight (e ∷ es) lowest v h less =
    sym (not_same e.weight (omega arith) (sym (no-weight es (suc e.state) v h.1 (omega arith))))

-- a sum of f with w in place of f a
module _ (a w : ℕ) (f : ℕ → ℕ) where
  sum-without : (n : ℕ) → n ≤ a → sum n (λ v. if_same a v w (f v)) ≡ sum n f
  unfolding sum
  sum-without zero h = refl
  sum-without (suc n) h =
      let last : f n ≡ if_same a n w (f n) = not_same w (omega arith) refl in
      let ih = sum-without n (omega arith) in
      omega arith

  pub sum-with : f a ≡ 0 → (n : ℕ) → a < n → sum n (λ v. if_same a v w (f v)) ≡ w + sum n f
  unfolding sum
  sum-with none zero h = absurd (omega arith)
  sum-with none (suc n) h = go (ℕ_discrete a n) (sum-with none n)
    where
      go : Dec (a ≡ n) → (a < n → sum n (λ v. if_same a v w (f v)) ≡ w + sum n f) → sum n (λ v. if_same a v w (f v)) + if_same a n w (f n) ≡ w + (sum n f + f n)
      go (yes q) ih =
          let last : w ≡ if_same a n w (f n) = same (f n) q refl in
          let before = sum-without n (omega arith) in
          let here : f n ≡ 0 = ap f (sym q) ∙ none in
          omega arith
      go (no q) ih =
          let last : f n ≡ if_same a n w (f n) = not_same w q refl in
          let before = ih (omega arith) in
          omega arith

sum-zero : (n : ℕ) → sum n (λ v. 0) ≡ 0
unfolding sum
sum-zero zero = refl
sum-zero (suc n) = omega (arith, sum-zero n)

-- the sum over all states is the sum over the entries
pub sum-weights : (n : ℕ) (es : List Entry) (lowest : ℕ) → StatesFrom lowest es → Each (λ (e : Entry). e.state < n) es → sum n (weight_of es) ≡ sum_over (λ (e : Entry). e.weight) es
unfolding From Each sum_over weight_of
sum-weights n [] lowest from known = sum-zero n
sum-weights n (e ∷ es) lowest from known =
    sum-with e.state e.weight (weight_of es) (no-weight es (suc e.state) e.state from.1 (omega arith)) n known.0 ∙ ap (λ (k : ℕ). e.weight + k) (sum-weights n es (suc e.state) from.1 known.1)

-- 'weights p(v) with sum d': the automaton of a sound model
pub sound-automaton : (L : Limits) (M : Model) → SoundModel L M → SoundAutomaton (automaton_of M)
unfolding SoundAutomaton automaton_of
sound-automaton L M ok q less =
    let t = get_or M.transitions q no_transition in
    let rules : TransitionRules (length M.labels) M.actions t = each_at (TransitionRules (length M.labels) M.actions) M.transitions q no_transition ok.transitions less in
    record {
      from = rules.source;
      known = rules.action;
      positive = rules.positive;
      whole = sum-weights (length M.labels) t.entries 0 (from-along _ _ t.entries rules.ascend) rules.states ∙ rules.whole;
    }

-- the file of a sound model is bytes, where the limits fit the widths
abbrev EachByte : List ℕ → Type 0
EachByte = Each (λ (b : ℕ). b < 256)

one_byte : (x : ℕ) (xs : List ℕ) → x < 256 → EachByte xs → EachByte (x ∷ xs)
unfolding Each
one_byte x xs h k = (h, k)

two_bytes_lem : (x : ℕ) → EachByte (two_bytes x)
unfolding Each two_bytes
two_bytes_lem x = omega arith

entry-bytes : (n : ℕ) → n ≤ 255 → (es : List Entry) → Each (λ (e : Entry). e.state < n) es → EachByte (entries_bytes es)
unfolding Each entries_bytes
entry-bytes n small [] known = tt
entry-bytes n small (e ∷ es) known =
    (omega arith, each_append _ (two_bytes e.weight) (entries_bytes es) (two_bytes_lem e.weight) (entry-bytes n small es known.1))

transition-bytes : (n m : ℕ) → n ≤ 255 → m ≤ 255 → (t : Transition) → TransitionRules n m t → EachByte (transition_bytes t)
unfolding transition_bytes
transition-bytes n m states actions t rules =
    one_byte _ _ (omega arith)
    (one_byte _ _ (omega arith)
    (one_byte _ _ (omega arith)
    (one_byte _ _ (omega arith)
    (each_append _ _ _ (two_bytes_lem _)
    (one_byte _ _ (omega arith)
    (entry-bytes n states t.entries rules.states))))))

transitions-bytes : (n m : ℕ) → n ≤ 255 → m ≤ 255 → (ts : List Transition) → Each (TransitionRules n m) ts → EachByte (transitions_bytes ts)
unfolding Each transitions_bytes
transitions-bytes n m states actions [] rules = tt
transitions-bytes n m states actions (t ∷ ts) rules =
    each_append _ (transition_bytes t) (transitions_bytes ts) (transition-bytes n m states actions t rules.0)
    (transitions-bytes n m states actions ts rules.1)

pub sound-bytes : (L : Limits) (M : Model) → FitsWidths L → SoundModel L M → Bytes (model_bytes M)
unfolding Bytes byte_at model_bytes head_bytes labels_bytes
sound-bytes L M fits ok i less =
    each_at (λ (b : ℕ). b < 256) (model_bytes M) i 0
    (one_byte _ _ (omega arith)
    (one_byte _ _ (omega arith)
    (one_byte _ _ (omega arith)
    (one_byte _ _ (omega arith)
    (each_append _ (two_bytes (length M.transitions)) _ (two_bytes_lem _)
    (one_byte _ _ (omega arith)
    (one_byte _ _ (omega arith)
    (each_append _ M.labels _ (each_map (λ (b : ℕ). b ≤ L.label) (λ (b : ℕ). b < 256) (λ b h. omega (arith, fits.label)) M.labels ok.labels)
    (transitions-bytes (length M.labels) M.actions (omega arith) (omega arith) M.transitions ok.transitions)))))))))
    less

-- limits with other terms fit too
pub with-fits : (terms : Terms) (L : Limits) → FitsWidths L → FitsWidths (with_terms terms L)
with-fits terms L fits = record { states = fits.states; actions = fits.actions; transitions = fits.transitions; label = fits.label }

-- any transitions have any terms
pub each-any : (ts : List Transition) → Each (HasTerms any_terms) ts
unfolding Each HasTerms
each-any [] = tt
each-any (t ∷ ts) = (tt, each-any ts)

-- a model that is sound in some terms is sound in any
pub sound-any : (L : Limits) (M : Model) → SoundModel L M → SoundModel (with_terms any_terms L) M
sound-any L M ok =
    record {
      some_state = ok.some_state;
      states = ok.states;
      some_action = ok.some_action;
      actions = ok.actions;
      count = ok.count;
      labels = ok.labels;
      transitions = ok.transitions;
      sources = ok.sources;
      entries = ok.entries;
      terms = each-any M.transitions;
    }

-- lowest terms are terms of either kind
pub lowest-has : (terms : Terms) (t : Transition) → LowestTerms t → HasTerms terms t
unfolding HasTerms
lowest-has any_terms t low = tt
lowest-has lowest_terms t low = low
