-- The joined model of two sound models is sound within the limits, its file reads back as it, and its automaton is the joined one.
use Rattle.std.specs.Prelude.{ℕ, zero, suc, ◌+◌, ◌≤◌, ◌<◌, ◌≡◌, get_or}
use Rattle.std.proofs.Math.Path.{refl, sym, ap}
use Rattle.std.proofs.Common.{◌∙◌}
use mathlib.Core.List.{List, [], ◌∷◌, ◌++◌, map}
use Rattle.std.proofs.Math.ListN.{length, length-append, length-map}
use Rattle.std.proofs.Math.Decide.{ℕ_discrete}
use native.Mathlib.Omega.{arith}
use Rattle.bisimulation.specs.definitions.Choice.{if_same}
use Rattle.bisimulation.proofs.argument.ChoiceLaws.{same, not_same}
use Rattle.bisimulation.proofs.argument.LargerLaws.{larger_above, larger_most}
use Rattle.numbers.specs.definitions.Divisor.{Divides}
use Rattle.rules.specs.definitions.Limits.{Terms, any_terms, lowest_terms, Limits}
use Rattle.rules.specs.definitions.Model.{Entry, Transition, Model, no_transition, weight_of, automaton_of, model_bytes}
use Rattle.rules.specs.definitions.Reading.{model, read_whole}
use Rattle.rules.specs.definitions.SoundModel.{Each, Along, sum_over, TransitionRules, LowestTerms, HasTerms, entry_count, SoundModel, FitsWidths}
use Rattle.rules.proofs.argument.SoundModelLaws.{each_at, each_append, each_map}
use Rattle.rules.proofs.argument.MappedLists.{sum-append}
use Rattle.rules.proofs.argument.ReadBack.{read-back-whole}
use Rattle.bisimulation.specs.definitions.Joined.{larger, IsJoined}
use Rattle.rules.proofs.argument.LengthLaws.{file-length, Within}
use Rattle.joined.specs.definitions.Joined.{raised_entry, raised_transition, joined, joined_file}

-- an element of two lists in a row
get_first : {X : Type 0} (xs ys : List X) (d : X) (i : ℕ) → i < length xs → get_or (xs ++ ys) i d ≡ get_or xs i d
get_first [] ys d i h = absurd (omega arith)
get_first (x ∷ xs) ys d zero h = refl
get_first (x ∷ xs) ys d (suc i) h = get_first xs ys d i (omega arith)

get-second : {X : Type 0} (xs ys : List X) (d : X) (i : ℕ) → get_or (xs ++ ys) (length xs + i) d ≡ get_or ys i d
get-second [] ys d i = let e : 0 + i ≡ i = omega arith in ap (λ (j : ℕ). get_or ys j d) e
get-second (x ∷ xs) ys d i =
    let e : suc (length xs) + i ≡ suc (length xs + i) = omega arith in
    ap (λ (j : ℕ). get_or (x ∷ (xs ++ ys)) j d) e ∙ get-second xs ys d i

get-map : {X : Type 0} (f : X → X) (xs : List X) (d : X) (i : ℕ) → i < length xs → get_or (map f xs) i d ≡ f (get_or xs i d)
get-map f [] d i h = absurd (omega arith)
get-map f (x ∷ xs) d zero h = refl
get-map f (x ∷ xs) d (suc i) h = get-map f xs d i (omega arith)

-- the entries raised
module _ (k : ℕ) where
  raised-each : (P Q : Entry → Type 0) → ((e : Entry) → P e → Q (raised_entry k e)) → (es : List Entry) → Each P es → Each Q (map (raised_entry k) es)
  unfolding Each
  raised-each P Q f [] h = tt
  raised-each P Q f (e ∷ es) h = (f e h.0, raised-each P Q f es h.1)

  raised-ascend : (es : List Entry) → Along (λ (e f : Entry). e.state < f.state) es → Along (λ (e f : Entry). e.state < f.state) (map (raised_entry k) es)
  unfolding Along raised_entry
  raised-ascend [] h = tt
  raised-ascend (e ∷ []) h = tt
  raised-ascend (e ∷ f ∷ es) h = (omega (arith, h.0), raised-ascend (f ∷ es) h.1)

  raised-sum : (es : List Entry) → sum_over (λ (e : Entry). e.weight) (map (raised_entry k) es) ≡ sum_over (λ (e : Entry). e.weight) es
  unfolding sum_over raised_entry
  raised-sum [] = refl
  raised-sum (e ∷ es) = omega (arith, raised-sum es)

  raised-weight : (es : List Entry) (v : ℕ) → weight_of (map (raised_entry k) es) (k + v) ≡ weight_of es v
  unfolding weight_of raised_entry
  raised-weight [] v = refl
  raised-weight (e ∷ es) v = go (raised-weight es v) (ℕ_discrete e.state v)
    where
      go : weight_of (map (raised_entry k) es) (k + v) ≡ weight_of es v → Dec (e.state ≡ v) → if_same (k + e.state) (k + v) e.weight (weight_of (map (raised_entry k) es) (k + v)) ≡ if_same e.state v e.weight (weight_of es v)
      go rest (yes q) = sym (same _ (omega arith) refl) ∙ same _ q refl
      go rest (no q) = sym (not_same _ (omega arith) refl) ∙ rest ∙ not_same _ q refl

  raised-none : (es : List Entry) (v : ℕ) → v < k → weight_of (map (raised_entry k) es) v ≡ 0
  unfolding weight_of raised_entry
  raised-none [] v h = refl
  raised-none (e ∷ es) v h = sym (not_same _ (omega arith) (sym (raised-none es v h)))

  -- a transition raised keeps the rules of more states and actions
  raised-rules : (n m m' : ℕ) → m ≤ m' → (t : Transition) → TransitionRules n m t → TransitionRules (k + n) m' (raised_transition k t)
  unfolding raised_transition
  raised-rules n m m' le t r =
      record {
        source = omega (arith, r.source);
        action = omega (arith, r.action);
        positive = r.positive;
        fits = r.fits;
        some = omega (arith, r.some, length-map t.entries (raised_entry k));
        most = omega (arith, r.most, length-map t.entries (raised_entry k));
        states = raised-each (λ e. e.state < n) (λ e. e.state < k + n) raised-state t.entries r.states;
        ascend = raised-ascend t.entries r.ascend;
        weights = raised-each (λ e. 1 ≤ e.weight) (λ e. 1 ≤ e.weight) raised-some t.entries r.weights;
        whole = raised-sum t.entries ∙ r.whole;
      }
    where
      raised-state : (e : Entry) → e.state < n → (raised_entry k e).state < k + n
      raised-state e h = unfold raised_entry in omega arith

      raised-some : (e : Entry) → 1 ≤ e.weight → 1 ≤ (raised_entry k e).weight
      raised-some e h = unfold raised_entry in h

  raised_all : (n m m' : ℕ) → m ≤ m' → (ts : List Transition) → Each (TransitionRules n m) ts → Each (TransitionRules (k + n) m') (map (raised_transition k) ts)
  unfolding Each
  raised_all n m m' le [] h = tt
  raised_all n m m' le (t ∷ ts) h = (raised-rules n m m' le t h.0, raised_all n m m' le ts h.1)

  raised-entries : (ts : List Transition) → sum_over (λ (t : Transition). length t.entries) (map (raised_transition k) ts) ≡ sum_over (λ (t : Transition). length t.entries) ts
  unfolding sum_over raised_transition
  raised-entries [] = refl
  raised-entries (t ∷ ts) = omega (arith, raised-entries ts, length-map t.entries (raised_entry k))

  raised-sources : (ts : List Transition) → Along (λ (t u : Transition). t.source ≤ u.source) ts → Along (λ (t u : Transition). t.source ≤ u.source) (map (raised_transition k) ts)
  unfolding Along raised_transition
  raised-sources [] h = tt
  raised-sources (t ∷ []) h = tt
  raised-sources (t ∷ u ∷ ts) h = (omega (arith, h.0), raised-sources (u ∷ ts) h.1)

  -- sources below k, then sources raised by k
  sources-follow : (ts us : List Transition) → Along (λ (t u : Transition). t.source ≤ u.source) ts → Each (λ (t : Transition). t.source < k) ts → Along (λ (t u : Transition). t.source ≤ u.source) us → Along (λ (t u : Transition). t.source ≤ u.source) (ts ++ map (raised_transition k) us)
  unfolding Along Each
  sources-follow [] us h below g = raised-sources us g
  sources-follow (t ∷ []) [] h below g = tt
  sources-follow (t ∷ []) (u ∷ us) h below g = (unfold raised_transition in omega (arith, below.0), raised-sources (u ∷ us) g)
  sources-follow (t ∷ s ∷ ts) us h below g = (h.0, sources-follow (s ∷ ts) us h.1 below.1 g)

-- a transition keeps the rules of more states and actions
grown-rules : (n n' m m' : ℕ) → n ≤ n' → m ≤ m' → (t : Transition) → TransitionRules n m t → TransitionRules n' m' t
grown-rules n n' m m' le lm t r =
    record {
      source = omega (arith, r.source);
      action = omega (arith, r.action);
      positive = r.positive;
      fits = r.fits;
      some = r.some;
      most = omega (arith, r.most);
      states = each_map (λ (e : Entry). e.state < n) (λ (e : Entry). e.state < n') (λ e h. omega arith) t.entries r.states;
      ascend = r.ascend;
      weights = r.weights;
      whole = r.whole;
    }

-- raised states leave the weights, so the terms
entries-raised : (k g : ℕ) (es : List Entry) → Each (λ (e : Entry). Divides g e.weight) (map (raised_entry k) es) → Each (λ (e : Entry). Divides g e.weight) es
unfolding raised_entry Each
entries-raised k g [] h = tt
entries-raised k g (e ∷ es) h = (h.0, entries-raised k g es h.1)

raised-term : (terms : Terms) (k : ℕ) (t : Transition) → HasTerms terms t → HasTerms terms (raised_transition k t)
unfolding HasTerms LowestTerms raised_transition
raised-term any_terms k t h = tt
raised-term lowest_terms k t h = λ g d. h g (entries-raised k g t.entries d)

raised-terms : (terms : Terms) (k : ℕ) (ts : List Transition) → Each (HasTerms terms) ts → Each (HasTerms terms) (map (raised_transition k) ts)
unfolding Each
raised-terms terms k [] h = tt
raised-terms terms k (t ∷ ts) h = (raised-term terms k t h.0, raised-terms terms k ts h.1)

-- how many states, transitions and entries the joined model has, and how long its file is
module _ (M N : Model) where
  abbrev k : ℕ
  k = length M.labels

  pub joined-states : length (joined M N).labels ≡ length M.labels + length N.labels
  unfolding joined
  joined-states = length-append M.labels N.labels

  pub joined-transitions : length (joined M N).transitions ≡ length M.transitions + length N.transitions
  unfolding joined
  joined-transitions = length-append M.transitions _ ∙ ap (λ (x : ℕ). length M.transitions + x) (length-map N.transitions (raised_transition k))

  pub joined-entries : entry_count (joined M N) ≡ entry_count M + entry_count N
  unfolding joined
  joined-entries = omega (arith, sum-append (λ (t : Transition). length t.entries) M.transitions (map (raised_transition k) N.transitions), raised-entries k N.transitions)

pub joined_length : (M N : Model) → length (joined_file M N) + 8 ≡ length (model_bytes M) + length (model_bytes N)
joined_length M N = omega (arith, file-length (joined M N), file-length M, file-length N, joined-states M N, joined-transitions M N, joined-entries M N)

module _ (L : Limits) (M N : Model) (first : SoundModel L M) (second : SoundModel L N) where
  pub joined-sound : Within L (joined M N) → SoundModel L (joined M N)
  unfolding joined
  joined-sound w =
      let size = length-append M.labels N.labels in
      record {
        some_state = omega (arith, size, first.some_state);
        states = w.states;
        some_action = omega (arith, (larger_above M.actions N.actions).0, first.some_action);
        actions = larger_most M.actions N.actions L.actions first.actions second.actions;
        count = w.transitions;
        labels = each_append _ M.labels N.labels first.labels second.labels;
        transitions =
            each_append _ M.transitions _
            (each_map _ _ (λ t r. grown-rules _ _ _ _ (omega (arith, size)) (larger_above M.actions N.actions).0 t r) M.transitions first.transitions)
            (rw size (raised_all (k M N) (length N.labels) N.actions _ (larger_above M.actions N.actions).1 N.transitions second.transitions));
        sources =
            sources-follow (k M N) M.transitions N.transitions first.sources
            (each_map (TransitionRules (k M N) M.actions) (λ (t : Transition). t.source < k M N) (λ t r. r.source) M.transitions first.transitions) second.sources;
        entries = w.entries;
        terms = each_append _ M.transitions _ first.terms (raised-terms L.terms (k M N) N.transitions second.terms);
      }

  -- its file reads back as it
  pub joined-reads : FitsWidths L → Within L (joined M N) → read_whole L (joined_file M N) ≡ model (joined M N) (length (joined_file M N))
  joined-reads widths w = read-back-whole L (joined M N) widths (joined-sound w)

-- entries lead to no state beyond theirs
none-beyond : (n v : ℕ) → n ≤ v → (es : List Entry) → Each (λ (e : Entry). e.state < n) es → weight_of es v ≡ 0
unfolding weight_of Each
none-beyond n v h [] below = refl
none-beyond n v h (e ∷ es) below = sym (not_same _ (omega (arith, below.0)) (sym (none-beyond n v h es below.1)))

-- its automaton, of models of any size whose transitions keep the rules
pub joined-automaton : (M N : Model) → Each (TransitionRules (length M.labels) M.actions) M.transitions → IsJoined (automaton_of M) (automaton_of N) (automaton_of (joined M N))
unfolding joined automaton_of
joined-automaton M N rules =
    record {
      states = joined-states M N;
      transitions = joined-transitions M N;
      actions = refl;
      first_label = λ v h. get_first M.labels N.labels 0 v h;
      first_source = λ q h. ap (λ (t : Transition). t.source) (in-first q h);
      first_action = λ q h. ap (λ (t : Transition). t.action) (in-first q h);
      first_denominator = λ q h. ap (λ (t : Transition). t.denominator) (in-first q h);
      first_weight = λ q v h l. ap (λ (t : Transition). weight_of t.entries v) (in-first q h);
      second_label = λ v h. get-second M.labels N.labels 0 v;
      second_source = λ q h. ap (λ (t : Transition). t.source) (in-second q h) ∙ source q;
      second_action = λ q h. ap (λ (t : Transition). t.action) (in-second q h) ∙ action q;
      second_denominator = λ q h. ap (λ (t : Transition). t.denominator) (in-second q h) ∙ denominator q;
      second_weight = λ q v h l. ap (λ (t : Transition). weight_of t.entries (k + v)) (in-second q h) ∙ weight q v;
      first_only = λ q v h l. ap (λ (t : Transition). weight_of t.entries v) (in-first q h) ∙ none-beyond k v l _ (each_at _ M.transitions q no_transition rules h).states;
      second_only = λ q v h l. ap (λ (t : Transition). weight_of t.entries v) (in-second q h) ∙ only q v l;
    }
  where
    k : ℕ
    k = length M.labels

    at : ℕ → Transition
    at q = get_or N.transitions q no_transition

    in-first : (q : ℕ) → q < length M.transitions → get_or (M.transitions ++ map (raised_transition k) N.transitions) q no_transition ≡ get_or M.transitions q no_transition
    in-first q h = get_first M.transitions _ no_transition q h

    in-second : (q : ℕ) → q < length N.transitions → get_or (M.transitions ++ map (raised_transition k) N.transitions) (length M.transitions + q) no_transition ≡ raised_transition k (at q)
    in-second q h = get-second M.transitions _ no_transition q ∙ get-map (raised_transition k) N.transitions no_transition q h

    source : (q : ℕ) → (raised_transition k (at q)).source ≡ k + (at q).source
    source q = unfold raised_transition in refl

    action : (q : ℕ) → (raised_transition k (at q)).action ≡ (at q).action
    action q = unfold raised_transition in refl

    denominator : (q : ℕ) → (raised_transition k (at q)).denominator ≡ (at q).denominator
    denominator q = unfold raised_transition in refl

    weight : (q v : ℕ) → weight_of (raised_transition k (at q)).entries (k + v) ≡ weight_of (at q).entries v
    weight q v = unfold raised_transition in raised-weight k (at q).entries v

    only : (q v : ℕ) → v < k → weight_of (raised_transition k (at q)).entries v ≡ 0
    only q v l = unfold raised_transition in raised-none k (at q).entries v l
