-- A model with actions hidden: it is sound where the model is, its automaton is the hidden one, its file is as long, and the set is a set.
use Prim.Native.Nat.{ℕ, zero, suc, ◌≤◌, ◌<◌}
use Rattle.std.specs.Prelude.{◌≡◌, ◌⊎◌, Bool, true, false, length}
use Rattle.std.proofs.Math.Path.{refl, sym, ap, ap₂}
use Rattle.std.proofs.Common.{◌∙◌, subst, ⊎_elim, arith}
use mathlib.Core.List.{List, [], ◌∷◌, map}
use Rattle.std.proofs.Math.ListN.{get_or, length-map}
use Rattle.std.proofs.Math.Decide.{ℕ_discrete}
use Rattle.bisimulation.specs.definitions.Choice.{if_true}
use Rattle.bisimulation.proofs.argument.ChoiceLaws.{same, not_same, either_same, either_true, false-not, one-test}
use Rattle.bisimulation.specs.definitions.Hidden.{hidden_action, IsHidden}
use Rattle.rules.specs.definitions.Limits.{Terms, any_terms, lowest_terms, Limits}
use Rattle.rules.specs.definitions.Model.{Transition, Model, no_transition, model_bytes, weight_of, automaton_of}
use Rattle.rules.specs.definitions.SoundModel.{Each, TransitionRules, LowestTerms, HasTerms, entry_count, SoundModel}
use Rattle.rules.specs.definitions.Accepted.{Among, here, there}
use Rattle.rules.proofs.argument.MappedLists.{each_all, each-mapped, along-mapped, sum-mapped, get_d-mapped, map_same}
use Rattle.rules.proofs.argument.LengthLaws.{file-length}
use Rattle.composition.specs.definitions.Hiding.{member_of, hidden_transition, hidden, hidden_file}

-- a byte of the set, and no other, is a member
pub member-among : (set : List ℕ) (a : ℕ) → member_of set a ≡ true → Among a set
unfolding member_of
member-among [] a e = absurd (false-not e)
member-among (b ∷ bs) a e = go (member-among bs a) (ℕ_discrete b a)
  where
    go : (member_of bs a ≡ true → Among a bs) → Dec (b ≡ a) → Among a (b ∷ bs)
    go rest (yes q) = subst (λ (x : ℕ). Among x (b ∷ bs)) q here
    go rest (no n) = there (rest (not_same true n refl ∙ e))

pub among-member : {a : ℕ} {set : List ℕ} → Among a set → member_of set a ≡ true
unfolding member_of
among-member here = sym (same _ refl refl)
among-member {a} (there {y = b} h) = either_same (λ (x : Bool). x ≡ true) b a refl (among-member h)

-- repeats and order don't matter: two sets with the same members
pub members-same : (set other : List ℕ) (a : ℕ) → (Among a set → Among a other) → (Among a other → Among a set) → member_of set a ≡ member_of other a
members-same set other a f g =
    one-test (member_of set a) (member_of other a) (λ e. among-member (f (member-among set a e))) (λ e. among-member (g (member-among other a e)))

module _ (set : List ℕ) (M : Model) where
  abbrev hides : Transition → Transition
  hides = hidden_transition (member_of set)

  -- as many states, transitions and entries, so a file as long
  pub hidden-states : length (hidden set M).labels ≡ length M.labels
  unfolding hidden
  hidden-states = refl

  pub hidden-transitions : length (hidden set M).transitions ≡ length M.transitions
  unfolding hidden
  hidden-transitions = length-map M.transitions hides

  pub hidden-entries : entry_count (hidden set M) ≡ entry_count M
  unfolding hidden hidden_transition
  hidden-entries = sum-mapped hides _ _ (λ t. refl) M.transitions

  pub hidden-length : length (hidden_file set M) ≡ length (model_bytes M)
  hidden-length = omega (arith, file-length (hidden set M), file-length M, hidden-states, hidden-transitions, hidden-entries)

  -- sound where the model is
  hidden-rules : (n : ℕ) (t : Transition) → 1 ≤ M.actions → TransitionRules n M.actions t → TransitionRules n M.actions (hides t)
  unfolding hidden_transition hidden_action
  hidden-rules n t some r =
      record {
        source = r.source;
        action = either_true (λ (a : ℕ). a < M.actions) (member_of set t.action) some r.action;
        positive = r.positive;
        fits = r.fits;
        some = r.some;
        most = r.most;
        states = r.states;
        ascend = r.ascend;
        weights = r.weights;
        whole = r.whole;
      }

  hidden-terms : (terms : Terms) (t : Transition) → HasTerms terms t → HasTerms terms (hides t)
  unfolding HasTerms LowestTerms hidden_transition
  hidden-terms any_terms t h = tt
  hidden-terms lowest_terms t h = h

  -- the transition that a model lacks stays
  hidden-none : hides no_transition ≡ no_transition
  unfolding hidden_transition hidden_action
  hidden-none = ap (λ (a : ℕ). record { source = 0; action = a; denominator = 0; entries = [] }) (either_true (λ (a : ℕ). a ≡ 0) (member_of set 0) refl refl)

  -- its automaton, of a model of any size
  pub hidden-automaton : IsHidden (member_of set) (automaton_of M) (automaton_of (hidden set M))
  unfolding automaton_of hidden hidden_transition
  hidden-automaton =
      record {
        states = refl;
        actions = refl;
        transitions = hidden-transitions;
        label = λ v l. refl;
        source = λ q l. ap (λ (t : Transition). t.source) (at q);
        action = λ q l. ap (λ (t : Transition). t.action) (at q);
        denominator = λ q l. ap (λ (t : Transition). t.denominator) (at q);
        weight = λ q v l k. ap (λ (t : Transition). weight_of t.entries v) (at q);
      }
    where
      at : (q : ℕ) → get_or (map hides M.transitions) q no_transition ≡ hides (get_or M.transitions q no_transition)
      at q = ap (get_or (map hides M.transitions) q) (sym hidden-none) ∙ get_d-mapped hides M.transitions q no_transition

pub hidden-sound : (L : Limits) (set : List ℕ) (M : Model) → SoundModel L M → SoundModel L (hidden set M)
unfolding hidden hidden_transition
hidden-sound L set M ok =
    let n = length M.labels in
    record {
      some_state = ok.some_state;
      states = ok.states;
      some_action = ok.some_action;
      actions = ok.actions;
      count = omega (arith, hidden-transitions set M, ok.count);
      labels = ok.labels;
      transitions =
          each-mapped (hides set M) (TransitionRules n M.actions) (TransitionRules n M.actions)
          (λ t. hidden-rules set M n t ok.some_action) M.transitions ok.transitions;
      sources = along-mapped (hides set M) _ _ (λ t u h. h) M.transitions ok.sources;
      entries = omega (arith, hidden-entries set M, ok.entries);
      terms = each-mapped (hides set M) (HasTerms L.terms) (HasTerms L.terms) (hidden-terms set M L.terms) M.transitions ok.terms;
    }

-- 'members of the set that are 0 or not below the action count change nothing': sets with the same members between them
module _ (set other : List ℕ) (M : Model) (same-between : (a : ℕ) → 1 ≤ a → a < M.actions → member_of set a ≡ member_of other a) where
  action-same : (a : ℕ) → a < M.actions → hidden_action (member_of set) a ≡ hidden_action (member_of other) a
  unfolding hidden_action
  action-same zero l = either_true (λ (x : ℕ). x ≡ 0) (member_of set 0) refl refl ∙ sym (either_true (λ (x : ℕ). x ≡ 0) (member_of other 0) refl refl)
  action-same (suc a) l = ap (λ (b : Bool). if_true b 0 (suc a)) (same-between (suc a) (omega arith) l)

  transitions-same : (n : ℕ) (ts : List Transition) → Each (TransitionRules n M.actions) ts → map (hidden_transition (member_of set)) ts ≡ map (hidden_transition (member_of other)) ts
  unfolding hidden_transition Each
  transitions-same n [] rules = refl
  transitions-same n (t ∷ ts) rules =
      ap₂ (λ (a : ℕ) (us : List Transition). record { source = t.source; action = a; denominator = t.denominator; entries = t.entries } ∷ us)
      (action-same t.action rules.0.action) (transitions-same n ts rules.1)

  pub hidden-same : (L : Limits) → SoundModel L M → hidden set M ≡ hidden other M
  unfolding hidden
  hidden-same L ok =
      ap (λ (ts : List Transition). record { actions = M.actions; labels = M.labels; transitions = ts })
      (transitions-same (length M.labels) M.transitions ok.transitions)

-- the empty set hides nothing
pub hidden-empty : (M : Model) → hidden [] M ≡ M
unfolding hidden hidden_transition hidden_action member_of if_true
hidden-empty M =
    ap (λ (ts : List Transition). record { actions = M.actions; labels = M.labels; transitions = ts })
    (map_same (hidden_transition (member_of [])) M.transitions (each_all _ (λ t. refl) M.transitions))

-- so does a set of such members only
pub hidden-nothing : (L : Limits) (set : List ℕ) (M : Model) → SoundModel L M → Each (λ (b : ℕ). (b ≡ 0) ⊎ (M.actions ≤ b)) set → hidden set M ≡ M
unfolding member_of Each
hidden-nothing L set M ok none = hidden-same set [] M (λ a some l. outside set a some l none) L ok ∙ hidden-empty M
  where
    outside : (set : List ℕ) (a : ℕ) → 1 ≤ a → a < M.actions → Each (λ (b : ℕ). (b ≡ 0) ⊎ (M.actions ≤ b)) set → member_of set a ≡ false
    outside [] a some l h = refl
    outside (b ∷ bs) a some l h =
        sym (not_same true (λ e. ⊎_elim (λ z. omega (arith, z, e, some)) (λ m. omega (arith, m, e, l)) h.0) (sym (outside bs a some l h.1)))
