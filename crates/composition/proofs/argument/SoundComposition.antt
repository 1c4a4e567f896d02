-- The composition of two sound models passes no limit exactly where it is sound.
use Rattle.std.specs.Prelude.{ℕ, ◌*◌, ◌≤◌, ◌<◌, ◌≡◌, Bool, List, [], ◌∷◌, map, length}
use Rattle.std.proofs.Math.Path.{refl, sym, subst}
use Rattle.std.proofs.Math.Bool.{true, false}
use Rattle.std.proofs.Math.ListN.{get_or}
use Rattle.std.proofs.Common.{arith}
use Rattle.std.proofs.Math.Nat.{mul-pos}
use Rattle.bisimulation.specs.definitions.Choice.{if_less, if_true}
use Rattle.bisimulation.proofs.argument.ChoiceLaws.{less, not_less, past_less, either_true, is_true, is_false, false-not}
use Rattle.bisimulation.specs.definitions.Joined.{larger}
use Rattle.bisimulation.specs.definitions.Composed.{highest_label, Move, left_alone, together, right_alone, IsMove}
use Rattle.bisimulation.proofs.argument.LargerLaws.{larger_above, larger_most}
use Rattle.bisimulation.proofs.argument.HighestLaws.{highest_above, highest_most}
use Rattle.rules.specs.definitions.Limits.{Terms, Limits}
use Rattle.rules.specs.definitions.Model.{Transition, Model, no_transition, automaton_of}
use Rattle.rules.specs.definitions.SoundModel.{Each, highest_denominator, TransitionRules, HasTerms, SoundModel}
use Rattle.rules.specs.definitions.Made.{passes_limit}
use Rattle.rules.proofs.argument.MappedLists.{each_both, each-mapped, each-unmapped}
use Rattle.rules.proofs.argument.SoundModelLaws.{each_at, at_each, each_map}
use Rattle.rules.proofs.argument.LengthLaws.{Within, sound-within}
use Rattle.rules.proofs.argument.MadeLaws.{Making, within-passes, passes-within}
use Rattle.composition.specs.definitions.Composition.{pair_transition, still, moved, moves_of, composed}
use Rattle.composition.specs.definitions.ComposeAnswer.{long_denominator, passes_composed}
use Rattle.composition.proofs.argument.ComposedLabels.{composed-states}
use Rattle.composition.proofs.argument.MovedLaws.{rules-at}
use Rattle.composition.proofs.argument.MoveSources.{moves-are, sources-ascend}
use Rattle.composition.proofs.argument.PairTransitionLaws.{pair-rules, pair-terms, still-rules, still-terms}

-- a test that refuses first
past-true : (b y : Bool) → false ≡ if_true b true y → (b ≡ false) × (false ≡ y)
unfolding if_true
past-true true y e = absurd (false-not e)
past-true false y e = (refl, e)

-- every denominator fits exactly where none is long
pub few-denominators : (ts : List Transition) → long_denominator ts ≡ false → Each (λ (t : Transition). t.denominator ≤ highest_denominator) ts
unfolding long_denominator Each
few-denominators [] e = tt
few-denominators (t ∷ ts) e =
    let p = past_less true (long_denominator ts) highest_denominator t.denominator (λ z. false-not z) (sym e) in
    (p.0, few-denominators ts (sym p.1))

denominators-few : (ts : List Transition) → Each (λ (t : Transition). t.denominator ≤ highest_denominator) ts → long_denominator ts ≡ false
unfolding long_denominator Each
denominators-few [] h = refl
denominators-few (t ∷ ts) h = sym (not_less true h.0 (sym (denominators-few ts h.1)))

-- what it is to pass no limit
pub record ComposesWithin (L : Limits) (J : Model) : Type 0 where
  pub sizes : Within L J
  pub denominators : Each (λ (t : Transition). t.denominator ≤ highest_denominator) J.transitions
  pub labels : highest_label (automaton_of J) ≤ L.label

module _ (L : Limits) (M N : Model) where
  pub passes-composed : passes_composed L M N ≡ false → ComposesWithin L (composed M N)
  unfolding passes_composed
  passes-composed e =
      let J = composed M N in
      let p = past-true (passes_limit L J) (if_true (long_denominator J.transitions) true (if_less L.label (highest_label (automaton_of J)) true false)) (sym e) in
      let q = past-true (long_denominator J.transitions) (if_less L.label (highest_label (automaton_of J)) true false) p.1 in
      record {
        sizes = passes-within L J p.0;
        denominators = few-denominators J.transitions q.0;
        labels = (past_less true false L.label (highest_label (automaton_of J)) (λ z. false-not z) q.1).0;
      }

  pub composed-passes : ComposesWithin L (composed M N) → passes_composed L M N ≡ false
  unfolding passes_composed
  composed-passes w =
      sym (is_false true (sym (within-passes L (composed M N) w.sizes)) (is_false true (denominators-few _ w.denominators) (not_less true w.labels refl)))

  -- each way to pass one
  pub over-sizes : passes_limit L (composed M N) ≡ true → passes_composed L M N ≡ true
  unfolding passes_composed
  over-sizes e = sym (is_true _ e refl)

  pub over-denominators : long_denominator (composed M N).transitions ≡ true → passes_composed L M N ≡ true
  unfolding passes_composed
  over-denominators e = either_true (λ (b : Bool). b ≡ true) (passes_limit L (composed M N)) refl (sym (is_true _ e refl))

  pub over-labels : L.label < highest_label (automaton_of (composed M N)) → passes_composed L M N ≡ true
  unfolding passes_composed
  over-labels l =
      either_true (λ (b : Bool). b ≡ true) (passes_limit L (composed M N)) refl
      (either_true (λ (b : Bool). b ≡ true) (long_denominator (composed M N).transitions) refl (sym (less _ l refl)))

-- every label is at most the highest
module _ (L : Limits) (J : Model) where
  few-labels : highest_label (automaton_of J) ≤ L.label → Each (λ (b : ℕ). b ≤ L.label) J.labels
  unfolding automaton_of
  few-labels h = at_each _ J.labels 0 (λ i l. omega (arith, h, highest_above (length J.labels) (λ v. get_or J.labels v 0) i l))

  pub labels-few : Each (λ (b : ℕ). b ≤ L.label) J.labels → highest_label (automaton_of J) ≤ L.label
  unfolding automaton_of
  labels-few h = highest_most (length J.labels) (λ v. get_or J.labels v 0) L.label (λ k l. each_at _ J.labels k 0 h l)

-- the transition of a move
module _ (M N : Model) (left : Each (TransitionRules (length M.labels) M.actions) M.transitions) (right : Each (TransitionRules (length N.labels) N.actions) N.transitions) where
  abbrev n_l : ℕ
  n_l = length M.labels

  abbrev n_r : ℕ
  n_r = length N.labels

  moved-rules : (m : Move) → IsMove (automaton_of M) (automaton_of N) m → (moved M N m).denominator ≤ highest_denominator → TransitionRules (n_l * n_r) (larger M.actions N.actions) (moved M N m)
  unfolding IsMove moved automaton_of pair_transition still
  moved-rules (left_alone q e) h fits =
      let r = rules-at M left q h.transition in
      pair-rules n_l n_r _ _ _ _ _ r (still-rules n_r M.actions _ e h.state r.action) (omega (arith, r.action, larger_above M.actions N.actions)) fits
  moved-rules (together q r) h fits =
      let l = rules-at M left q h.left in
      pair-rules n_l n_r _ _ _ _ _ l (rules-at N right r h.right) (omega (arith, l.action, larger_above M.actions N.actions)) fits
  moved-rules (right_alone s r) h fits =
      let u = rules-at N right r h.transition in
      pair-rules n_l n_r _ _ _ _ _ (still-rules n_l N.actions _ s h.state u.action) u (omega (arith, u.action, larger_above M.actions N.actions)) fits

module _ (M N : Model) (terms : Terms) (left : Each (HasTerms terms) M.transitions) (right : Each (HasTerms terms) N.transitions) where
  moved-terms : (m : Move) → IsMove (automaton_of M) (automaton_of N) m → HasTerms terms (moved M N m)
  unfolding IsMove moved automaton_of
  moved-terms (left_alone q e) h = pair-terms terms _ _ _ (each_at _ M.transitions q no_transition left h.transition) (still-terms terms _ e)
  moved-terms (together q r) h =
      pair-terms terms _ _ _ (each_at _ M.transitions q no_transition left h.left) (each_at _ N.transitions r no_transition right h.right)
  moved-terms (right_alone s r) h = pair-terms terms _ _ _ (still-terms terms _ s) (each_at _ N.transitions r no_transition right h.transition)

module _ (L : Limits) (M N : Model) where
  abbrev moves : List Move
  moves = moves_of (automaton_of M) (automaton_of N)

  abbrev Moves : Move → Type 0
  Moves = IsMove (automaton_of M) (automaton_of N)

  pub composed-sound : SoundModel L M → SoundModel L N → passes_composed L M N ≡ false → SoundModel L (composed M N)
  unfolding composed
  composed-sound f g p =
      let w = passes-composed L M N p in
      let size = composed-states M N in
      let fits : Each (λ (m : Move). (moved M N m).denominator ≤ highest_denominator) moves =
      each-unmapped (moved M N) (λ (t : Transition). t.denominator ≤ highest_denominator) moves w.denominators in
      record {
        some_state = omega (arith, size, mul-pos f.some_state g.some_state);
        states = w.sizes.states;
        some_action = omega (arith, larger_above M.actions N.actions, f.some_action);
        actions = larger_most M.actions N.actions L.actions f.actions g.actions;
        count = w.sizes.transitions;
        labels = few-labels L (composed M N) w.labels;
        transitions =
            subst (λ (n : ℕ). Each (TransitionRules n (larger M.actions N.actions)) (map (moved M N) moves)) (sym size)
            (each-mapped (moved M N) (λ (m : Move). Moves m × ((moved M N m).denominator ≤ highest_denominator)) _
            (λ m h. moved-rules M N f.transitions g.transitions m h.0 h.1) moves
            (each_both Moves (λ (m : Move). (moved M N m).denominator ≤ highest_denominator) moves (moves-are (automaton_of M) (automaton_of N)) fits));
        sources = sources-ascend M N;
        entries = w.sizes.entries;
        terms =
            each-mapped (moved M N) Moves (HasTerms L.terms) (moved-terms M N L.terms f.terms g.terms) moves (moves-are (automaton_of M) (automaton_of N));
      }

  -- and the other way round
  pub composed-within : SoundModel L (composed M N) → passes_composed L M N ≡ false
  composed-within ok =
      let J = composed M N in
      composed-passes L M N
      (record {
        sizes = sound-within L J ok;
        denominators =
            each_map (TransitionRules (length J.labels) J.actions) (λ (t : Transition). t.denominator ≤ highest_denominator) (λ t r. r.fits) J.transitions ok.transitions;
        labels = labels-few L J ok.labels;
      })

pub composing : (L : Limits) → Making L composed (passes_composed L)
composing L = record { sound = composed-sound L; within = λ M N f g s. composed-within L M N s }
