-- The automaton of a model file, read off its bytes: what code that keeps the model as its bytes goes by.
use Rattle.std.specs.Prelude.{ℕ, zero, suc, ◌+◌, ◌≤◌, ◌<◌, ◌≡◌, refl, List, length, drop, get_or}
use Rattle.std.proofs.Common.{◌∙◌}
use Rattle.std.proofs.Math.Path.{ap}
use Rattle.std.proofs.Math.Seq.{get_or-take, get_or-drop}
use native.Mathlib.Omega.{arith}
use Rattle.rules.specs.definitions.Bytes.{byte_at}
use Rattle.rules.specs.definitions.Model.{Transition, weight_of, no_transition, automaton_of}
use Rattle.rules.specs.definitions.Reading.{states_of, count_of, source_at, action_at, denominator_at, entry_count_at, after_transition, entries_at, transition_at, transitions_at, model_at, place_of}
use Rattle.rules.proofs.argument.AnswerLaws.{labels_length}

-- a transition by its number
transition-from : (s : List ℕ) (left first r : ℕ) → r < left → get_or (transitions_at s left (place_of s first)) r no_transition ≡ transition_at s (place_of s (first + r))
unfolding transitions_at place_of
transition-from s zero first r h = absurd (omega arith)
transition-from s (suc left) first zero h = let e : first ≡ first + 0 = omega arith in ap (λ (k : ℕ). transition_at s (place_of s k)) e
transition-from s (suc left) first (suc r) h =
    let e : suc first + r ≡ first + suc r = omega arith in
    transition-from s left (suc first) r (omega arith) ∙ ap (λ (k : ℕ). transition_at s (place_of s k)) e

pub length-transitions_at : (s : List ℕ) (left at : ℕ) → length (transitions_at s left at) ≡ left
unfolding transitions_at
length-transitions_at s zero at = refl
length-transitions_at s (suc left) at = ap suc (length-transitions_at s left (after_transition s at))

module _ (s : List ℕ) where
  pub automaton-transitions : (automaton_of (model_at s)).transitions ≡ count_of s
  unfolding automaton_of model_at
  automaton-transitions = length-transitions_at s (count_of s) (8 + states_of s)

  pub automaton-states : 8 + states_of s ≤ length s → (automaton_of (model_at s)).states ≡ states_of s
  unfolding automaton_of
  automaton-states h = labels_length s h

  -- the label of a state
  pub automaton-label : (v : ℕ) → v < states_of s → (automaton_of (model_at s)).label v ≡ byte_at s (8 + v)
  unfolding automaton_of model_at byte_at
  automaton-label v h = get_or-take (states_of s) (drop 8 s) v 0 h ∙ get_or-drop 8 s v 0

  module _ (r : ℕ) (below : r < count_of s) where
    pub transition-is : get_or (model_at s).transitions r no_transition ≡ transition_at s (place_of s r)
    unfolding model_at place_of
    transition-is = let e : 0 + r ≡ r = omega arith in transition-from s (count_of s) 0 r below ∙ ap (λ (k : ℕ). transition_at s (place_of s k)) e

    -- the fields of a transition
    pub automaton-source : (automaton_of (model_at s)).source r ≡ source_at s (place_of s r)
    unfolding automaton_of transition_at
    automaton-source = ap (λ (t : Transition). t.source) transition-is

    pub automaton-action : (automaton_of (model_at s)).action r ≡ action_at s (place_of s r)
    unfolding automaton_of transition_at
    automaton-action = ap (λ (t : Transition). t.action) transition-is

    pub automaton-denominator : (automaton_of (model_at s)).denominator r ≡ denominator_at s (place_of s r)
    unfolding automaton_of transition_at
    automaton-denominator = ap (λ (t : Transition). t.denominator) transition-is

    -- its weights, by its entries
    pub automaton-weight : (v : ℕ) → (automaton_of (model_at s)).weight r v ≡ weight_of (entries_at s (entry_count_at s (place_of s r)) (place_of s r + 7)) v
    unfolding automaton_of transition_at
    automaton-weight v = ap (λ (t : Transition). weight_of t.entries v) transition-is
