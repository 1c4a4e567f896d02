-- The automaton of the composition is 000's definition 3.4 of the two automata, for models of any size whose transitions keep the rules.
use Rattle.std.specs.Prelude.{ℕ, zero, suc, ◌<◌, ◌≡◌, refl, List, [], ◌∷◌, map, length, get_or}
use Rattle.std.proofs.Common.{◌∙◌, arith}
use Rattle.std.proofs.Math.Path.{ap}
use Rattle.bisimulation.specs.definitions.Automaton.{Automaton}
use Rattle.bisimulation.specs.definitions.Composed.{state_at, Move, IsMove, Does, IsComposed}
use Rattle.rules.specs.definitions.Model.{Transition, Model, no_transition, weight_of, automaton_of}
use Rattle.rules.specs.definitions.SoundModel.{Each, TransitionRules}
use Rattle.rules.specs.definitions.Accepted.{Among, here, there}
use Rattle.composition.specs.definitions.Composition.{moves_of, moved, composed}
use Rattle.composition.proofs.argument.MovedLaws.{rules-at, moved-source, moved-action, moved-denominator, moved-weight}
use Rattle.composition.proofs.argument.ComposedLabels.{composed-states, composed-label}
use Rattle.composition.proofs.argument.MoveSources.{moves-are}
use Rattle.composition.proofs.argument.MovesLaws.{among-each, move-among}

-- what is made of an element stands at a place, and what stands at a place is made of an element
module _ {X Y : Type 0} (f : X → Y) (d : Y) where
  made_at : (x : X) (xs : List X) → Among x xs → (c : ℕ) × (c < length (map f xs)) × (get_or (map f xs) c d ≡ f x)
  made_at x [] x'' = elim x'' [ ]
  made_at x (y ∷ xs) here = (0, omega arith, refl)
  made_at x (y ∷ xs) (there a) = let r = made_at x xs a in (suc r.0, omega (arith, r.1), r.2)

  made-from : (xs : List X) (c : ℕ) → c < length (map f xs) → (x : X) × Among x xs × (get_or (map f xs) c d ≡ f x)
  made-from [] c l = absurd (omega arith)
  made-from (x ∷ xs) zero l = (x, here, refl)
  made-from (x ∷ xs) (suc c) l = let r = made-from xs c (omega arith) in (r.0, there r.1, r.2)

module _ (M N : Model) (left : Each (TransitionRules (length M.labels) M.actions) M.transitions) (right : Each (TransitionRules (length N.labels) N.actions) N.transitions) where
  -- the transition at a place is the move that it was made from
  does : (c : ℕ) (m : Move) → IsMove (automaton_of M) (automaton_of N) m → get_or (composed M N).transitions c no_transition ≡ moved M N m → Does (automaton_of M) (automaton_of N) (automaton_of (composed M N)) c m
  unfolding automaton_of
  does c m h e =
      record {
        source = ap (λ (t : Transition). t.source) e ∙ moved-source M N m;
        action = ap (λ (t : Transition). t.action) e ∙ moved-action M N m;
        denominator = ap (λ (t : Transition). t.denominator) e ∙ moved-denominator M N m;
        weight = λ v x l k. ap (λ (t : Transition). weight_of t.entries (state_at (length N.labels) v x)) e ∙ moved-weight M N right m h v x k;
      }

  pub composed-automaton : IsComposed (automaton_of M) (automaton_of N) (automaton_of (composed M N))
  unfolding composed automaton_of
  composed-automaton =
      record {
        states = composed-states M N;
        actions = refl;
        label = λ s e l k. composed-label M N s e l k;
        all = λ m h.
            let found = move-among A B (λ q l. (rules-at M left q l).source) (λ r l. (rules-at N right r l).source) m h in
            let a = made_at (moved M N) no_transition m moves found in
            (a.0, a.1, does a.0 m h a.2);
        only = λ c l.
            let a = made-from (moved M N) no_transition moves c l in
            let h = among-each (IsMove A B) a.0 moves (moves-are A B) a.1 in
            (a.0, h, does c a.0 h a.2);
      }
    where
      A : Automaton
      A = automaton_of M

      B : Automaton
      B = automaton_of N

      moves : List Move
      moves = moves_of A B
