-- The transition of a move has the move's source, action, denominator and weights.
use Rattle.std.specs.Prelude.{ℕ, ◌*◌, ◌<◌, ◌≡◌, length}
use Rattle.std.proofs.Math.Path.{refl, ap, ap₂}
use Rattle.std.proofs.Common.{◌∙◌}
use native.Mathlib.Omega.{arith}
use Rattle.bisimulation.specs.definitions.Choice.{if_same}
use Rattle.bisimulation.proofs.argument.ChoiceLaws.{turned, of_same}
use Rattle.bisimulation.specs.definitions.Composed.{state_at, Move, left_alone, together, right_alone, IsMove, move_source, move_action, move_denominator, move_weight}
use Rattle.rules.specs.definitions.Model.{Entry, Model, no_transition, weight_of, automaton_of}
use Rattle.rules.specs.definitions.SoundModel.{Each, TransitionRules}
use Rattle.rules.proofs.argument.SoundModelLaws.{each_at}
use Rattle.composition.specs.definitions.Composition.{transition_of, pair_transition, still, moved}
use Rattle.composition.proofs.argument.PairEntriesLaws.{pair-weight}

-- a transition by its number keeps the rules that all keep
pub rules-at : (M : Model) → Each (TransitionRules (length M.labels) M.actions) M.transitions → (q : ℕ) → q < length M.transitions → TransitionRules (length M.labels) M.actions (transition_of M q)
rules-at M rules q l = each_at _ M.transitions q no_transition rules l

-- what stands still is at its state with 1/1
still-weight : (a s v : ℕ) → weight_of (still a s).entries v ≡ if_same v s 1 0
unfolding still weight_of
still-weight a s v = turned s v 1 0

still-below : (n a s : ℕ) → s < n → Each (λ (e : Entry). e.state < n) (still a s).entries
unfolding still Each
still-below n a s l = (l, tt)

module _ (M N : Model) where
  pub moved-source : (m : Move) → (moved M N m).source ≡ move_source (automaton_of M) (automaton_of N) m
  unfolding moved pair_transition still move_source automaton_of
  moved-source (left_alone q e) = refl
  moved-source (together q r) = refl
  moved-source (right_alone s r) = refl

  pub moved-action : (m : Move) → (moved M N m).action ≡ move_action (automaton_of M) (automaton_of N) m
  unfolding moved pair_transition still move_action automaton_of
  moved-action (left_alone q e) = refl
  moved-action (together q r) = refl
  moved-action (right_alone s r) = refl

  pub moved-denominator : (m : Move) → (moved M N m).denominator ≡ move_denominator (automaton_of M) (automaton_of N) m
  unfolding moved pair_transition still move_denominator automaton_of
  moved-denominator (left_alone q e) = omega arith
  moved-denominator (together q r) = refl
  moved-denominator (right_alone s r) = omega arith

  pub moved-weight : Each (TransitionRules (length N.labels) N.actions) N.transitions → (m : Move) → IsMove (automaton_of M) (automaton_of N) m → (v x : ℕ) → x < length N.labels → weight_of (moved M N m).entries (state_at (length N.labels) v x) ≡ move_weight (automaton_of M) (automaton_of N) m v x
  unfolding moved pair_transition move_weight automaton_of IsMove
  moved-weight right (left_alone q e) h v x l =
      let w = weight_of (transition_of M q).entries v in
      let t = transition_of M q in
      pair-weight (length N.labels) v x l t.entries (still t.action e).entries (still-below (length N.labels) t.action e h.state)
      ∙ ap (λ (k : ℕ). w * k) (still-weight t.action e x)
      ∙ of_same (λ (k : ℕ). w * k) x e 1 0 ∙ ap₂ (λ (i j : ℕ). if_same x e i j) (omega arith) (omega arith)
  moved-weight right (together q r) h v x l =
      pair-weight (length N.labels) v x l (transition_of M q).entries (transition_of N r).entries (rules-at N right r h.right).states
  moved-weight right (right_alone s r) h v x l =
      let w = weight_of (transition_of N r).entries x in
      let u = transition_of N r in
      pair-weight (length N.labels) v x l (still u.action s).entries u.entries (rules-at N right r h.transition).states
      ∙ ap (λ (k : ℕ). k * w) (still-weight u.action s v)
      ∙ of_same (λ (k : ℕ). k * w) v s 1 0 ∙ ap₂ (λ (i j : ℕ). if_same v s i j) (omega arith) (omega arith)
