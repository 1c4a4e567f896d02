-- What two models whose composition is sound allow: each record of a move fits its fields.
use Rattle.std.specs.Prelude.{ℕ, suc, ◌+◌, ◌*◌, ◌≤◌, ◌<◌, ◌≡◌, true, length}
use Rattle.std.proofs.Math.Path.{sym, ap₂}
use Rattle.std.proofs.Common.{◌∙◌, mul-le-mul_right, arith}
use Rattle.bisimulation.specs.definitions.Automaton.{Automaton}
use Rattle.bisimulation.specs.definitions.Composed.{together, IsMove, move_denominator}
use Rattle.rules.specs.definitions.Model.{automaton_of}
use Rattle.rules.specs.definitions.Reading.{states_of, model_at}
use Rattle.rules.specs.definitions.SoundModel.{TransitionRules}
use Rattle.rules.proofs.argument.MappedLists.{each-unmapped}
use Rattle.composed_size.specs.declared.Side.{Side}
use Rattle.transition.specs.Known.{automaton_in, Known}
use Rattle.transition.specs.KnownLaws.{known-states}
use Rattle.composition.specs.definitions.Composition.{is_shared, moves_of, moved, composed}
use Rattle.composition.proofs.argument.SharedLaws.{test-shared}
use Rattle.composition.proofs.argument.MovedLaws.{rules-at, moved-denominator}
use Rattle.composition.proofs.argument.MovesLaws.{among-each, move-among}
use Rattle.composition.proofs.argument.ComposedLabels.{composed-states}
use Rattle.composed_size.specs.Sides.{composed_in}
use Rattle.composed_size.specs.Composable.{CanCompose}

module _ {left right : Side} (c : CanCompose left right) where
  abbrev A : Automaton
  A = automaton_in left.file.now

  abbrev B : Automaton
  B = automaton_in right.file.now

  pub left-known : Known left.file.now left.model.states left.model.transitions left.places.now
  left-known = left.known.known

  pub right-known : Known right.file.now right.model.states right.model.transitions right.places.now
  right-known = right.known.known

  -- the states of both
  pub right-states : right.model.states ≡ length (model_at right.file.now).labels
  unfolding automaton_of
  right-states = sym (known-states right-known)

  pub states-times : length (composed_in left.file.now right.file.now).labels ≡ left.model.states * right.model.states
  unfolding automaton_of
  states-times = composed-states (model_at left.file.now) (model_at right.file.now) ∙ ap₂ (λ (x y : ℕ). x * y) (known-states left-known) (sym right-states)

  pub states-fit : {n : ℕ} → n ≡ right.model.states → states_of left.file.now * n < 256
  states-fit {n} e =
      let all : states_of left.file.now * n ≡ left.model.states * right.model.states = ap₂ (λ (x y : ℕ). x * y) (sym left-known.states) e in
      omega (arith, all, states-times, c.sound.states)

  pub row_fits : {s : ℕ} → s < A.states → s * right.model.states + right.model.states < 256
  row_fits {s} l =
      let le : suc s * right.model.states ≤ left.model.states * right.model.states = mul-le-mul_right right.model.states (omega (arith, l, known-states left-known)) in
      omega (arith, le, states-times, c.sound.states)

  -- the denominators of two that move together
  pub together-fits : {q r : ℕ} → q < A.transitions → r < B.transitions → is_shared A B (A.action q) ≡ true → B.action r ≡ A.action q → A.denominator q * B.denominator r < 65536
  unfolding IsMove composed automaton_of move_denominator
  together-fits {q} {r} l j t e =
      let M = model_at left.file.now in
      let N = model_at right.file.now in
      let found =
      move-among A B (λ q l. (rules-at M left-known.sound.transitions q l).source)
      (λ r l. (rules-at N right-known.sound.transitions r l).source)
      (together q r) (record { left = l; right = j; shared = test-shared A B (A.action q) t; partner = sym e }) in
      let rules =
      among-each _ (together q r) (moves_of A B)
      (each-unmapped (moved M N) (TransitionRules (length (composed M N).labels) (composed M N).actions) (moves_of A B) c.sound.transitions)
      found in
      omega (arith, moved-denominator M N (together q r), rules.fits)
