-- Laws of the labels: row by row they are the composition's.
use Prim.Native.Nat.{ℕ, suc, ◌+◌, ◌*◌, ◌≤◌, ◌<◌}
use Rattle.std.specs.Prelude.{◌≡◌, List, [], ◌∷◌}
use Rattle.std.proofs.Common.{sym, ◌∙◌}
use Rattle.std.proofs.Math.Path.{ap, ap₂}
use Rattle.std.proofs.Math.ListN.{length}
use Rattle.std.proofs.Math.Nat.{mul-le-mul_right}
use native.Mathlib.Omega.{arith}
use Rattle.bisimulation.specs.definitions.Composed.{state_at, pair_label}
use Rattle.rules.specs.definitions.Bytes.{byte_at}
use Rattle.rules.specs.definitions.Reading.{model_at}
use Rattle.rules.proofs.argument.AnswerLaws.{labels_length}
use Rattle.rules.proofs.argument.ModelAutomaton.{automaton-label}
use Rattle.rules.proofs.argument.SoundModelLaws.{each_at}
use Rattle.transition.specs.Known.{automaton_in}
use Rattle.writer.specs.Appends.{Appends}
use Rattle.composition.specs.definitions.Composition.{gathered, composed}
use Rattle.composition.proofs.argument.GatheredLaws.{gathered-cong}
use Rattle.composition.proofs.argument.ComposedLabels.{composed-states, composed-label}
use Rattle.writer.specs.AppendsLaws.{appended-as}
use Rattle.composed_size.specs.Sides.{composed_in}
use Rattle.composed_states.specs.Gathering.{Gathering, gathering-start, gathering-room, gathering-all}
use Rattle.composed_file.specs.Labels.{label_byte, label_row, CanWriteLabelRow, CanWriteLabels}

-- the next of a row
pub label-fits : {label factor : ℕ} {right : List ℕ} {n : ℕ} {before : List ℕ} {at : ℕ} → CanWriteLabelRow label factor right n before at → {e : ℕ} {out : List ℕ} {next : ℕ} → Gathering (label_byte label factor right) n at before e out next → e < n → (next + 1 ≤ length out) × (label * factor + byte_at right (8 + e) < 256)
label-fits p {e} g less = (gathering-room g less, p.fit e less)

module _ {left : List ℕ} {left_states factor : ℕ} {right : List ℕ} {right_states : ℕ} {before : List ℕ} {at : ℕ} (p : CanWriteLabels left left_states factor right right_states before at) where
  abbrev rows : ℕ → List ℕ
  rows s = label_row (byte_at left (8 + s)) factor right right_states

  left-count : length (model_at left).labels ≡ left_states
  left-count = labels_length left (omega (arith, p.first)) ∙ sym p.first.0

  right-count : length (model_at right).labels ≡ right_states
  right-count = labels_length right (omega (arith, p.second)) ∙ sym p.second.0

  pair_is : (s e : ℕ) → s < left_states → e < right_states → pair_label (automaton_in left) (automaton_in right) s e ≡ byte_at left (8 + s) * factor + byte_at right (8 + e)
  unfolding pair_label
  pair_is s e l k =
      ap₂ (λ (x y : ℕ). x + y)
      (ap₂ (λ (x y : ℕ). x * y) (automaton-label left s (omega (arith, l, p.first.0))) (sym p.label))
      (automaton-label right e (omega (arith, k, p.second.0)))

  labels-are : (composed_in left right).labels ≡ gathered left_states rows
  unfolding composed
  labels-are =
      ap (λ (x : ℕ). gathered x (λ s. gathered (length (model_at right).labels) (λ e. pair_label (automaton_in left) (automaton_in right) s e ∷ [])))
      left-count
      ∙ gathered-cong left_states _ rows (λ s l.
      ap (λ (x : ℕ). gathered x (λ e. pair_label (automaton_in left) (automaton_in right) s e ∷ [])) right-count
      ∙ gathered-cong right_states _ _ (λ e k. ap (λ (x : ℕ). x ∷ []) (pair_is s e l k)))

  pub labels-start : Gathering rows left_states at before 0 before at
  labels-start = gathering-start (omega (arith, p.room, ap length labels-are))

  fits : (s e : ℕ) → s < left_states → e < right_states → byte_at left (8 + s) * factor + byte_at right (8 + e) < 256
  unfolding state_at
  fits s e l k =
      let C = (composed_in left right).labels in
      let states : length C ≡ left_states * right_states =
      composed-states (model_at left) (model_at right) ∙ ap₂ (λ (x y : ℕ). x * y) left-count right-count in
      let inside : suc s * right_states ≤ left_states * right_states = mul-le-mul_right right_states l in
      let place : state_at (length (model_at right).labels) s e ≡ s * right_states + e = ap (λ (x : ℕ). s * x + e) right-count in
      let small = each_at (λ (b : ℕ). b < 256) C (state_at (length (model_at right).labels) s e) 0 p.fit
      (omega (arith, states, inside, place, k)) in
      omega (
        arith,
        small,
        composed-label (model_at left) (model_at right) s e (omega (arith, l, left-count)) (omega (arith, k, right-count)),
        pair_is s e l k,
      )

  module _ {s : ℕ} {out : List ℕ} {next : ℕ} (g : Gathering rows left_states at before s out next) where
    pub labels-ask : s < left_states → CanWriteLabelRow (byte_at left (8 + s)) factor right right_states out next
    labels-ask less = record { inside = p.second.1; fit = λ e k. fits s e less k; room = gathering-room g less }

    pub labels-end : left_states ≤ s → Appends (composed_in left right).labels at before out next
    labels-end past = appended-as labels-are (gathering-all g past)
