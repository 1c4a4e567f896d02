-- The labels in a model file: the first related pairs.
use Rattle.std.specs.Prelude.{ℕ, ◌≤◌, ◌≡◌, drop}
use Rattle.std.proofs.Common.{◌∙◌, arith}
use Rattle.std.proofs.Math.Path.{ap}
use mathlib.Core.List.{List}
use Rattle.std.proofs.Math.ListN.{take, get_or}
use Rattle.bisimulation.specs.definitions.Pairs.{equal_labels}
use Rattle.rules.specs.definitions.Limits.{limits}
use Rattle.rules.specs.definitions.Model.{automaton_of}
use Rattle.rules.specs.definitions.Reading.{model_at}
use Rattle.rules.proofs.argument.SoundModelLaws.{each_at}
use Rattle.pairs.specs.Rows.{HoldsPairs}
use Rattle.classes.specs.Classes.{SmallBytes, same_labels}
use Rattle.classes.specs.ClassesLaws.{holds-start}
use Rattle.transition.specs.Known.{automaton_in, Known}
use Rattle.transition.specs.KnownLaws.{known-states}

module _ {s table : List ℕ} {n count : ℕ} (k : Known s n count table) where
  part-is : (m : ℕ) → m ≡ n → take m (drop 8 s) ≡ (model_at s).labels
  unfolding model_at
  part-is m e = ap (λ (x : ℕ). take x (drop 8 s)) (e ∙ k.states)

  pub labels-small : (m : ℕ) → m ≡ n → SmallBytes n (take m (drop 8 s))
  unfolding automaton_of
  labels-small m e =
      record {
        small = λ u h.
            omega (arith, ap (λ (l : List ℕ). get_or l u 0) (part-is m e), each_at (λ (b : ℕ). b ≤ limits.label) (model_at s).labels u 0 k.sound.labels (omega (arith, known-states k)));
      }

  pub labels-hold : (m : ℕ) → m ≡ n → {rows : List ℕ} → HoldsPairs n (same_labels (take m (drop 8 s))) rows → HoldsPairs n (equal_labels (automaton_in s)) rows
  unfolding automaton_of
  labels-hold m e h = holds-start (automaton_in s) (take m (drop 8 s)) h (λ v l. ap (λ (x : List ℕ). get_or x v 0) (part-is m e))
