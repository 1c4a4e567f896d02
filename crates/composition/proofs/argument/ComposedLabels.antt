-- The labels of the composition: how many they are, which one a state (s,e) has, and the highest.
use Prim.Native.Nat.{ℕ, suc, ◌+◌, ◌*◌, ◌≤◌, ◌<◌}
use Rattle.std.specs.Prelude.{◌≡◌, List, [], ◌∷◌}
use Rattle.std.proofs.Common.{◌∙◌}
use Rattle.std.proofs.Math.Path.{ap₂}
use Rattle.std.proofs.Math.ListN.{length, get_or}
use Rattle.std.proofs.Math.Nat.{mul-le-mul_right}
use native.Mathlib.Omega.{arith}
use Rattle.bisimulation.specs.definitions.Composed.{state_at, highest_label, pair_label}
use Rattle.bisimulation.proofs.argument.HighestLaws.{highest_above, highest_most, highest_reached}
use Rattle.rules.specs.definitions.Model.{Model, automaton_of}
use Rattle.rules.specs.definitions.SoundModel.{Each}
use Rattle.rules.proofs.argument.SoundModelLaws.{each_at}
use Rattle.composition.specs.definitions.Composition.{gathered, composed}
use Rattle.composition.proofs.argument.GatheredLaws.{gathered-each}
use Rattle.composition.proofs.argument.GatheredRows.{rows-length, rows_get, one_each, one_at}

module _ (M N : Model) where
  rows : ℕ → List ℕ
  rows s = gathered (length N.labels) (λ e. pair_label (automaton_of M) (automaton_of N) s e ∷ [])

  row-length : (s : ℕ) → length (rows s) ≡ length N.labels
  unfolding rows
  row-length s = one_each (pair_label (automaton_of M) (automaton_of N) s) (length N.labels)

  pub composed-states : length (composed M N).labels ≡ length M.labels * length N.labels
  unfolding composed rows
  composed-states = rows-length (length N.labels) (length M.labels) rows (λ s l. row-length s)

  pub composed-label : (s e : ℕ) → s < length M.labels → e < length N.labels → get_or (composed M N).labels (state_at (length N.labels) s e) 0 ≡ pair_label (automaton_of M) (automaton_of N) s e
  unfolding composed rows state_at
  composed-label s e l k =
      rows_get (length N.labels) 0 (length M.labels) rows (λ i j. row-length i) s e l k
      ∙ one_at 0 (pair_label (automaton_of M) (automaton_of N) s) (length N.labels) e k

  -- the highest is the pair's of the two that are highest
  top : ℕ
  top = highest_label (automaton_of M) * (highest_label (automaton_of N) + 1) + highest_label (automaton_of N)

  pair-below : (s e : ℕ) → s < length M.labels → e < length N.labels → pair_label (automaton_of M) (automaton_of N) s e ≤ top
  unfolding top pair_label automaton_of
  pair-below s e l k =
      let h = mul-le-mul_right (highest_label (automaton_of N) + 1) (highest_above (length M.labels) (automaton_of M).label s l) in
      omega (arith, h, highest_above (length N.labels) (automaton_of N).label e k)

  labels-below : Each (λ (b : ℕ). b ≤ top) (composed M N).labels
  unfolding composed Each rows
  labels-below =
      gathered-each (λ (b : ℕ). b ≤ top) (length M.labels) rows (λ s l.
      gathered-each (λ (b : ℕ). b ≤ top) (length N.labels) _ (λ e k. (pair-below s e l k, tt)))

  pub composed-highest : 0 < length M.labels → 0 < length N.labels → highest_label (automaton_of (composed M N)) ≡ highest_label (automaton_of M) * (highest_label (automaton_of N) + 1) + highest_label (automaton_of N)
  unfolding automaton_of top pair_label state_at
  composed-highest left right =
      let s = highest_reached (length M.labels) (automaton_of M).label left in
      let e = highest_reached (length N.labels) (automaton_of N).label right in
      let inside : suc s.at * length N.labels ≤ length M.labels * length N.labels = mul-le-mul_right (length N.labels) s.below in
      let place : state_at (length N.labels) s.at e.at < length (composed M N).labels = omega (arith, inside, e.below, composed-states) in
      let is : pair_label (automaton_of M) (automaton_of N) s.at e.at ≡ top =
      ap₂ (λ (a b : ℕ). a * (highest_label (automaton_of N) + 1) + b) s.is e.is in
      omega (
        arith,
        highest_most (length (composed M N).labels) (λ v. get_or (composed M N).labels v 0) top
            (λ v l. each_at (λ (b : ℕ). b ≤ top) (composed M N).labels v 0 labels-below l),
        highest_above (length (composed M N).labels) (λ v. get_or (composed M N).labels v 0) (state_at (length N.labels) s.at e.at) place,
        composed-label s.at e.at s.below e.below,
        is,
      )
