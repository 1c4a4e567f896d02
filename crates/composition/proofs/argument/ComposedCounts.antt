-- How many transitions and entries the composition has, and how many of its denominators are too long: counted pair by pair.
use Rattle.std.specs.Prelude.{ℕ, zero, suc, ◌+◌, ◌*◌, ◌≤◌, ◌<◌, ◌≡◌, refl, true, false, List, [], ◌∷◌}
use Rattle.std.proofs.Common.{sym, ◌∙◌, ap, arith}
use Rattle.std.proofs.Math.ListN.{length}
use Rattle.std.proofs.Math.Decide.{dec_lt}
use Rattle.bisimulation.specs.definitions.Choice.{if_less}
use Rattle.bisimulation.proofs.argument.ChoiceLaws.{less, not_less}
use Rattle.bisimulation.specs.definitions.Sum.{sum}
use Rattle.bisimulation.specs.definitions.Composed.{left_alone, together, right_alone}
use Rattle.rules.specs.definitions.Model.{Transition, Model, automaton_of}
use Rattle.rules.specs.definitions.SoundModel.{Each, sum_over, highest_denominator, TransitionRules, entry_count}
use Rattle.rules.proofs.argument.MappedLists.{sum-mapped}
use Rattle.composition.specs.definitions.Composition.{moves_of, transition_of, pair_transition, still, moved, composed}
use Rattle.composition.specs.definitions.ComposeAnswer.{long_denominator}
use Rattle.composition.proofs.argument.PairCounts.{pair_count, pairs-same, moves-sum}
use Rattle.composition.proofs.argument.MovedLaws.{rules-at}
use Rattle.composition.proofs.argument.PairEntriesLaws.{pair-length}

-- a sum of one number, and one for each element
sum-constant : (n c : ℕ) (f : ℕ → ℕ) → ((i : ℕ) → i < n → f i ≡ c) → sum n f ≡ n * c
unfolding sum
sum-constant zero c f h = omega arith
sum-constant (suc n) c f h = omega (arith, sum-constant n c f (λ i l. h i (omega arith)), h n (omega arith))

length-sum : {X : Type 0} (xs : List X) → length xs ≡ sum_over (λ (x : X). 1) xs
unfolding sum_over
length-sum [] = refl
length-sum (x ∷ xs) = omega (arith, length-sum xs)

-- 1 where a denominator is more than its 2 bytes hold
abbrev pub longer : ℕ → ℕ
longer d = if_less highest_denominator d 1 0

fits-short : (d : ℕ) → d ≤ highest_denominator → longer d ≡ 0
fits-short d h = sym (not_less 1 h refl)

-- some are too long, if any counts
pub long-counted : (ts : List Transition) → long_denominator ts ≡ if_less 0 (sum_over (λ (t : Transition). longer t.denominator) ts) true false
unfolding long_denominator sum_over
long-counted [] = not_less true (omega arith) refl
long-counted (t ∷ ts) = go (long-counted ts) (dec_lt highest_denominator t.denominator)
  where
    rest : ℕ
    rest = sum_over (λ (u : Transition). longer u.denominator) ts

    go : long_denominator ts ≡ if_less 0 rest true false → Dec (highest_denominator < t.denominator) → if_less highest_denominator t.denominator true (long_denominator ts) ≡ if_less 0 (longer t.denominator + rest) true false
    go others (yes l) =
        let one : 1 ≡ longer t.denominator = less 0 l refl in
        sym (less _ l refl) ∙ less false (omega (arith, one)) refl
    go others (no l) =
        let none : 0 ≡ longer t.denominator = not_less 1 (omega arith) refl in
        let one : rest ≡ longer t.denominator + rest = omega (arith, none) in
        sym (not_less true (omega arith) refl) ∙ others ∙ ap (λ (k : ℕ). if_less 0 k true false) one

module _ (M N : Model) (left : Each (TransitionRules (length M.labels) M.actions) M.transitions) (right : Each (TransitionRules (length N.labels) N.actions) N.transitions) where
  -- a number of all transitions, added up
  composed-sum : (g : Transition → ℕ) → sum_over g (composed M N).transitions ≡ pair_count (automaton_of M) (automaton_of N) (λ q. sum (length N.labels) (λ e. g (moved M N (left_alone q e)))) (λ q r. g (moved M N (together q r))) (λ r. sum (length M.labels) (λ s. g (moved M N (right_alone s r))))
  unfolding composed automaton_of
  composed-sum g =
      sum-mapped (moved M N) (λ m. g (moved M N m)) g (λ m. refl) (moves_of (automaton_of M) (automaton_of N))
      ∙ moves-sum (automaton_of M) (automaton_of N) (λ m. g (moved M N m)) (λ q l. (rules-at M left q l).source) (λ r l. (rules-at N right r l).source)

  pub composed-transitions : length (composed M N).transitions ≡ pair_count (automaton_of M) (automaton_of N) (λ q. length N.labels) (λ q r. 1) (λ r. length M.labels)
  composed-transitions =
      length-sum (composed M N).transitions ∙ composed-sum (λ t. 1)
      ∙ pairs-same (automaton_of M) (automaton_of N) _ _ _ _ _ _
      (λ q l. sum-constant (length N.labels) 1 (λ e. 1) (λ e k. refl) ∙ omega arith)
      (λ q r l k. refl)
      (λ r k. sum-constant (length M.labels) 1 (λ s. 1) (λ s l. refl) ∙ omega arith)

  pub composed-entries : entry_count (composed M N) ≡ pair_count (automaton_of M) (automaton_of N) (λ q. length N.labels * length (transition_of M q).entries) (λ q r. length (transition_of M q).entries * length (transition_of N r).entries) (λ r. length M.labels * length (transition_of N r).entries)
  unfolding moved pair_transition still
  composed-entries =
      composed-sum (λ t. length t.entries)
      ∙ pairs-same (automaton_of M) (automaton_of N) _ _ _ _ _ _
      (λ q l. sum-constant (length N.labels) _ _ (λ e k. pair-length (length N.labels) (transition_of M q).entries _ ∙ omega arith))
      (λ q r l k. pair-length (length N.labels) (transition_of M q).entries (transition_of N r).entries)
      (λ r k. sum-constant (length M.labels) _ _ (λ s l. pair-length (length N.labels) _ (transition_of N r).entries ∙ omega arith))

  pub composed-long : sum_over (λ (t : Transition). longer t.denominator) (composed M N).transitions ≡ pair_count (automaton_of M) (automaton_of N) (λ q. 0) (λ q r. longer ((automaton_of M).denominator q * (automaton_of N).denominator r)) (λ r. 0)
  unfolding moved pair_transition still automaton_of
  composed-long =
      composed-sum (λ t. longer t.denominator)
      ∙ pairs-same (automaton_of M) (automaton_of N) _ _ _ _ _ _
      (λ q l. sum-constant (length N.labels) 0 _ (λ e k. fits-short ((transition_of M q).denominator * 1) (omega (arith, (rules-at M left q l).fits)))
      ∙ omega arith)
      (λ q r l k. refl)
      (λ r k. sum-constant (length M.labels) 0 _ (λ s l. fits-short (1 * (transition_of N r).denominator) (omega (arith, (rules-at N right r k).fits)))
      ∙ omega arith)
