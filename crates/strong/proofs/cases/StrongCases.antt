-- Document 01's model S under the strong step rule: no state meets another, so each is a block of its own.
use Rattle.std.specs.Prelude.{ℕ, ◌<◌, ◌≡◌, refl, true, [], ◌∷◌, get_or, ℤ, pos, ◌<ℤ◌}
use Rattle.std.proofs.Common.{subst, arith}
use Rattle.std.specs.Int.Signed.{lt_z_yes}
use Rattle.bisimulation.specs.definitions.Choice.{if_same, both}
use Rattle.bisimulation.specs.definitions.Sum.{sum, sumℤ}
use Rattle.bisimulation.specs.definitions.StepRule.{Met}
use Rattle.bisimulation.specs.definitions.Pairs.{Pairs, equal_labels, is_pair, removed}
use Rattle.bisimulation.specs.definitions.PairsLeft.{PairsLeft, start, refuted}
use Rattle.bisimulation.specs.definitions.Prices.{price_at, price_of_targets}
use Rattle.bisimulation.specs.definitions.Largest.{LargestBisimulation}
use Rattle.bisimulation.proofs.argument.ChoiceLaws.{false-not}
use Rattle.bisimulation.proofs.argument.PairsLeftLaws.{left_reflexive}
use Rattle.bisimulation.proofs.argument.BlocksLargest.{blocks_largest}
use Rattle.bisimulation.proofs.cases.SmallPair.{small_with, small, small_sound, SmallBlock, first_met, below_two, both_below_three, passes}
use Rattle.strong.specs.definitions.StrongStepRule.{StrongAllows, strong_total, StrongMet}
use Rattle.strong.specs.definitions.StrongRefutation.{price_a, prices_b, prices_g, StrongRefutes}
use Rattle.strong.proofs.argument.Strong.{strong}

-- state 1 has no transition with action 1, and state 2 has none
none_of1 : (r : ℕ) → r < 2 → StrongAllows small 0 1 r → ⊥
unfolding small_with if_same
none_of1 = below_two _ (λ o. omega arith) (λ o. omega arith)

none_of2 : (q r : ℕ) → r < 2 → StrongAllows small q 2 r → ⊥
unfolding small_with if_same
none_of2 q = below_two _ (λ o. omega arith) (λ o. omega arith)

-- no k is there, so D would be 0
pub small_not_met : (W : ℕ → ℕ → Type 0) → StrongMet small W 0 1 → ⊥
unfolding small_with strong_total sum
small_not_met W m = omega (arith, m.at_least_one, m.total.equal, unused 0 (omega arith), unused 1 (omega arith))
  where
    unused : (r : ℕ) → r < 2 → 0 < m.flow.k 1 r → ⊥
    unused r l u = none_of1 r l (m.layer1 r l u)

-- so state 1, which meets the move of state 0 after an internal step, does not meet it strongly
pub small_weak_only : Met small SmallBlock 0 1 × (StrongMet small SmallBlock 0 1 → ⊥)
small_weak_only = (first_met, small_not_met SmallBlock)

-- A 0, B 1 1 1, G 1 1 1
unfoldable pub small_prices : ℕ → ℤ
small_prices i = get_or (pos 0 ∷ pos 1 ∷ pos 1 ∷ pos 1 ∷ pos 1 ∷ pos 1 ∷ pos 1 ∷ []) i (pos 0)

-- they refute a state that has no transition with the challenger's action
pub small_refutes : (R : Pairs) (q t : ℕ) → q < 2 → ((r : ℕ) → r < 2 → StrongAllows small q t r → ⊥) → StrongRefutes small R q t small_prices
unfolding small_with if_same sumℤ price_at price_of_targets price_a prices_b prices_g small_prices
small_refutes R q t l no_own =
    record {
      move = λ r i o. absurd (no_own r i o);
      related = record { holds = both_below_three _ (passes tt) (passes tt) (passes tt) (passes tt) (passes tt) (passes tt) (passes tt) (passes tt) (passes tt) };
      last = record { holds = below_two (λ x. price_at small (price_a small_prices) x t <ℤ price_of_targets small (prices_g small small_prices) x) (lt_z_yes tt) (lt_z_yes tt) q l };
    }

-- 'transition 0 against 1, 0 against 2, 1 against 2', and the pairs that are left
abbrev pub strong_left : Pairs
strong_left = removed 1 2 (removed 0 2 (removed 0 1 (equal_labels small)))

pub small_strong_left : PairsLeft strong small strong_left
unfolding small_with if_same equal_labels removed is_pair both
small_strong_left =
    refuted (refuted (refuted start 0 1 small_prices (omega arith) (omega arith) (λ e. omega arith) refl (small_refutes _ 0 1 (omega arith) none_of1))
    0 2 small_prices (omega arith) (omega arith) (λ e. omega arith) refl (small_refutes _ 0 2 (omega arith) (none_of2 0)))
    1 2 small_prices (omega arith) (omega arith) (λ e. omega arith) refl (small_refutes _ 1 2 (omega arith) (none_of2 1))

-- 'blocks 0 1 2': two states in one of them
pub record StrongBlock (s t : ℕ) : Type 0 where
  pub first : s < 3
  pub second : t < 3
  pub same : s ≡ t

-- so lying in one of them is the largest relation of S under the strong rule
pub small_strong_largest : LargestBisimulation StrongMet small StrongBlock
unfolding small_with equal_labels removed is_pair both
small_strong_largest =
    blocks_largest small_sound small_strong_left
    (record {
      on_states = λ s t z. (z.first, z.second);
      related = λ s t z. subst (λ (x : ℕ). strong_left s x ≡ true) z.same (left_reflexive small_strong_left s);
      shared = λ s t l k e. record { first = l; second = k; same = shared s t l k e };
    })
    (record { met = λ s t z n. absurd (n z.same) })
  where
    shared : (s t : ℕ) → s < 3 → t < 3 → strong_left s t ≡ true → s ≡ t
    shared =
        both_below_three _ (λ _. refl) (λ e. absurd (false-not e)) (λ e. absurd (false-not e)) (λ e. absurd (false-not e)) (λ _. refl) (λ e. absurd (false-not e))
        (λ e. absurd (false-not e)) (λ e. absurd (false-not e)) (λ _. refl)
