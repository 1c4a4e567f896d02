-- The highest value of a function below a number is above all of them, and one of them.
use Rattle.std.specs.Prelude.{ℕ, zero, suc, ◌≤◌, ◌<◌, ◌≡◌, refl}
use Rattle.std.proofs.Common.{ap, arith}
use Rattle.std.proofs.Math.Decide.{ℕ_discrete, dec_lt}
use Rattle.bisimulation.specs.definitions.Choice.{if_less}
use Rattle.bisimulation.proofs.argument.ChoiceLaws.{less, not_less, either_less}
use Rattle.bisimulation.specs.definitions.Joined.{larger}
use Rattle.bisimulation.specs.definitions.Composed.{highest}
use Rattle.bisimulation.proofs.argument.LargerLaws.{larger_above}

pub highest_above : (n : ℕ) (f : ℕ → ℕ) (i : ℕ) → i < n → f i ≤ highest n f
unfolding highest
highest_above zero f i l = absurd (omega arith)
highest_above (suc n) f i l = go (highest_above n f i) (ℕ_discrete i n)
  where
    go : (i < n → f i ≤ highest n f) → Dec (i ≡ n) → f i ≤ larger (highest n f) (f n)
    go before (yes e) = omega (arith, (larger_above (highest n f) (f n)).1, ap f e)
    go before (no e) = omega (arith, (larger_above (highest n f) (f n)).0, before (omega arith))

pub highest_most : (n : ℕ) (f : ℕ → ℕ) (most : ℕ) → ((i : ℕ) → i < n → f i ≤ most) → highest n f ≤ most
unfolding highest larger
highest_most zero f most h = omega arith
highest_most (suc n) f most h =
    either_less (λ (x : ℕ). x ≤ most) (highest n f) (f n) (h n (omega arith)) (highest_most n f most (λ i l. h i (omega arith)))

pub record Reached (n : ℕ) (f : ℕ → ℕ) (top : ℕ) : Type 0 where
  pub at : ℕ
  pub below : at < n
  pub is : f at ≡ top

pub highest_reached : (n : ℕ) (f : ℕ → ℕ) → 0 < n → Reached n f (highest n f)
unfolding highest larger
highest_reached zero f some = absurd (omega arith)
highest_reached (suc zero) f some = record { at = 0; below = omega arith; is = go (dec_lt 0 (f 0)) }
  where
    go : Dec (0 < f 0) → f 0 ≡ if_less 0 (f 0) (f 0) 0
    go (yes l) = less 0 l refl
    go (no l) = not_less (f 0) (omega arith) (omega arith)
highest_reached (suc (suc n)) f some =
    either_less (Reached (suc (suc n)) f) (highest (suc n) f) (f (suc n)) last (wider (highest_reached (suc n) f (omega arith)))
  where
    last : Reached (suc (suc n)) f (f (suc n))
    last = record { at = suc n; below = omega arith; is = refl }

    wider : Reached (suc n) f (highest (suc n) f) → Reached (suc (suc n)) f (highest (suc n) f)
    wider r = record { at = r.at; below = omega (arith, r.below); is = r.is }
