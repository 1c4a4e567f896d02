-- The larger of two numbers.
use Rattle.std.specs.Prelude.{ℕ, ◌≤◌, ◌<◌, ◌≡◌, refl}
use Rattle.std.proofs.Math.Decide.{dec_lt}
use Rattle.std.proofs.Common.{arith}
use Rattle.bisimulation.specs.definitions.Joined.{larger}
use Rattle.bisimulation.proofs.argument.ChoiceLaws.{either_less, less, not_less}

-- it is at least each, and one of them
pub larger_above : (a b : ℕ) → (a ≤ larger a b) × (b ≤ larger a b)
unfolding larger
larger_above a b = go (dec_lt a b)
  where
    go : Dec (a < b) → (a ≤ larger a b) × (b ≤ larger a b)
    go (yes l) = let e : b ≡ larger a b = less a l refl in (omega arith, omega arith)
    go (no n) = let e : a ≡ larger a b = not_less b (omega arith) refl in (omega arith, omega arith)

pub larger_most : (a b most : ℕ) → a ≤ most → b ≤ most → larger a b ≤ most
unfolding larger
larger_most a b most h k = either_less (λ (x : ℕ). x ≤ most) a b k h
