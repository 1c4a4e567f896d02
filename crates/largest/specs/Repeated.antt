-- Records that are appended so many times.
use Rattle.std.specs.Prelude.{ℕ, zero, suc, ◌+◌, ◌*◌, ◌-◌, ◌≤◌, ◌≡◌, refl, List, [], ◌∷◌, ◌++◌, length, replicate}
use Rattle.std.proofs.Common.{ap, subst, arith}
use Rattle.rules.specs.definitions.Bytes.{two_bytes}
use Rattle.rules.specs.definitions.Model.{entries_bytes, transition_bytes, transitions_bytes}
use Rattle.rules.specs.definitions.Encoding.{list_bytes}
use Rattle.writer.specs.Appends.{Appends}
use Rattle.writer.specs.AppendsLaws.{Ahead, ahead-start, ahead-turn, ahead-end}
use Rattle.largest_pair.specs.definitions.LargestPair.{self_loop}

unfoldable pub repeated : List ℕ → (count : ℕ) → List ℕ
repeated bytes zero = []
repeated bytes (suc count) = bytes ++ repeated bytes count

-- what is written so
pub loops-repeated : (count : ℕ) → transitions_bytes (replicate count self_loop) ≡ repeated (0x54 ∷ 0x52 ∷ 0 ∷ 0 ∷ 0 ∷ 1 ∷ 1 ∷ 0 ∷ 0 ∷ 1 ∷ []) count
unfolding repeated transitions_bytes transition_bytes entries_bytes two_bytes
loops-repeated zero = refl
loops-repeated (suc count) = ap (λ (l : List ℕ). transition_bytes self_loop ++ l) (loops-repeated count)

pub list-repeated : {X : Type 0} (f : X → List ℕ) (x : X) (count : ℕ) → list_bytes f (replicate count x) ≡ repeated (f x) count
unfolding repeated list_bytes
list-repeated f x zero = refl
list-repeated f x (suc count) = ap (λ (l : List ℕ). f x ++ l) (list-repeated f x count)

-- before each turn: so many are left, and there is room for them
pub record Repeating (bytes : List ℕ) (count at : ℕ) (before : List ℕ) (left : ℕ) (out : List ℕ) (next : ℕ) : Type 0 where
  pub room : next + length bytes * left ≤ length out
  pub ahead : Ahead (repeated bytes count) at before (repeated bytes left) next out

pub repeating-start : {bytes : List ℕ} {count left at : ℕ} {out : List ℕ} → count ≡ left → at + length bytes * count ≤ length out → Repeating bytes count at out left out at
repeating-start {bytes} {count} {at = at} {out} e h =
    subst (λ (k : ℕ). Repeating bytes count at out k out at) e (record { room = h; ahead = ahead-start (omega (arith, h)) })

module _ {bytes : List ℕ} {count at : ℕ} {before : List ℕ} {left : ℕ} {out : List ℕ} {next : ℕ} (h : Repeating bytes count at before left out next) where
  one-left : {fewer : ℕ} → left ≡ suc fewer → length bytes * left ≡ length bytes + length bytes * fewer
  one-left {fewer} e = omega (arith, ap (λ (k : ℕ). length bytes * k) e)

  pub repeating-room : 1 ≤ left → next + length bytes ≤ length out
  repeating-room some = let e : left ≡ suc (left - 1) = omega arith in omega (arith, h.room, one-left e)

  pub repeating-turn : {fewer past : ℕ} {more : List ℕ} → left ≡ suc fewer → Appends bytes next out more past → Repeating bytes count at before fewer more past
  unfolding repeated
  repeating-turn e a =
      record {
        room = omega (arith, h.room, a.place, a.size, one-left e);
        ahead = ahead-turn h.ahead (ap (repeated bytes) e) a;
      }

  pub repeating-end : left ≡ 0 → Appends (repeated bytes count) at before out next
  unfolding repeated
  repeating-end e = ahead-end h.ahead (ap (repeated bytes) e)
