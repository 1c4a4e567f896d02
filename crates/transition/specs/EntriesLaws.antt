-- Laws of entries, one read after the other.
use Prim.Native.Nat.{ℕ, zero, suc, ◌-◌, ◌≤◌, ◌<◌}
use Rattle.std.specs.Prelude.{◌≡◌, List, [], ◌∷◌}
use Rattle.std.proofs.Math.Path.{refl, sym}
use Rattle.std.proofs.Common.{arith}
use Rattle.rules.specs.definitions.Reading.{entries_at}
use Rattle.transition.specs.declared.Entry.{Entry}
use Rattle.transition.specs.Entries.{EntryTaken, entry_of}

-- none is left
pub entries-none : (s : List ℕ) (left at : ℕ) → left ≤ 0 → entries_at s left at ≡ []
unfolding entries_at
entries-none s zero at h = refl
entries-none s (suc left) at h = absurd (omega arith)

-- the first is the one that was read, and the others stand behind it
pub entries-first : {s : List ℕ} (left : ℕ) {at : ℕ} {e : Entry} → 0 < left → EntryTaken s at e → entries_at s left at ≡ entry_of e ∷ entries_at s (left - 1) e.next.at
unfolding entries_at
entries-first zero h t = absurd (omega arith)
entries-first {s} (suc left) h t =
    let one : left ≡ suc left - 1 = omega arith in
    λ i. (record { state = sym t.state i; weight = sym t.weight i }) ∷ entries_at s (one i) (sym t.next i)
