-- Entries of one size that follow each other, whatever their fields: without fault they are the encoding of good entries in order, and the
-- other way round.
use Prim.Native.Nat.{ℕ, zero, suc, ◌+◌, ◌*◌, ◌≤◌}
use Rattle.std.specs.Prelude.{◌≡◌, length}
use Rattle.std.proofs.Math.Path.{refl, ap₂}
use Rattle.std.proofs.Common.{sym, ◌∙◌, ap}
use mathlib.Core.List.{List, [], ◌∷◌}
use Rattle.std.proofs.Math.ListN.{length-append}
use native.Mathlib.Omega.{arith}
use Rattle.rules.proofs.argument.Standing.{Stands, stands-nothing, stands-both, stands-first, stands-second, stands_at}
use Rattle.rules.specs.definitions.Faults.{Fault, Passes}
use Rattle.rules.specs.definitions.Encoding.{list_bytes}
use Rattle.rules.specs.definitions.CertificateAt.{entries_from}
use Rattle.rules.specs.definitions.Accepted.{Ascends, end, next}
use Rattle.rules.specs.definitions.SoundModel.{Each}

pub length-entries_from : {E : Type 0} (size : ℕ) (read_at : ℕ → E) (left at : ℕ) → length (entries_from size read_at left at) ≡ left
unfolding entries_from
length-entries_from size read_at zero at = refl
length-entries_from size read_at (suc left) at = ap suc (length-entries_from size read_at left (at + size))

module _ (E : Type 0) (size : ℕ) (bytes_of : E → List ℕ) (sized : (e : E) → length (bytes_of e) ≡ size) where
  pub length-list_bytes : (es : List E) → length (list_bytes bytes_of es) ≡ size * length es
  unfolding list_bytes
  length-list_bytes [] = omega arith
  length-list_bytes (e ∷ es) = length-append (bytes_of e) (list_bytes bytes_of es) ∙ omega (arith, sized e, length-list_bytes es)

  module _ (C : List ℕ) (read_at : ℕ → E) where
    pub entries-stand : ((at : ℕ) → at + size ≤ length C → Stands C at (bytes_of (read_at at))) → (left at : ℕ) → at + size * left ≤ length C → Stands C at (list_bytes bytes_of (entries_from size read_at left at))
    unfolding list_bytes entries_from
    entries-stand one zero at h = stands-nothing C at (omega arith)
    entries-stand one (suc left) at h =
        stands-both C at (bytes_of (read_at at)) _ (one at (omega arith))
        (stands_at (entries-stand one left (at + size) (omega arith)) (ap (λ (k : ℕ). at + k) (sym (sized (read_at at)))))

    module _ (Good : E → Type 0) (reads : (at : ℕ) (e : E) → Good e → Stands C at (bytes_of e) → read_at at ≡ e) where
      pub entries-read : (es : List E) (at : ℕ) → Each Good es → Stands C at (list_bytes bytes_of es) → entries_from size read_at (length es) at ≡ es
      unfolding list_bytes entries_from Each
      entries-read [] at g h = refl
      entries-read (x ∷ xs) at g h =
          ap₂ ◌∷◌ (reads at x g.0 (stands-first C at (bytes_of x) (list_bytes bytes_of xs) h))
          (entries-read xs (at + size) g.1
          (stands_at (stands-second C at (bytes_of x) (list_bytes bytes_of xs) h) (ap (λ (k : ℕ). at + k) (sized x))))

      -- a judgement of the entries left, one after the other: each is good, and their numbers ascend
      module _ (number : E → ℕ) (judged : (left at lowest : ℕ) → Fault) where
        pub entries-good : ((left at lowest : ℕ) → Passes (judged (suc left) at lowest) → (lowest ≤ number (read_at at)) × Good (read_at at) × Passes (judged left (at + size) (number (read_at at) + 1))) → (left at lowest : ℕ) → Passes (judged left at lowest) → Each Good (entries_from size read_at left at) × Ascends number lowest (entries_from size read_at left at)
        unfolding entries_from Each
        entries-good turn zero at lowest e = (tt, end)
        entries-good turn (suc left) at lowest e =
            let t = turn left at lowest e in
            let r = entries-good turn left (at + size) (number (read_at at) + 1) t.2 in
            ((t.1, r.0), next t.0 r.1)

        pub entries-pass : ((at lowest : ℕ) → Passes (judged 0 at lowest)) → ((left at lowest : ℕ) (e : E) → read_at at ≡ e → lowest ≤ number e → Good e → Passes (judged left (at + size) (number e + 1)) → Passes (judged (suc left) at lowest)) → (es : List E) (at lowest : ℕ) → Each Good es → Ascends number lowest es → Stands C at (list_bytes bytes_of es) → Passes (judged (length es) at lowest)
        unfolding list_bytes Each
        entries-pass last turn [] at lowest g a h = last at lowest
        entries-pass last turn (x ∷ xs) at lowest g (next l a) h =
            turn (length xs) at lowest x (reads at x g.0 (stands-first C at (bytes_of x) (list_bytes bytes_of xs) h)) l g.0
            (entries-pass last turn xs (at + size) (number x + 1) g.1 a
            (stands_at (stands-second C at (bytes_of x) (list_bytes bytes_of xs) h) (ap (λ (k : ℕ). at + k) (sized x))))
