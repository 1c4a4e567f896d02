-- Laws of the fields: what stands at a place of a file is what the file has from that place on.
use Rattle.std.specs.Prelude.{ℕ, ◌+◌, ◌*◌, ◌-◌, ◌/◌, ◌%◌, ◌≤◌, ◌<◌, ◌≡◌, length, drop}
use Rattle.std.proofs.Math.Path.{refl, sym, ap}
use Rattle.std.proofs.Common.{◌∙◌, length-append, length-drop, drop-cons, drop-drop, get_or-drop, add-zero, add-one}
use mathlib.Core.List.{List, ◌∷◌, ◌++◌}
use Rattle.std.proofs.Math.ListN.{get_or}
use Rattle.std.proofs.Math.Seq.{drop-append_seam}
use native.Mathlib.Omega.{arith}
use Rattle.rules.specs.definitions.Bytes.{byte_at, two_at, two_bytes}
use Rattle.rules.specs.definitions.SoundModel.{Bytes}

module _ (s : List ℕ) (at : ℕ) where
  -- the file from k bytes after the place on
  pub past : (k : ℕ) {xs : List ℕ} → drop at s ≡ xs → drop (at + k) s ≡ drop k xs
  past k e = sym (drop-drop k at s) ∙ ap (drop k) e

  -- the file after what stands at the place
  pub past_all : (xs : List ℕ) {rest : List ℕ} → drop at s ≡ xs ++ rest → drop (at + length xs) s ≡ rest
  past_all xs {rest} e = past (length xs) e ∙ drop-append_seam xs rest

  -- what stands at the place lies in the file
  pub stands-inside : (xs rest : List ℕ) → drop at s ≡ xs ++ rest → 0 < length xs → at + length xs ≤ length s
  stands-inside xs rest e some =
      let q : length s - at ≡ length xs + length rest = sym (length-drop at s) ∙ ap length e ∙ length-append xs rest in
      omega arith

  -- the byte that stands first, and the number of two bytes
  pub first_byte : {x : ℕ} {rest : List ℕ} → drop at s ≡ x ∷ rest → byte_at s at ≡ x
  unfolding byte_at
  first_byte e = sym (get_or-drop at s 0 0 ∙ ap (λ (k : ℕ). get_or s k 0) (add-zero at)) ∙ ap (λ (l : List ℕ). get_or l 0 0) e

pub first_two : (s : List ℕ) (at x : ℕ) (rest : List ℕ) → drop at s ≡ two_bytes x ++ rest → x ≤ 65535 → two_at s at ≡ x
unfolding two_at two_bytes
first_two s at x rest e small =
    let a : byte_at s at ≡ x / 256 % 256 = first_byte s at e in
    let b : byte_at s (at + 1) ≡ x % 256 = first_byte s (at + 1) (past s at 1 e) in
    omega arith

-- the file from a place on: its field there, then what it has from the next place on
pub byte-then : (s : List ℕ) (at next : ℕ) → next ≡ at + 1 → next ≤ length s → {rest : List ℕ} → drop next s ≡ rest → drop at s ≡ byte_at s at ∷ rest
unfolding byte_at
byte-then s at next e h q =
    drop-cons s at 0 (omega arith) ∙ ap (λ (k : ℕ). get_or s at 0 ∷ drop k s) (sym (e ∙ add-one at)) ∙ ap (λ (l : List ℕ). get_or s at 0 ∷ l) q

module _ (s : List ℕ) (bytes : Bytes s) (at next : ℕ) (e : next ≡ at + 2) (h : next ≤ length s) where
  pub two-small : two_at s at ≤ 65535
  unfolding Bytes two_at
  two-small = omega (arith, bytes at (omega arith), bytes (at + 1) (omega arith))

  pub two_then : {rest : List ℕ} → drop next s ≡ rest → drop at s ≡ two_bytes (two_at s at) ++ rest
  unfolding Bytes two_at two_bytes
  two_then {rest} q =
      let a : byte_at s at < 256 = bytes at (omega arith) in
      let b : byte_at s (at + 1) < 256 = bytes (at + 1) (omega arith) in
      let high : byte_at s at ≡ (byte_at s at * 256 + byte_at s (at + 1)) / 256 % 256 = omega arith in
      let low : byte_at s (at + 1) ≡ (byte_at s at * 256 + byte_at s (at + 1)) % 256 = omega arith in
      byte-then s at (at + 1) refl (omega arith) (byte-then s (at + 1) next (omega arith) h q) ∙ (λ i. high i ∷ low i ∷ rest)
