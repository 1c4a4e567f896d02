-- Bytes that stand in a file at a place: how a record's bytes and what is read at its place belong together.
use Rattle.std.specs.Prelude.{ℕ, suc, ◌+◌, ◌-◌, ◌/◌, ◌%◌, ◌^◌, ◌≤◌, ◌<◌, ◌≡◌, refl, List, [], ◌∷◌, ◌++◌, length, get_or, Bool, cond, ℤ, pos, negsuc}
use Rattle.std.proofs.Common.{sym, ◌∙◌, ap, subst, length-append, get_or-append-add, ext_get_or, arith, lt-ltb}
use Rattle.std.proofs.Math.Path.{subst⁻¹}
use Rattle.std.proofs.Math.ListN.{get_or-append}
use Rattle.std.proofs.Math.Decide.{dec_lt}
use Rattle.std.proofs.Math.IntN.{sub_ℕ}
use Rattle.std.specs.Int.Signed.{mag}
use Rattle.bisimulation.proofs.argument.ChoiceLaws.{less, not_less}
use Rattle.rules.specs.definitions.Bytes.{byte_at, two_at, four_at, signed_at, two_bytes}
use Rattle.rules.specs.definitions.Encoding.{four_bytes, complement}

-- xs are the bytes of s from a place on
pub record Stands (s : List ℕ) (at : ℕ) (xs : List ℕ) : Type 0 where
  pub inside : at + length xs ≤ length s
  pub bytes : (i : ℕ) → i < length xs → byte_at s (at + i) ≡ get_or xs i 0

pub stands-nothing : (s : List ℕ) (at : ℕ) → at ≤ length s → Stands s at []
stands-nothing s at h = record { inside = omega arith; bytes = λ i less. absurd (omega arith) }

pub stands-all : (s : List ℕ) → Stands s 0 s
unfolding byte_at
stands-all s = record { inside = omega arith; bytes = λ i less. let e : 0 + i ≡ i = omega arith in ap (λ (k : ℕ). get_or s k 0) e }

pub stands-is : (s xs : List ℕ) → Stands s 0 xs → length s ≡ length xs → s ≡ xs
unfolding byte_at
stands-is s xs h e =
    ext_get_or 0 s xs e
    (λ i less. let z : i ≡ 0 + i = omega arith in ap (λ (k : ℕ). get_or s k 0) z ∙ h.bytes i (omega arith))

-- one part after the other
pub stands-both : (s : List ℕ) (at : ℕ) (xs ys : List ℕ) → Stands s at xs → Stands s (at + length xs) ys → Stands s at (xs ++ ys)
stands-both s at xs ys h k =
    record { inside = omega (arith, length-append xs ys, k.inside); bytes = λ i less. go i less (dec_lt i (length xs)) }
  where
    go : (i : ℕ) → i < length (xs ++ ys) → Dec (i < length xs) → byte_at s (at + i) ≡ get_or (xs ++ ys) i 0
    go i less (yes small) = h.bytes i small ∙ sym (get_or-append xs ys 0 i small)
    go i less (no large) =
        let e : at + i ≡ at + length xs + (i - length xs) = omega arith in
        let z : length xs + (i - length xs) ≡ i = omega arith in
        ap (byte_at s) e
        ∙ k.bytes (i - length xs) (omega (arith, length-append xs ys))
        ∙ sym (get_or-append-add xs ys (i - length xs) 0)
        ∙ ap (λ (j : ℕ). get_or (xs ++ ys) j 0) z

pub stands-first : (s : List ℕ) (at : ℕ) (xs ys : List ℕ) → Stands s at (xs ++ ys) → Stands s at xs
stands-first s at xs ys h =
    record {
      inside = omega (arith, length-append xs ys, h.inside);
      bytes = λ i less. h.bytes i (omega (arith, length-append xs ys)) ∙ get_or-append xs ys 0 i less;
    }

pub stands-second : (s : List ℕ) (at : ℕ) (xs ys : List ℕ) → Stands s at (xs ++ ys) → Stands s (at + length xs) ys
stands-second s at xs ys h =
    record {
      inside = omega (arith, length-append xs ys, h.inside);
      bytes = λ i less.
          let e : at + length xs + i ≡ at + (length xs + i) = omega arith in
          ap (byte_at s) e ∙ h.bytes (length xs + i) (omega (arith, length-append xs ys)) ∙ get_or-append-add xs ys i 0;
    }

-- a byte in front
pub stands-cons : (s : List ℕ) (at x : ℕ) (xs : List ℕ) → at < length s → byte_at s at ≡ x → Stands s (at + 1) xs → Stands s at (x ∷ xs)
stands-cons s at x xs room e h = stands-both s at (x ∷ []) xs front h
  where
    front : Stands s at (x ∷ [])
    front =
        record {
          inside = omega arith;
          bytes = λ i less. let z : at + i ≡ at = omega arith in let o : i ≡ 0 = omega arith in ap (byte_at s) z ∙ e ∙ ap (λ (k : ℕ). get_or (x ∷ []) k 0) (sym o);
        }

pub stands-byte : (s : List ℕ) (at x : ℕ) (xs : List ℕ) → Stands s at (x ∷ xs) → byte_at s at ≡ x
stands-byte s at x xs h = let z : at ≡ at + 0 = omega arith in ap (byte_at s) z ∙ h.bytes 0 (omega arith)

pub stands-rest : (s : List ℕ) (at x : ℕ) (xs : List ℕ) → Stands s at (x ∷ xs) → Stands s (at + 1) xs
stands-rest s at x xs h = stands-second s at (x ∷ []) xs h

-- every element of the file is a byte
pub record IsBytes (s : List ℕ) : Type 0 where
  pub small : (i : ℕ) → byte_at s i < 256

-- a field of two bytes: what is read where its bytes stand, and the bytes of what is read
pub two_is : (s : List ℕ) (at x : ℕ) → x < 65536 → Stands s at (two_bytes x) → two_at s at ≡ x
unfolding two_at two_bytes
two_is s at x small h =
    omega (arith, stands-byte s at (x / 256 % 256) (x % 256 ∷ []) h, stands-byte s (at + 1) (x % 256) [] (stands-rest s at (x / 256 % 256) (x % 256 ∷ []) h))

pub two-stands : (s : List ℕ) (at : ℕ) → IsBytes s → at + 2 ≤ length s → Stands s at (two_bytes (two_at s at))
unfolding two_at two_bytes
two-stands s at b room =
    stands-cons s at _ _ (omega arith) (omega (arith, b.small at, b.small (at + 1)))
    (stands-cons s (at + 1) _ _ (omega arith) (omega (arith, b.small at, b.small (at + 1)))
    (stands-nothing s (at + 1 + 1) (omega arith)))

pub two-small : (s : List ℕ) (at : ℕ) → IsBytes s → two_at s at < 65536
unfolding two_at
two-small s at b = omega (arith, b.small at, b.small (at + 1))

pub length_two : (x : ℕ) → length (two_bytes x) ≡ 2
unfolding two_bytes
length_two x = refl

-- the same bytes, at a place known by another sum
pub stands_at : {s : List ℕ} {at place : ℕ} {xs : List ℕ} → Stands s at xs → at ≡ place → Stands s place xs
stands_at {s} {xs = xs} h e = subst (λ (k : ℕ). Stands s k xs) e h

-- a field of four bytes
pub length-four : (x : ℕ) → length (four_bytes x) ≡ 4
unfolding four_bytes two_bytes
length-four x = refl

pub four_is : (s : List ℕ) (at x : ℕ) → x < 2 ^ 32 → Stands s at (four_bytes x) → four_at s at ≡ x
unfolding four_at four_bytes
four_is s at x small h =
    omega (
      arith,
      two_is s at (x / 65536) (omega arith) (stands-first s at (two_bytes (x / 65536)) (two_bytes (x % 65536)) h),
      two_is s (at + 2) (x % 65536) (omega arith)
          (stands_at (stands-second s at (two_bytes (x / 65536)) (two_bytes (x % 65536)) h) (ap (λ (k : ℕ). at + k) (length_two (x / 65536)))),
    )

pub four-stands : (s : List ℕ) (at : ℕ) → IsBytes s → at + 4 ≤ length s → Stands s at (four_bytes (four_at s at))
unfolding four_bytes
four-stands s at b room =
    stands-both s at (two_bytes (four_at s at / 65536)) (two_bytes (four_at s at % 65536))
    (subst⁻¹ (λ (k : ℕ). Stands s at (two_bytes k)) (high s at b) (two-stands s at b (omega arith)))
    (stands_at
    (subst⁻¹ (λ (k : ℕ). Stands s (at + 2) (two_bytes k)) (low s at b) (two-stands s (at + 2) b (omega arith)))
    (ap (λ (k : ℕ). at + k) (sym (length_two (four_at s at / 65536)))))
  where
    high : (s : List ℕ) (at : ℕ) → IsBytes s → four_at s at / 65536 ≡ two_at s at
    high s at b = unfold four_at in omega (arith, two-small s (at + 2) b)

    low : (s : List ℕ) (at : ℕ) → IsBytes s → four_at s at % 65536 ≡ two_at s (at + 2)
    low s at b = unfold four_at in omega (arith, two-small s (at + 2) b)

pub four-small : (s : List ℕ) (at : ℕ) → IsBytes s → four_at s at < 2 ^ 32
unfolding four_at
four-small s at b = omega (arith, two-small s at b, two-small s (at + 2) b)

-- a price
subℕ-below : (a b : ℕ) → a < b → sub_ℕ a b ≡ negsuc (b - suc a)
subℕ-below a b h = ap (λ (t : Bool). cond t (negsuc (b - suc a)) (pos (a - b))) (lt-ltb a b h)

pub signed_is : (s : List ℕ) (at : ℕ) (z : ℤ) → mag z < 2 ^ 31 → Stands s at (four_bytes (complement z)) → signed_at s at ≡ z
unfolding signed_at complement
signed_is s at (pos n) small h =
    let e = four_is s at n (omega arith) h in
    sym (less _ (omega arith) (ap pos (sym e)))
signed_is s at (negsuc n) small h =
    let e = four_is s at (0xFFFF_FFFF - n) (omega arith) h in
    let q : n ≡ 0x1_0000_0000 - suc (four_at s at) = omega arith in
    sym (not_less _ (omega arith) (ap negsuc q ∙ sym (subℕ-below (four_at s at) 0x1_0000_0000 (omega arith))))

-- what is read as a price has the bytes that stand there, and fits
signed-cases : (s : List ℕ) (at : ℕ) → IsBytes s → (complement (signed_at s at) ≡ four_at s at) × (mag (signed_at s at) < 2 ^ 31)
unfolding signed_at complement
signed-cases s at b = go (dec_lt (four_at s at) 0x8000_0000)
  where
    Good : ℤ → Type 0
    Good z = (complement z ≡ four_at s at) × (mag z < 2 ^ 31)

    go : Dec (four_at s at < 0x8000_0000) → Good (signed_at s at)
    go (yes small) = subst Good (less (sub_ℕ (four_at s at) 0x1_0000_0000) small refl) (refl, small)
    go (no large) =
        let h = four-small s at b in
        let e : negsuc (0x1_0000_0000 - suc (four_at s at)) ≡ signed_at s at = not_less (pos (four_at s at)) (omega arith) (sym (subℕ-below (four_at s at) 0x1_0000_0000 h)) in
        subst Good e (omega arith, omega arith)

pub signed-stands : (s : List ℕ) (at : ℕ) → IsBytes s → at + 4 ≤ length s → Stands s at (four_bytes (complement (signed_at s at)))
signed-stands s at b room = subst⁻¹ (λ (k : ℕ). Stands s at (four_bytes k)) (signed-cases s at b).0 (four-stands s at b room)

pub signed-small : (s : List ℕ) (at : ℕ) → IsBytes s → mag (signed_at s at) < 2 ^ 31
signed-small s at b = (signed-cases s at b).1

-- a mark
pub mark-stands : (s : List ℕ) (at mark : ℕ) → IsBytes s → at + 2 ≤ length s → two_at s at ≡ mark → Stands s at (two_bytes mark)
mark-stands s at mark b room e = subst (λ (k : ℕ). Stands s at (two_bytes k)) e (two-stands s at b room)

-- what follows a field of two or four bytes
pub after_two : (s : List ℕ) (at x : ℕ) (xs : List ℕ) → Stands s at (two_bytes x) → Stands s (at + 2) xs → Stands s at (two_bytes x ++ xs)
after_two s at x xs h k = stands-both s at (two_bytes x) xs h (stands_at k (ap (λ (j : ℕ). at + j) (sym (length_two x))))

pub after-four : (s : List ℕ) (at x : ℕ) (xs : List ℕ) → Stands s at (four_bytes x) → Stands s (at + 4) xs → Stands s at (four_bytes x ++ xs)
after-four s at x xs h k = stands-both s at (four_bytes x) xs h (stands_at k (ap (λ (j : ℕ). at + j) (sym (length-four x))))

pub rest-of-two : (s : List ℕ) (at x : ℕ) (xs : List ℕ) → Stands s at (two_bytes x ++ xs) → Stands s (at + 2) xs
rest-of-two s at x xs h = stands_at (stands-second s at (two_bytes x) xs h) (ap (λ (j : ℕ). at + j) (length_two x))

pub rest-of-four : (s : List ℕ) (at x : ℕ) (xs : List ℕ) → Stands s at (four_bytes x ++ xs) → Stands s (at + 4) xs
rest-of-four s at x xs h = stands_at (stands-second s at (four_bytes x) xs h) (ap (λ (j : ℕ). at + j) (length-four x))
