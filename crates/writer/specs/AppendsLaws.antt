-- Laws of appended bytes.
use Rattle.std.specs.Prelude.{ℕ, zero, suc, ◌+◌, ◌-◌, ◌/◌, ◌%◌, ◌≤◌, ◌<◌, ◌≡◌, refl, List, [], ◌∷◌, ◌++◌, length, take, drop, set}
use Rattle.std.proofs.Common.{sym, ◌∙◌, ap, ap₂, subst, append_assoc, append-nil, length-set, length-append, take-append-drop, length-take-le, drop-drop, take_all, arith}
use Rattle.std.proofs.Math.Seq.{drop-length, take-append_seam, drop-append_seam}
use borrow.Rule.Slice.PartMut.{mid_of, put_mid, same_len_mid, Post-is, mid_len}
use Rattle.rules.specs.definitions.Bytes.{two_bytes}
use Rattle.rules.specs.definitions.Model.{Entry, Transition, entries_bytes, transition_bytes, head_bytes, labels_bytes, transitions_bytes, model_bytes}
use Rattle.writer.specs.Appends.{Appends, fixed_bytes, head_bytes_of, WritesModel}

-- one byte
set-splits : (s : List ℕ) (at x : ℕ) → at < length s → set s at x ≡ take at s ++ (x ∷ drop (suc at) s)
set-splits [] at x h = absurd (omega arith)
set-splits (y ∷ s) zero x h = refl
set-splits (y ∷ s) (suc at) x h = ap (λ (l : List ℕ). y ∷ l) (set-splits s at x (omega arith))

pub append-byte : (s : List ℕ) (at x : ℕ) → at + 1 ≤ length s → Appends (x ∷ []) at s (set s at x) (at + 1)
append-byte s at x h =
    let e : suc at ≡ at + 1 = omega arith in
    record {
      place = refl;
      room = h;
      size = length-set s at x;
      written = set-splits s at x (omega arith) ∙ ap (λ (k : ℕ). take at s ++ (x ∷ drop k s)) e;
    }

-- bytes appended, by another name
pub appended-as : {xs ys : List ℕ} {at next : ℕ} {a b : List ℕ} → ys ≡ xs → Appends xs at a b next → Appends ys at a b next
appended-as {at = at} {next} {a} {b} e = subst (λ (bytes : List ℕ). Appends bytes at a b next) (sym e)

-- bytes after bytes
pub append-more : {xs ys : List ℕ} {at middle next : ℕ} {a b c : List ℕ} → Appends xs at a b middle → Appends ys middle b c next → Appends (xs ++ ys) at a c next
append-more {xs} {ys} {at} {middle} {next} {a} {b} {c} p q =
    record {
      place = omega (arith, p.place, q.place, length-append xs ys);
      room = omega (arith, q.room, p.size);
      size = q.size ∙ p.size;
      written =
          q.written
          ∙ ap₂ (λ (l r : List ℕ). l ++ (ys ++ r)) front back
          ∙ append_assoc (take at a) xs (ys ++ drop next a)
          ∙ ap (λ (l : List ℕ). take at a ++ l) (sym (append_assoc xs ys (drop next a)));
    }
  where
    size : length (take at a ++ xs) ≡ middle
    size = length-append (take at a) xs ∙ omega (arith, length-take-le at a (omega (arith, p.place, p.room)), p.place)

    split : b ≡ (take at a ++ xs) ++ drop middle a
    split = p.written ∙ sym (append_assoc (take at a) xs (drop middle a))

    front : take middle b ≡ take at a ++ xs
    front = ap₂ (λ (k : ℕ) (l : List ℕ). take k l) (sym size) split ∙ take-append_seam (take at a ++ xs) (drop middle a)

    rest : drop middle b ≡ drop middle a
    rest = ap₂ (λ (k : ℕ) (l : List ℕ). drop k l) (sym size) split ∙ drop-append_seam (take at a ++ xs) (drop middle a)

    back : drop next b ≡ drop next a
    back =
        ap (λ (k : ℕ). drop k b) q.place
        ∙ sym (drop-drop (length ys) middle b)
        ∙ ap (drop (length ys)) rest
        ∙ drop-drop (length ys) middle a
        ∙ ap (λ (k : ℕ). drop k a) (sym q.place)

-- what stands in a buffer after bytes were appended
module _ {bytes a b : List ℕ} {at next : ℕ} (p : Appends bytes at a b next) where
  front-size : length (take at a) ≡ at
  front-size = length-take-le at a (omega (arith, p.place, p.room))

  pub front_kept : take at b ≡ take at a
  front_kept =
      ap₂ (λ (k : ℕ) (l : List ℕ). take k l) (sym front-size) p.written ∙ take-append_seam (take at a) (bytes ++ drop next a)

  behind : drop at b ≡ bytes ++ drop next a
  behind =
      ap₂ (λ (k : ℕ) (l : List ℕ). drop k l) (sym front-size) p.written ∙ drop-append_seam (take at a) (bytes ++ drop next a)

  pub appended-part : take (next - at) (drop at b) ≡ bytes
  appended-part =
      let e : next - at ≡ length bytes = omega (arith, p.place) in
      ap₂ (λ (k : ℕ) (l : List ℕ). take k l) e behind ∙ take-append_seam bytes (drop next a)

  pub appended-front : take next b ≡ take at a ++ bytes
  appended-front =
      let e : next ≡ length (take at a ++ bytes) = omega (arith, p.place, front-size, length-append (take at a) bytes) in
      ap₂ (λ (k : ℕ) (l : List ℕ). take k l) e (p.written ∙ sym (append_assoc (take at a) bytes (drop next a)))
      ∙ take-append_seam (take at a ++ bytes) (drop next a)

-- a field of two bytes
pub append-pair : {at middle next x high low : ℕ} {a b c : List ℕ} → x < 65536 → high ≡ x / 256 → low ≡ x % 256 → Appends (high ∷ []) at a b middle → Appends (low ∷ []) middle b c next → Appends (two_bytes x) at a c next
unfolding two_bytes
append-pair {at} {middle} {next} {x} {high} {low} {a} {b} {c} fits e f p q =
    let first : high ≡ x / 256 % 256 = omega arith in
    subst (λ (l : List ℕ). Appends l at a c next) (ap₂ (λ (h l : ℕ). h ∷ l ∷ []) first f) (append-more p q)

-- nothing
pub append-none : (s : List ℕ) (at : ℕ) → at ≤ length s → Appends [] at s s at
append-none s at h = let e : at ≡ at + 0 = omega arith in record { place = e; room = h; size = refl; written = sym (take-append-drop at s) }

-- a file written from the start of a buffer: so many bytes, and later ones stay
pub file-filled : {file before after : List ℕ} {size : ℕ} → Appends file 0 before after size → (size ≡ length file) × (after ≡ file ++ drop (length file) before)
file-filled {file} {before} {size = size} p =
    let e : size ≡ length file = omega (arith, p.place) in
    (e, p.written ∙ ap (λ (k : ℕ). file ++ drop k before) e)

-- a loop that appends: with the bytes left appended too, all stand
pub record Ahead (all : List ℕ) (at : ℕ) (before left : List ℕ) (next : ℕ) (out : List ℕ) : Type 0 where
  pub size : length out ≡ length before
  pub room : next ≤ length out
  pub rest : (after : List ℕ) (end : ℕ) → Appends left next out after end → Appends all at before after end

pub ahead-start : {all out : List ℕ} {at : ℕ} → at ≤ length out → Ahead all at out all at out
ahead-start h = record { size = refl; room = h; rest = λ after end a. a }

module _ {all before left out : List ℕ} {at next : ℕ} (h : Ahead all at before left next out) where
  pub ahead-turn : {xs ys more : List ℕ} {past : ℕ} → left ≡ xs ++ ys → Appends xs next out more past → Ahead all at before ys past more
  ahead-turn {xs} e a =
      record {
        size = a.size ∙ h.size;
        room = omega (arith, a.room, a.size);
        rest = λ after end b. h.rest after end (subst (λ (l : List ℕ). Appends l next out after end) (sym e) (append-more a b));
      }

  pub ahead-end : left ≡ [] → Appends all at before out next
  ahead-end e = h.rest out next (subst (λ (l : List ℕ). Appends l next out out next) (sym e) (append-none out next h.room))

-- bytes that a part is, and bytes copied into a part
pub append-copied : (given out : List ℕ) (at next : ℕ) {part : List ℕ} → next ≡ at + length given → next ≤ length out → part ≡ given → Appends given at out (put_mid at (next - at) out part) next
append-copied given out at next {part} e h is-given =
    record {
      place = e;
      room = h;
      size = same_len_mid at (next - at) out part (ap length is-given ∙ whole);
      written = ap₂ (λ (l r : List ℕ). take at out ++ (l ++ r)) is-given (Post-is at next out (omega (arith, e)));
    }
  where
    whole : length given ≡ length (mid_of at (next - at) out)
    whole = omega (arith, e, mid_len at next out h)

pub append-part : (given out : List ℕ) (at next : ℕ) {part : List ℕ} → next ≡ at + length given → next ≤ length out → part ≡ take (length given) given ++ drop (length given) (mid_of at (next - at) out) → Appends given at out (put_mid at (next - at) out part) next
append-part given out at next {part} e h f = append-copied given out at next e h is-given
  where
    whole : length given ≡ length (mid_of at (next - at) out)
    whole = omega (arith, e, mid_len at next out h)

    is-given : part ≡ given
    is-given =
        f
        ∙ ap₂ (λ (l r : List ℕ). l ++ r) (take_all (length given) given (omega arith)) (ap (λ (k : ℕ). drop k (mid_of at (next - at) out)) whole ∙ drop-length (mid_of at (next - at) out))
        ∙ append-nil given

-- the records of a model, one after the other
pub append-model : {m count n at middle next : ℕ} {labels records a b c d : List ℕ} → n ≡ length labels → Appends (head_bytes_of n m count) 0 a b at → Appends labels at b c middle → Appends records middle c d next → WritesModel m labels count records a d next
unfolding model_bytes head_bytes labels_bytes two_bytes
append-model {m} {count} {n} {next = next} {labels = labels} {records} {a} {d = d} e h l r =
    record {
      file = λ ts f g.
          subst (λ (bytes : List ℕ). Appends bytes 0 a d next)
          (ap₂ (λ (x y : ℕ). head_bytes_of x m y ++ (labels ++ records)) e g ∙ ap (λ (bytes : List ℕ). head_bytes_of (length labels) m (length ts) ++ (labels ++ bytes)) f)
          (append-more h (append-more l r));
    }

-- the fixed fields and then the entries are the record
pub record-bytes : {source action denominator count : ℕ} {es : List Entry} (t : Transition) → source ≡ t.source → action ≡ t.action → denominator ≡ t.denominator → count ≡ length es → es ≡ t.entries → fixed_bytes source action denominator count ++ entries_bytes es ≡ transition_bytes t
unfolding transition_bytes two_bytes
record-bytes {source} {action} {denominator} {count} {es} t from by over many e =
    let all = many ∙ ap length e in
    λ i. fixed_bytes (from i) (by i) (over i) (all i) ++ entries_bytes (e i)

-- entries after entries
pub entries-append : (xs ys : List Entry) → entries_bytes (xs ++ ys) ≡ entries_bytes xs ++ entries_bytes ys
unfolding entries_bytes two_bytes
entries-append [] ys = refl
entries-append (e ∷ xs) ys = ap (λ (l : List ℕ). e.state ∷ (two_bytes e.weight ++ l)) (entries-append xs ys)

-- records one after the other
pub transitions-append : (xs ys : List Transition) → transitions_bytes (xs ++ ys) ≡ transitions_bytes xs ++ transitions_bytes ys
unfolding transitions_bytes
transitions-append [] ys = refl
transitions-append (x ∷ xs) ys =
    ap (λ (l : List ℕ). transition_bytes x ++ l) (transitions-append xs ys) ∙ sym (append_assoc (transition_bytes x) (transitions_bytes xs) (transitions_bytes ys))
