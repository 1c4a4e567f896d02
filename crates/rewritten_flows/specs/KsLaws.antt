-- Laws of multiplied k entries, and of the loops over them.
use Prim.Native.Nat.{ℕ, zero, suc, ◌+◌, ◌*◌, ◌-◌, ◌≤◌, ◌<◌}
use Rattle.std.specs.Prelude.{◌≡◌, Bool, false, List, ◌∷◌, take, drop}
use Rattle.std.proofs.Math.Path.{refl, sym, ap₂, subst}
use Rattle.std.proofs.Common.{◌∙◌, length-drop, length-take-le, get_or-take, get_or-drop, ext_get_or, mul-le-mul, arith}
use Rattle.std.proofs.Math.Bool.{true}
use Rattle.std.proofs.Math.ListN.{length, get_or}
use Rattle.bisimulation.proofs.argument.ChoiceLaws.{less, not_less, past_less, false-not}
use Rattle.rules.specs.definitions.Limits.{limits}
use Rattle.rules.specs.definitions.Bytes.{byte_at, two_at, four_at, two_bytes}
use Rattle.rules.specs.definitions.SoundModel.{Each}
use Rattle.rules.specs.definitions.Encoding.{four_bytes, list_bytes, k_bytes}
use Rattle.rules.specs.definitions.CertificateAt.{entries_from, k_at}
use Rattle.rules.proofs.argument.Standing.{Stands, stands-first, stands-second, stands_at, length-four}
use Rattle.rewriting.specs.definitions.RewriteAnswer.{highest_k, passes_k}
use Rattle.field.specs.declared.Field.{Field}
use Rattle.field.specs.Taken.{Taken, taken_at}
use Rattle.writer.specs.Appends.{Appends}
use Rattle.writer.specs.AppendsLaws.{append-more, Ahead, ahead-start, ahead-turn, ahead-end}
use Rattle.rewritten_flows.specs.Flows.{multiplied_k, multiplied_at, multiplied_ks, IsTable, EntryReady, KsReady, KsFit}

-- the size of a part of a file, which is written where it stands
part_length : (C : List ℕ) (at end : ℕ) → at ≤ end → end ≤ length C → length (take (end - at) (drop at C)) ≡ end - at
part_length C at end order inside = length-take-le (end - at) (drop at C) (omega (arith, length-drop at C))

pub part_room : (C out : List ℕ) (at end : ℕ) → at ≤ end → end ≤ length C → length C ≤ length out → at + length (take (end - at) (drop at C)) ≤ length out
part_room C out at end order inside room = omega (arith, part_length C at end order inside)

part-next : (C : List ℕ) (end : ℕ) {at next : ℕ} {out more : List ℕ} → Appends (take (end - at) (drop at C)) at out more next → at ≤ end → end ≤ length C → next ≡ end
part-next C end {at} a order inside = omega (arith, a.place, part_length C at end order inside)

-- a part of a file is what stands there
stands-part : (C xs : List ℕ) (at n : ℕ) → Stands C at xs → n ≡ length xs → take n (drop at C) ≡ xs
unfolding byte_at
stands-part C xs at n h e =
    let size : length (take n (drop at C)) ≡ n = length-take-le n (drop at C) (omega (arith, h.inside, length-drop at C)) in
    ext_get_or 0 (take n (drop at C)) xs (size ∙ e)
    (λ i l. get_or-take n (drop at C) i 0 (omega arith) ∙ get_or-drop at C i 0 ∙ h.bytes i (omega arith))

-- so it is appended where the part is
pub append-stands : {C xs : List ℕ} {at end next past : ℕ} {out more : List ℕ} → Stands C at xs → end ≡ at + length xs → Appends (take (end - at) (drop at C)) next out more past → Appends xs next out more past
append-stands {C} {xs} {at} {end} {next} {past} {out} {more} h e a =
    subst (λ (l : List ℕ). Appends l next out more past) (stands-part C xs at (end - at) h (omega arith)) a

-- a k and a divisor of the table
pub product_small : {C table : List ℕ} {place : ℕ} {q : Field} → IsTable table → (r : ℕ) → Taken C four_at place 4 4294967296 q → q.value * get_or table r 0 < 281474976710656
product_small {table = table} {q = q} d r f =
    let most : q.value * get_or table r 0 ≤ 4294967295 * 65535 = mul-le-mul {n₂ = 4294967295} {m₂ = 65535} (omega (arith, f.small)) (d.small r) in
    omega (arith, most)

-- an entry that was read
module _ {C table : List ℕ} {at place : ℕ} {p : Field} (h : EntryReady C table at) (t : Taken C two_at place 2 65536 p) (e : place ≡ at + 1) where
  pub entry_listed : p.value < limits.transitions
  unfolding k_at
  entry_listed = omega (arith, taken_at t (at + 1) e, h.listed)

  pub entry-multiplied : {q r : Field} → Taken C four_at p.next.at 4 4294967296 q → r.value ≡ q.value * get_or table p.value 0 → r.next.at ≡ q.next.at → Taken C (multiplied_at table) at 7 281474976710656 r
  unfolding multiplied_at multiplied_k k_at
  entry-multiplied f v n =
      record {
        value = v ∙ ap₂ (λ (x y : ℕ). x * get_or table y 0) (taken_at f (at + 3) (omega (arith, t.next, e))) (taken_at t (at + 1) e);
        small = omega (arith, v, product_small h.divisors p.value f);
        next = omega (arith, n, f.next, t.next, e);
      }

-- what is known before each entry that is looked at
pub record Looking (C table : List ℕ) (found : Bool) (left at : ℕ) : Type 0 where
  pub ready : KsReady C table left at
  pub same : passes_k (multiplied_ks table C left at) ≡ found

-- what is known before each entry that is written, at its own place
pub record WritingKs (C table all : List ℕ) (at : ℕ) (before : List ℕ) (left place : ℕ) (out : List ℕ) : Type 0 where
  pub fit : KsFit C table left place
  pub room : length C ≤ length out
  pub ahead : Ahead all at before (list_bytes k_bytes (multiplied_ks table C left place)) place out

module _ {C table : List ℕ} where
  -- the first of so many entries, and the others
  pub ks-entry : (left : ℕ) {at : ℕ} → KsReady C table left at → 0 < left → EntryReady C table at
  unfolding Each entries_from
  ks-entry zero h some = absurd (omega arith)
  ks-entry (suc left) h some = record { divisors = h.divisors; inside = omega (arith, h.inside); listed = h.listed.0 }

  ks-rest : (left at : ℕ) → KsReady C table (suc left) at → KsReady C table left (at + 7)
  unfolding Each entries_from
  ks-rest left at h = record { divisors = h.divisors; inside = omega (arith, h.inside); listed = h.listed.1 }

  pub looking-start : {ks left at : ℕ} → ks ≡ left → KsReady C table ks at → Looking C table (passes_k (multiplied_ks table C ks at)) left at
  looking-start {ks} {at = at} e r =
      subst (λ (n : ℕ). Looking C table (passes_k (multiplied_ks table C ks at)) n at) e (record { ready = r; same = refl })

  module _ {found : Bool} where
    pub looking-large : (left : ℕ) {at : ℕ} {k : Field} → Looking C table found left at → 0 < left → Taken C (multiplied_at table) at 7 281474976710656 k → highest_k < k.value → true ≡ found
    unfolding entries_from passes_k multiplied_at
    looking-large zero h some t above = absurd (omega arith)
    looking-large (suc left) {at} h some t above = less (passes_k (multiplied_ks table C left (at + 7))) (omega (arith, t.value)) refl ∙ h.same

    looking-next : (left at : ℕ) {k : Field} → Looking C table found (suc left) at → Taken C (multiplied_at table) at 7 281474976710656 k → k.value ≤ highest_k → Looking C table found left (at + 7)
    unfolding entries_from passes_k multiplied_at
    looking-next left at h t below =
        record { ready = ks-rest left at h.ready; same = not_less true (omega (arith, t.value)) refl ∙ h.same }

    pub looking-turn : {left fewer at : ℕ} {k : Field} → Looking C table found left at → left ≡ suc fewer → Taken C (multiplied_at table) at 7 281474976710656 k → k.value ≤ highest_k → Looking C table found fewer k.next.at
    looking-turn {fewer = fewer} {at} h e t below =
        subst (Looking C table found fewer) (sym t.next) (looking-next fewer at (subst (λ (n : ℕ). Looking C table found n at) e h) t below)

    pub looking-end : (left : ℕ) {at : ℕ} → Looking C table found left at → left ≤ 0 → false ≡ found
    unfolding entries_from passes_k
    looking-end zero h none = h.same
    looking-end (suc left) h none = absurd (omega arith)

  pub ks-start : {ks left at : ℕ} {out : List ℕ} → ks ≡ left → KsFit C table ks at → length C ≤ length out → WritingKs C table (list_bytes k_bytes (multiplied_ks table C ks at)) at out left at out
  ks-start {ks} {at = at} {out} e f room =
      subst (λ (n : ℕ). WritingKs C table (list_bytes k_bytes (multiplied_ks table C ks at)) at out n at out) e
      (record { fit = f; room = room; ahead = ahead-start (omega (arith, f.ready.inside)) })

  module _ {all before : List ℕ} {at : ℕ} where
    -- an entry fits
    pub ks-fits : (left : ℕ) {place : ℕ} {out : List ℕ} {k : Field} → WritingKs C table all at before left place out → 0 < left → Taken C (multiplied_at table) place 7 281474976710656 k → k.value < 4294967296
    unfolding entries_from passes_k multiplied_at
    ks-fits zero h some t = absurd (omega arith)
    ks-fits (suc left) {place} h some t =
        omega (arith, t.value, (past_less true (passes_k (multiplied_ks table C left (place + 7))) highest_k (multiplied_at table C place) false-not (sym h.fit.fit)).0)

    -- there is room for its first fields, and then for k
    pub ks-room : (left : ℕ) {place : ℕ} {out : List ℕ} → WritingKs C table all at before left place out → 0 < left → place + length (take (place + 3 - place) (drop place C)) ≤ length out
    ks-room left {place} {out} h some = part_room C out place (place + 3) (omega arith) (omega (arith, (ks-entry left h.fit.ready some).inside)) h.room

    pub ks-later : (left : ℕ) {place next : ℕ} {out mid : List ℕ} → WritingKs C table all at before left place out → 0 < left → Appends (take (place + 3 - place) (drop place C)) place out mid next → next + 4 ≤ length mid
    ks-later left {place} h some a =
        let inside = (ks-entry left h.fit.ready some).inside in
        omega (arith, inside, h.room, a.size, part-next C (place + 3) a (omega arith) (omega arith))

    ks-next : (left place next past : ℕ) {out mid more : List ℕ} {k : Field} → WritingKs C table all at before (suc left) place out → Taken C (multiplied_at table) place 7 281474976710656 k → Appends (take (place + 3 - place) (drop place C)) place out mid next → Appends (four_bytes k.value) next mid more past → WritingKs C table all at before left (place + 7) more
    unfolding entries_from passes_k multiplied_at multiplied_k list_bytes k_bytes two_bytes
    ks-next left place next past {out} {mid} {more} {k} h t a b =
        let e = k_at C place in
        let rest = entries_from 7 (k_at C) left (place + 7) in
        let stand = h.fit.stand in
        let front : Stands C place (e.layer ∷ two_bytes e.transition) =
        stands-first C place (e.layer ∷ two_bytes e.transition) (four_bytes e.k) (stands-first C place (k_bytes e) (list_bytes k_bytes rest) stand)
        in
        let p = append-stands front (omega arith) a in
        let q : Appends (k_bytes (multiplied_k table e)) place out more past =
        append-more p (subst (λ (x : ℕ). Appends (four_bytes x) next mid more past) t.value b)
        in
        let sized : length (k_bytes (multiplied_k table e)) ≡ 7 = omega (arith, length-four (multiplied_k table e).k) in
        let ahead = ahead-turn h.ahead refl q in
        let behind : past ≡ place + 7 = omega (arith, q.place) in
        record {
          fit =
              record {
                ready = ks-rest left place h.fit.ready;
                stand = stands_at (stands-second C place (k_bytes e) (list_bytes k_bytes rest) stand) (omega (arith, length-four e.k));
                fit = sym (past_less true (passes_k (multiplied_ks table C left (place + 7))) highest_k (multiplied_at table C place) false-not (sym h.fit.fit)).1;
              };
          room = omega (arith, h.room, q.size);
          ahead = subst (λ (n : ℕ). Ahead all at before (list_bytes k_bytes (multiplied_ks table C left (place + 7))) n more) behind ahead;
        }

    pub ks-turn : {left fewer place next past : ℕ} {out mid more : List ℕ} {k : Field} → WritingKs C table all at before left place out → left ≡ suc fewer → Taken C (multiplied_at table) place 7 281474976710656 k → Appends (take (place + 3 - place) (drop place C)) place out mid next → Appends (four_bytes k.value) next mid more past → WritingKs C table all at before fewer k.next.at more
    ks-turn {fewer = fewer} {place} {next} {past} {out} {more = more} h e t a b =
        subst (λ (n : ℕ). WritingKs C table all at before fewer n more) (sym t.next)
        (ks-next fewer place next past (subst (λ (n : ℕ). WritingKs C table all at before n place out) e h) t a b)

    pub ks-end : (left : ℕ) {place : ℕ} {out : List ℕ} → WritingKs C table all at before left place out → left ≤ 0 → Appends all at before out place
    unfolding entries_from list_bytes
    ks-end zero h none = ahead-end h.ahead refl
    ks-end (suc left) h none = absurd (omega arith)
