-- Laws of one flow, and of the loops over the flows.
use Prim.Native.Nat.{ℕ, zero, suc, ◌+◌, ◌*◌, ◌-◌, ◌≤◌, ◌<◌}
use Rattle.std.specs.Prelude.{◌≡◌, Bool, false, take, drop}
use Rattle.std.proofs.Math.Path.{refl, sym, ap, subst}
use Rattle.std.proofs.Common.{◌∙◌, subst₂}
use mathlib.Core.List.{List, ◌∷◌, ◌++◌, map}
use Rattle.std.proofs.Math.ListN.{length, length-map, length-append}
use native.Mathlib.Omega.{arith}
use Rattle.rules.specs.definitions.Bytes.{two_at, two_bytes}
use Rattle.rules.specs.definitions.SoundModel.{Each}
use Rattle.rules.specs.definitions.Certificate.{k_count_at, after_k, w_count_at, after_flow}
use Rattle.rules.specs.definitions.Encoding.{KEntry, FlowRecord, four_bytes, list_bytes, k_bytes, w_bytes, flow_bytes}
use Rattle.rules.specs.definitions.CertificateAt.{entries_from, k_at, flow_record_at, flows_from}
use Rattle.rules.proofs.argument.Standing.{Stands, stands-first, stands-second, stands_at}
use Rattle.rules.proofs.argument.EntryLists.{length-entries_from, length-list_bytes}
use Rattle.rules.proofs.argument.FlowRecords.{length-flow, flow-after}
use Rattle.rules.proofs.argument.CertificateStands.{FlowsFill, fill-next, fill-ends, fill-last}
use Rattle.rewriting.specs.definitions.RewriteAnswer.{passes_k}
use Rattle.field.specs.declared.Field.{Field}
use Rattle.field.specs.Taken.{Taken, taken_at}
use Rattle.writer.specs.Appends.{Appends}
use Rattle.writer.specs.AppendsLaws.{append-more}
use Rattle.rewritten_flows.specs.Flows.{multiplied_k, multiplied_ks, multiplied_flow, Listed, IsTable, KsReady, KsFit, FlowFits, FlowsLeft}
use Rattle.rewritten_flows.specs.KsLaws.{part_room, append-stands}

-- the parts of a flow: what stands before its k entries, and behind them
abbrev start_of : FlowRecord → List ℕ
start_of f = 0x46 ∷ 0x4C ∷ (four_bytes f.D ++ two_bytes (length f.ks))

abbrev end_of : FlowRecord → List ℕ
end_of f = two_bytes (length f.ws) ++ list_bytes w_bytes f.ws

flow-parts : (f : FlowRecord) → flow_bytes f ≡ start_of f ++ (list_bytes k_bytes f.ks ++ end_of f)
unfolding flow_bytes four_bytes two_bytes
flow-parts f = refl

length-start : (f : FlowRecord) → length (start_of f) ≡ 8
unfolding four_bytes two_bytes
length-start f = refl

ks-length : (es : List KEntry) → length (list_bytes k_bytes es) ≡ 7 * length es
unfolding k_bytes four_bytes two_bytes
ks-length es = length-list_bytes KEntry 7 k_bytes (λ e. refl) es

-- the place after so many k entries
after-ks : (table C : List ℕ) (at : ℕ) → at + 8 + length (list_bytes k_bytes (multiplied_ks table C (k_count_at C at) (at + 8))) ≡ after_k C at
unfolding after_k
after-ks table C at =
    let es = entries_from 7 (k_at C) (k_count_at C at) (at + 8) in
    omega (arith, ks-length (map (multiplied_k table) es), length-map es (multiplied_k table), length-entries_from 7 (k_at C) (k_count_at C at) (at + 8))

-- a flow record whose bytes stand
module _ {C : List ℕ} {at : ℕ} (stand : Stands C at (flow_bytes (flow_record_at C at))) where
  pub flow-inside : after_flow C at ≤ length C
  flow-inside = omega (arith, stand.inside, flow-after C at)

  parts-stand : Stands C at (start_of (flow_record_at C at) ++ (list_bytes k_bytes (flow_record_at C at).ks ++ end_of (flow_record_at C at)))
  parts-stand = subst (Stands C at) (flow-parts (flow_record_at C at)) stand

  start-stands : Stands C at (start_of (flow_record_at C at))
  start-stands = stands-first C at (start_of (flow_record_at C at)) _ parts-stand

  later-stand : Stands C (at + 8) (list_bytes k_bytes (flow_record_at C at).ks ++ end_of (flow_record_at C at))
  later-stand = stands_at (stands-second C at (start_of (flow_record_at C at)) _ parts-stand) (omega (arith, length-start (flow_record_at C at)))

  ks-stand : Stands C (at + 8) (list_bytes k_bytes (entries_from 7 (k_at C) (k_count_at C at) (at + 8)))
  unfolding flow_record_at
  ks-stand = stands-first C (at + 8) (list_bytes k_bytes (flow_record_at C at).ks) (end_of (flow_record_at C at)) later-stand

  end-stands : Stands C (after_k C at) (end_of (flow_record_at C at))
  unfolding flow_record_at after_k
  end-stands =
      let es = entries_from 7 (k_at C) (k_count_at C at) (at + 8) in
      stands_at (stands-second C (at + 8) (list_bytes k_bytes (flow_record_at C at).ks) (end_of (flow_record_at C at)) later-stand)
      (omega (arith, ks-length es, length-entries_from 7 (k_at C) (k_count_at C at) (at + 8)))

-- a flow's fields as they are read: the count of its k entries
module _ (at : ℕ) {C : List ℕ} {place : ℕ} {p : Field} (t : Taken C two_at place 2 65536 p) (e : place ≡ at + 6) where
  count-read : p.value ≡ k_count_at C at
  unfolding k_count_at
  count-read = taken_at t (at + 6) e

  first_read : p.next.at ≡ at + 8
  first_read = omega (arith, t.next, e)

  pub behind-read : at + 8 + 7 * p.value ≡ after_k C at
  unfolding after_k
  behind-read = ap (λ (n : ℕ). at + 8 + 7 * n) count-read

  -- what holds of the entries holds of those read
  pub ks-read : (P : ℕ → ℕ → Type 0) → P (k_count_at C at) (at + 8) → P p.value p.next.at
  ks-read P h = subst₂ P (sym count-read) (sym first_read) h

  ks-back : (P : ℕ → ℕ → Type 0) → P p.value p.next.at → P (k_count_at C at) (at + 8)
  ks-back P h = subst₂ P count-read first_read h

  -- whether one of them is large
  pub large-read : (table : List ℕ) {found : Bool} → found ≡ passes_k (multiplied_ks table C p.value p.next.at) → passes_k (multiplied_flow table (flow_record_at C at)).ks ≡ found
  unfolding multiplied_flow flow_record_at
  large-read table {found} h = sym (ks-back (λ (n first : ℕ). found ≡ passes_k (multiplied_ks table C n first)) h)

-- and the count of its w entries
pub end_read : (at : ℕ) {C : List ℕ} {place : ℕ} {q : Field} → Taken C two_at place 2 65536 q → place ≡ after_k C at → after_k C at + 2 + 6 * q.value ≡ after_flow C at
unfolding after_flow w_count_at
end_read at {C} t e = ap (λ (n : ℕ). after_k C at + 2 + 6 * n) (taken_at t (after_k C at) e)

pub after_k-inside : (C : List ℕ) (at : ℕ) → after_k C at + 2 ≤ after_flow C at
unfolding after_flow
after_k-inside C at = omega arith

pub after_k-above : (C : List ℕ) (at : ℕ) → at + 8 ≤ after_k C at
unfolding after_k
after_k-above C at = omega arith

-- a flow that is written, one part after the other
module _ {C table : List ℕ} {at : ℕ} (h : FlowFits C table at) where
  start-same : start_of (flow_record_at C at) ≡ start_of (multiplied_flow table (flow_record_at C at))
  unfolding multiplied_flow
  start-same = ap (λ (n : ℕ). 0x46 ∷ 0x4C ∷ (four_bytes (flow_record_at C at).D ++ two_bytes n)) (sym (length-map (flow_record_at C at).ks (multiplied_k table)))

  parts-written : {out one two three : List ℕ} {eight behind end past : ℕ} → Appends (take (at + 8 - at) (drop at C)) at out one eight → Appends (list_bytes k_bytes (multiplied_ks table C (k_count_at C at) (at + 8))) (at + 8) one two behind → end ≡ after_flow C at → Appends (take (end - behind) (drop behind C)) behind two three past → Appends (flow_bytes (multiplied_flow table (flow_record_at C at))) at out three past
  unfolding multiplied_flow flow_record_at
  parts-written {out} {one} {two} {three} {eight} {behind} {end} {past} a b e d =
      let f = flow_record_at C at in
      let start = append-stands (start-stands h.stand) (omega (arith, length-start f)) a in
      let first : eight ≡ at + 8 = omega (arith, start.place, length-start f) in
      let place : behind ≡ after_k C at = omega (arith, b.place, after-ks table C at) in
      let whole : after_flow C at ≡ after_k C at + length (end_of f) =
      omega (
        arith,
        flow-after C at,
        ap length (flow-parts f),
        length-append (start_of f) (list_bytes k_bytes f.ks ++ end_of f),
        length-append (list_bytes k_bytes f.ks) (end_of f),
        length-start f,
        after-ks table C at,
        ks-length f.ks,
        ks-length (map (multiplied_k table) f.ks),
        length-map f.ks (multiplied_k table),
      )
      in
      let last = append-stands (stands_at (end-stands h.stand) (sym place)) (omega arith) d in
      subst (λ (l : List ℕ). Appends l at out three past)
      (ap (λ (l : List ℕ). l ++ (list_bytes k_bytes (multiplied_ks table C (k_count_at C at) (at + 8)) ++ end_of f)) start-same ∙ sym (flow-parts (multiplied_flow table f)))
      (append-more (subst (Appends (start_of f) at out one) first start) (append-more b last))

  module _ {place : ℕ} {p : Field} (t : Taken C two_at place 2 65536 p) (e : place ≡ at + 6) where
    pub fits-asks : KsFit C table p.value p.next.at
    fits-asks = ks-read at t e (KsFit C table) h.ks

    module _ {one two : List ℕ} {behind : ℕ} (b : Appends (list_bytes k_bytes (multiplied_ks table C p.value p.next.at)) p.next.at one two behind) where
      multiplied-ks : Appends (list_bytes k_bytes (multiplied_ks table C (k_count_at C at) (at + 8))) (at + 8) one two behind
      multiplied-ks = ks-back at t e (λ (n first : ℕ). Appends (list_bytes k_bytes (multiplied_ks table C n first)) first one two behind) b

      behind-is : behind ≡ after_k C at
      behind-is = omega (arith, multiplied-ks.place, after-ks table C at)

      pub behind-inside : behind + 2 ≤ length C
      behind-inside = omega (arith, behind-is, after_k-inside C at, flow-inside h.stand)

      module _ {later : ℕ} {q : Field} (u : Taken C two_at later 2 65536 q) (f : later ≡ behind) where
        end_is : behind + 2 + 6 * q.value ≡ after_flow C at
        end_is = ap (λ (n : ℕ). n + 2 + 6 * q.value) behind-is ∙ end_read at u (f ∙ behind-is)

        pub end-inside : behind + 2 + 6 * q.value ≤ length C
        end-inside = omega (arith, end_is, flow-inside h.stand)

        pub end-room : length C ≤ length one → behind + length (take (behind + 2 + 6 * q.value - behind) (drop behind C)) ≤ length two
        end-room room = part_room C two behind (behind + 2 + 6 * q.value) (omega arith) end-inside (omega (arith, b.size))

        pub flow-written : {out three : List ℕ} {eight past : ℕ} → Appends (take (at + 8 - at) (drop at C)) at out one eight → Appends (take (behind + 2 + 6 * q.value - behind) (drop behind C)) behind two three past → Appends (flow_bytes (multiplied_flow table (flow_record_at C at))) at out three past
        flow-written a d = parts-written a multiplied-ks end_is d

-- the first of the flows that are left, and the others
pub record FlowFound (C : List ℕ) (at : ℕ) : Type 0 where
  pub stand : Stands C at (flow_bytes (flow_record_at C at))
  pub listed : Listed (flow_record_at C at).ks

module _ {C : List ℕ} where
  pub flow-found : (left : ℕ) {at : ℕ} → FlowsLeft C left at → at < length C → FlowFound C at
  unfolding flows_from list_bytes Each
  flow-found zero {at} h below = absurd (omega (arith, fill-last C at h.fill))
  flow-found (suc left) {at} h below =
      record {
        stand = stands-first C at (flow_bytes (flow_record_at C at)) (list_bytes flow_bytes (flows_from C left (after_flow C at))) h.stand;
        listed = h.listed.0;
      }

  pub left-next : (left at : ℕ) → FlowsLeft C (suc left) at → FlowsLeft C left (after_flow C at)
  unfolding flows_from list_bytes Each
  left-next left at h =
      let e : suc left - 1 ≡ left = omega arith in
      record {
        fill = subst (λ (n : ℕ). FlowsFill C n (after_flow C at)) e (fill-next C (suc left) at (omega arith) h.fill);
        stand = stands_at (stands-second C at (flow_bytes (flow_record_at C at)) (list_bytes flow_bytes (flows_from C left (after_flow C at))) h.stand) (sym (flow-after C at));
        listed = h.listed.1;
      }

  -- one of them is left before the file's end, and none there
  pub left-some : (P : ℕ → Type 0) (left : ℕ) {at : ℕ} → FlowsLeft C left at → at < length C → ((n : ℕ) → FlowsLeft C (suc n) at → P (suc n)) → P left
  left-some P zero {at} h below some = absurd (omega (arith, fill-last C at h.fill))
  left-some P (suc left) h below some = some left h

  pub left-none : (P : ℕ → Type 0) (left : ℕ) {at : ℕ} → FlowsLeft C left at → length C ≤ at → P 0 → P left
  left-none P zero h past none = none
  left-none P (suc left) {at} h past none =
      absurd (omega (arith, fill-ends C (suc left) at (omega arith) h.fill, flow-after C at, length-flow (flow_record_at C at)))

  module _ {at : ℕ} (f : FlowFound C at) {table : List ℕ} (divisors : IsTable table) where
    pub flow-ready : KsReady C table (k_count_at C at) (at + 8)
    unfolding flow_record_at
    flow-ready =
        let end = (end-stands f.stand).inside in
        record { divisors = divisors; inside = omega (arith, behind-k C at, end); listed = f.listed }
      where
        behind-k : (C : List ℕ) (at : ℕ) → at + 8 + 7 * k_count_at C at ≡ after_k C at
        behind-k C at = unfold after_k in refl

    pub flow-fits : passes_k (multiplied_flow table (flow_record_at C at)).ks ≡ false → FlowFits C table at
    unfolding multiplied_flow flow_record_at
    flow-fits small = record { stand = f.stand; ks = record { ready = flow-ready; stand = ks-stand f.stand; fit = small } }
