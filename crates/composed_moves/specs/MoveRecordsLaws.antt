-- Laws of the records of moves, as they are appended.
use Prim.Native.Nat.{ℕ, ◌+◌, ◌*◌, ◌≤◌, ◌<◌}
use Rattle.std.specs.Prelude.{◌≡◌, length}
use Rattle.std.proofs.Math.Path.{refl, sym, ap, ap₂}
use Rattle.std.proofs.Common.{◌∙◌, subst, mul-le-mul, mul-le-mul_right}
use mathlib.Core.List.{List, [], ◌∷◌, ◌++◌, map, append-nil}
use Rattle.std.proofs.Math.ListN.{length-map}
use native.Mathlib.Omega.{arith}
use Rattle.bisimulation.specs.definitions.Composed.{state_at}
use Rattle.rules.specs.definitions.Model.{Entry, Transition, entries_bytes, transition_bytes, automaton_of}
use Rattle.rules.specs.definitions.Reading.{states_of, entry_count_at, entries_at, transition_at, model_at, place_of}
use Rattle.rules.specs.definitions.SoundModel.{Each, sum_over}
use Rattle.rules.proofs.argument.ReadBack.{entries_bytes-length, transition_bytes-length}
use Rattle.rules.proofs.argument.FetchedRun.{length-entries_at}
use Rattle.rules.proofs.argument.ModelAutomaton.{transition-is}
use Rattle.rules.proofs.argument.AnswerLaws.{labels_length}
use Rattle.rules.proofs.argument.SoundModelLaws.{each_map}
use Rattle.rules.proofs.argument.MappedLists.{each_both, each-most}
use Rattle.transition_record.specs.declared.Fields.{Fields}
use Rattle.transition.specs.Known.{KnownTransition, FieldsOf, entries_of}
use Rattle.transition.specs.KnownLaws.{rules-of, entries-known}
use Rattle.writer.specs.Appends.{Appends, fixed_bytes}
use Rattle.writer.specs.AppendsLaws.{append-more, record-bytes, entries-append, Ahead, ahead-start, ahead-turn, ahead-end}
use Rattle.writer.specs.ChangedRecords.{EntryFits}
use Rattle.placed_entries.specs.Placed.{placed_entry, placed_record, CanPlaceEntries}
use Rattle.placed_entries.specs.PlacedLaws.{placed-fit}
use Rattle.composition.specs.definitions.Composition.{transition_of, pair_entry, pair_entries, pair_transition, still}
use Rattle.composition.proofs.argument.PairEntriesLaws.{pair-length}
use Rattle.composed_moves.specs.MoveRecords.{left_record, right_record, together_record, CanWriteLeft, CanWriteRight, CanWriteTogether, pairs_at, RowFits, CanWritePairs}

-- an entry of the left with all of the right's is placing: the stride 1, and the offset and the factor of the left's
pair-placed : (n : ℕ) (e : Entry) (fs : List Entry) → map (placed_entry 1 (e.state * n) e.weight) fs ≡ map (pair_entry n e) fs
unfolding placed_entry pair_entry state_at
pair-placed n e fs =
    let state : (f : Entry) → 1 * f.state + e.state * n ≡ e.state * n + f.state = λ f. omega arith in
    λ i. map (λ (f : Entry). record { state = state f i; weight = e.weight * f.weight }) fs

-- beside a right that stands still at e: the stride n, and the offset e
left-placed : (n a e : ℕ) (es : List Entry) → map (placed_entry n e 1) es ≡ pair_entries n es (still a e).entries
unfolding placed_entry pair_entry pair_entries still state_at
left-placed n a e [] = refl
left-placed n a e (x ∷ es) =
    let state : n * x.state + e ≡ x.state * n + e = omega arith in
    let weight : 1 * x.weight ≡ x.weight * 1 = omega arith in
    λ i. record { state = state i; weight = weight i } ∷ left-placed n a e es i

-- beside a left that stands still at s
right-placed : (n a s : ℕ) (fs : List Entry) → map (placed_entry 1 (s * n) 1) fs ≡ pair_entries n (still a s).entries fs
unfolding pair_entries still
right-placed n a s fs = pair-placed n (record { state = s; weight = 1 }) fs ∙ sym (append-nil _)

-- the fixed fields and then the entries, appended, are the record
record-appended : {source action denominator count at end : ℕ} {out after : List ℕ} {es : List Entry} (x : Transition) → source ≡ x.source → action ≡ x.action → denominator ≡ x.denominator → count ≡ length es → es ≡ x.entries → Appends (fixed_bytes source action denominator count ++ entries_bytes es) at out after end → Appends (transition_bytes x) at out after end
record-appended {at = at} {end = end} {out = out} {after = after} x from by over many e =
    subst (λ (l : List ℕ). Appends l at out after end) (record-bytes x from by over many e)

-- a source and a state beside it fit their byte
source_fits : (most n s e : ℕ) → most * n < 256 → s < most → e < n → s * n + e < 256
source_fits most n s e fits from beside = omega (arith, fits, mul-le-mul_right n from, beside)

-- a transition as its fields are read
module _ {s table : List ℕ} {q : ℕ} (t : KnownTransition s table q) {f : Fields} (h : FieldsOf s q f) where
  at_place : entries_at s f.count f.entries.at ≡ entries_of s q
  at_place = ap₂ (entries_at s) h.count h.entries

  entries-read : entries_at s f.count f.entries.at ≡ (transition_of (model_at s) q).entries
  unfolding transition_at
  entries-read = at_place ∙ sym (ap (λ (x : Transition). x.entries) (transition-is s q (omega (arith, t.below, t.known.transitions))))

  entries-count : length (transition_of (model_at s) q).entries ≡ f.count
  entries-count = ap length (sym entries-read) ∙ length-entries_at s f.count f.entries.at

  -- no more entries than states
  count_most : f.count ≤ states_of s
  unfolding transition_at
  count_most =
      omega (arith, h.count, length-entries_at s (entry_count_at s (place_of s q)) (place_of s q + 7), (rules-of t).most, labels_length s t.known.labels)

  states-read : Each (λ (e : Entry). e.state < states_of s) (entries_at s f.count f.entries.at)
  states-read = subst (Each (λ (e : Entry). e.state < states_of s)) (sym at_place) (entries-known t).states

  weights-read : Each (λ (e : Entry). e.weight ≤ f.denominator) (entries_at s f.count f.entries.at)
  weights-read =
      let k = entries-known t in
      each-most (λ (e : Entry). e.weight) f.denominator _ (omega (arith, ap (sum_over (λ (e : Entry). e.weight)) at_place, k.whole, h.denominator))

  inside-read : f.entries.at + 3 * f.count ≤ length s
  inside-read = omega (arith, (entries-known t).inside, h.count, h.entries)

-- the left's transition alone
module _ {left table : List ℕ} {q n e : ℕ} {out : List ℕ} {at : ℕ} (m : CanWriteLeft left table q n e out at) {f : Fields} (h : FieldsOf left q f) where
  pub left-source : f.source * n + e < 256
  left-source = source_fits (states_of left) n f.source e m.states h.from m.state

  pub left-room : at + 7 + 3 * f.count ≤ length out
  unfolding pair_transition still
  left-room =
      let t = transition_of (model_at left) q in
      omega (
        arith,
        m.room,
        transition_bytes-length (pair_transition n t (still t.action e)),
        pair-length n t.entries (still t.action e).entries,
        entries-count m.transition h,
      )

  pub left-record : {after : List ℕ} {end : ℕ} → Appends (placed_record (f.source * n + e) n e left f) at out after end → Appends (left_record left n q e) at out after end
  unfolding pair_transition still automaton_of state_at
  left-record =
      let t = transition_of (model_at left) q in
      let es = entries_at left f.count f.entries.at in
      let whole : f.denominator ≡ f.denominator * 1 = omega arith in
      record-appended (pair_transition n t (still t.action e))
      (ap (λ (x : ℕ). x * n + e) h.source)
      h.action
      (whole ∙ ap (λ (x : ℕ). x * 1) h.denominator)
      (sym (length-map es (placed_entry n e 1) ∙ length-entries_at left f.count f.entries.at))
      (left-placed n t.action e es ∙ ap (λ (l : List Entry). pair_entries n l (still t.action e).entries) (entries-read m.transition h))

-- the right's alone
module _ {right table : List ℕ} {r n s : ℕ} {out : List ℕ} {at : ℕ} (m : CanWriteRight right table r n s out at) {f : Fields} (h : FieldsOf right r f) where
  pub right-room : at + 7 + 3 * f.count ≤ length out
  unfolding pair_transition still
  right-room =
      let u = transition_of (model_at right) r in
      omega (
        arith,
        m.room,
        transition_bytes-length (pair_transition n (still u.action s) u),
        pair-length n (still u.action s).entries u.entries,
        entries-count m.transition h,
      )

  pub right-record : {after : List ℕ} {end : ℕ} → Appends (placed_record (s * n + f.source) 1 (s * n) right f) at out after end → Appends (right_record right n s r) at out after end
  unfolding pair_transition still automaton_of state_at
  right-record =
      let u = transition_of (model_at right) r in
      let fs = entries_at right f.count f.entries.at in
      let whole : f.denominator ≡ 1 * f.denominator = omega arith in
      record-appended (pair_transition n (still u.action s) u)
      (ap (λ (x : ℕ). s * n + x) h.source)
      h.action
      (whole ∙ ap (λ (x : ℕ). 1 * x) h.denominator)
      (sym (length-map fs (placed_entry 1 (s * n) 1) ∙ length-entries_at right f.count f.entries.at))
      (right-placed n u.action s fs ∙ ap (pair_entries n (still u.action s).entries) (entries-read m.transition h))

-- both together
rows_fit : (most n d d' : ℕ) → most * n < 256 → d * d' < 65536 → (es fs : List Entry) → Each (λ (e : Entry). e.state < most) es → Each (λ (e : Entry). e.weight ≤ d) es → Each (λ (f : Entry). f.state < n) fs → Each (λ (f : Entry). f.weight ≤ d') fs → Each (RowFits n fs) es
rows_fit most n d d' states weights es fs below light others lights =
    each_map (λ (e : Entry). (e.state < most) × (e.weight ≤ d)) (RowFits n fs) row es (each_both _ _ es below light)
  where
    row : (e : Entry) → (e.state < most) × (e.weight ≤ d) → RowFits n fs e
    row e h =
        let row = mul-le-mul_right n h.0 in
        record {
          first = omega (arith, states, row);
          each =
              placed-fit 1 (e.state * n) e.weight n d' fs (omega (arith, states, row)) (omega (arith, weights, mul-le-mul_right d' h.1)) others lights;
        }

module _ {left left_table : List ℕ} {q : ℕ} {right right_table : List ℕ} {r n : ℕ} {out : List ℕ} {at : ℕ} (m : CanWriteTogether left left_table q right right_table r n out at) {f g : Fields} (h : FieldsOf left q f) (k : FieldsOf right r g) where
  denominator-fits : f.denominator * g.denominator < 65536
  denominator-fits = omega (arith, m.denominator, ap₂ (λ (x y : ℕ). x * y) h.denominator k.denominator)

  -- the source, the denominator and the number of entries fit their fields
  pub together-fits : (f.source * n + g.source < 256) × (f.denominator * g.denominator < 65536) × (f.count * g.count < 256)
  together-fits =
      let most : g.count ≤ n = omega (arith, count_most m.second k, m.all) in (
        source_fits (states_of left) n f.source g.source m.states h.from (omega (arith, k.from, m.all)),
        denominator-fits,
        omega (arith, m.states, mul-le-mul (count_most m.first h) most),
      )

  pub together-room : at + 7 + 3 * (f.count * g.count) ≤ length out
  unfolding pair_transition
  together-room =
      let t = transition_of (model_at left) q in
      let u = transition_of (model_at right) r in
      omega (
        arith,
        m.room,
        transition_bytes-length (pair_transition n t u),
        pair-length n t.entries u.entries,
        ap₂ (λ (x y : ℕ). x * y) (entries-count m.first h) (entries-count m.second k),
      )

  -- the pairs of their entries can be written
  pub together-pairs : {head : List ℕ} {next : ℕ} → next + 3 * (f.count * g.count) ≤ length head → CanWritePairs n left f.count f.entries.at right g.count g.entries.at head next
  together-pairs room =
      record {
        inside = inside-read m.first h;
        right_inside = inside-read m.second k;
        fit =
            rows_fit (states_of left) n f.denominator g.denominator m.states denominator-fits _ _ (states-read m.first h) (weights-read m.first h)
            (subst (λ (x : ℕ). Each (λ (e : Entry). e.state < x) (entries_at right g.count g.entries.at)) (sym m.all) (states-read m.second k))
            (weights-read m.second k);
        room = room;
      }

  pub together-record : {source action denominator count : ℕ} {head : List ℕ} {next : ℕ} {after : List ℕ} {end : ℕ} → Appends (fixed_bytes source action denominator count) at out head next → source ≡ f.source * n + g.source → action ≡ f.action → denominator ≡ f.denominator * g.denominator → count ≡ f.count * g.count → Appends (pairs_at n left f.count f.entries.at right g.count g.entries.at) next head after end → Appends (together_record left right n q r) at out after end
  unfolding pair_transition automaton_of state_at
  together-record fixed from by over many a =
      let t = transition_of (model_at left) q in
      let u = transition_of (model_at right) r in
      let es = entries_at left f.count f.entries.at in
      let fs = entries_at right g.count g.entries.at in
      record-appended (pair_transition n t u)
      (from ∙ ap₂ (λ (x y : ℕ). x * n + y) h.source k.source)
      (by ∙ h.action)
      (over ∙ ap₂ (λ (x y : ℕ). x * y) h.denominator k.denominator)
      (many ∙ sym (pair-length n es fs ∙ ap₂ (λ (x y : ℕ). x * y) (length-entries_at left f.count f.entries.at) (length-entries_at right g.count g.entries.at)))
      (ap₂ (pair_entries n) (entries-read m.first h) (entries-read m.second k))
      (append-more fixed a)

-- what is known before each entry of the left that is written with all of the right's, with the left's entries that are left
pub record Pairing (n : ℕ) (fs : List Entry) (all : List ℕ) (at : ℕ) (before : List ℕ) (es : List Entry) (out : List ℕ) (next : ℕ) : Type 0 where
  pub fit : Each (RowFits n fs) es
  pub room : next + 3 * (length es * length fs) ≤ length out
  pub ahead : Ahead all at before (entries_bytes (pair_entries n es fs)) next out

pub pairing-start : {n : ℕ} {left : List ℕ} {count place : ℕ} {right : List ℕ} {right_count right_place : ℕ} {out : List ℕ} {at : ℕ} {es : List Entry} → es ≡ entries_at left count place → CanWritePairs n left count place right right_count right_place out at → Pairing n (entries_at right right_count right_place) (pairs_at n left count place right right_count right_place) at out es out at
pairing-start {n} {left} {count} {place} {right} {right_count} {right_place} {out} {at} e a =
    let fs = entries_at right right_count right_place in
    subst (λ (l : List Entry). Pairing n fs (pairs_at n left count place right right_count right_place) at out l out at) (sym e)
    (record {
      fit = a.fit;
      room = omega (arith, a.room, ap₂ (λ (x y : ℕ). x * y) (length-entries_at left count place) (length-entries_at right right_count right_place));
      ahead = ahead-start (omega (arith, a.room));
    })

module _ {n : ℕ} {fs : List Entry} {all : List ℕ} {at : ℕ} {before : List ℕ} {es : List Entry} {out : List ℕ} {next : ℕ} (h : Pairing n fs all at before es out next) where
  module _ {e : Entry} {others : List Entry} (first : es ≡ e ∷ others) where
    here : Pairing n fs all at before (e ∷ others) out next
    here = subst (λ (l : List Entry). Pairing n fs all at before l out next) first h

    row-fits : RowFits n fs e
    unfolding Each
    row-fits = here.fit.0

    -- the right's entries can be placed
    pub row-state : e.state * n < 256
    row-state = row-fits.first

    pub row-asks : {right : List ℕ} {right_count right_place : ℕ} → fs ≡ entries_at right right_count right_place → right_place + 3 * right_count ≤ length right → CanPlaceEntries 1 (e.state * n) e.weight right right_count right_place out next
    row-asks {right} {right_count} {right_place} all-right inside =
        record {
          inside = inside;
          fit = subst (λ (l : List Entry). Each (λ (f : Entry). EntryFits (placed_entry 1 (e.state * n) e.weight f)) l) all-right row-fits.each;
          room = omega (arith, here.room, ap length all-right, length-entries_at right right_count right_place);
        }

    pub pairing-turn : {past : ℕ} {more : List ℕ} → Appends (entries_bytes (map (placed_entry 1 (e.state * n) e.weight) fs)) next out more past → Pairing n fs all at before others more past
    unfolding Each pair_entries
    pairing-turn {past} {more} a =
        let row = map (pair_entry n e) fs in
        let b = subst (λ (l : List Entry). Appends (entries_bytes l) next out more past) (pair-placed n e fs) a in
        record {
          fit = here.fit.1;
          room = omega (arith, here.room, b.place, b.size, entries_bytes-length row, length-map fs (pair_entry n e));
          ahead = ahead-turn here.ahead (entries-append row (pair_entries n others fs)) b;
        }

  pub pairing-end : es ≡ [] → Appends all at before out next
  unfolding pair_entries entries_bytes
  pairing-end none = ahead-end h.ahead (ap (λ (l : List Entry). entries_bytes (pair_entries n l fs)) none)
