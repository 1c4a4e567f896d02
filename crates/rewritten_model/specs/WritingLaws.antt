-- Laws of the records in lowest terms, as they are appended.
use Rattle.std.specs.Prelude.{ℕ, zero, suc, ◌+◌, ◌/◌, ◌-◌, ◌≤◌, ◌<◌, ◌≡◌, length, get_or, take, drop}
use Rattle.std.proofs.Math.Path.{sym, ap, ap₂, subst}
use Rattle.std.proofs.Common.{◌∙◌, length-append, length-drop, take_all, length-take-le, arith}
use mathlib.Core.List.{List, ◌++◌, map}
use Rattle.std.proofs.lemmas.List.{length-map}
use Rattle.std.proofs.Math.Nat.{div-le_self}
use Rattle.rules.specs.definitions.Bytes.{two_bytes}
use Rattle.rules.specs.definitions.Model.{Entry, entries_bytes, transition_bytes}
use Rattle.rules.specs.definitions.LowestTerms.{divisor_in, divided_entry, in_lowest}
use Rattle.rules.specs.definitions.Reading.{states_of, count_of, entry_count_at, after_transition, entries_at, transition_at, place_of}
use Rattle.rules.proofs.argument.SoundModelLaws.{each_map}
use Rattle.rules.proofs.argument.MappedLists.{each_both, each-most}
use Rattle.rules.proofs.argument.FetchedRun.{length-entries_at}
use Rattle.rules.proofs.argument.ModelAutomaton.{transition-is, automaton-source, automaton-action, automaton-denominator}
use Rattle.rules.proofs.argument.TermsLaws.{lowest-count}
use Rattle.transition_record.specs.declared.Fields.{Fields}
use Rattle.transition.specs.Known.{Known, FieldsOf}
use Rattle.transition.specs.KnownLaws.{few-states, known-own, known-transition, entries-known}
use Rattle.writer.specs.Appends.{Appends, fixed_bytes}
use Rattle.writer.specs.AppendsLaws.{append-more, record-bytes, file-filled}
use Rattle.writer.specs.ChangedRecords.{Changing, changed-end}
use Rattle.rewriting.specs.definitions.Rewritten.{divisor_at}
use Rattle.divisors.specs.Table.{HoldsDivisors}
use Rattle.rewritten_model.specs.Lowest.{CanDivideEntries, CanDivide, lowest_records, CanWriteRecords, lowest_file}

-- one record
module _ {s table : List ℕ} {n count r g : ℕ} {out : List ℕ} {at : ℕ} (k : Known s n count table) (m : CanDivide s count r g out at) {f : Fields} (t : FieldsOf s r f) (source action denominator many : ℕ) {head : List ℕ} {next : ℕ} (fixed : Appends (fixed_bytes source action denominator many) at out head next) where
  pub transition-asks : CanDivideEntries s f.count f.entries.at g head next
  unfolding two_bytes divided_entry
  transition-asks =
      let e = entries-known (known-transition k m.less) in
      subst (λ (n : ℕ). CanDivideEntries s n f.entries.at g head next) (sym t.count)
      (subst (λ (p : ℕ). CanDivideEntries s (entry_count_at s (place_of s r)) p g head next) (sym t.entries)
      (record {
        entries =
            record {
              inside = e.inside;
              fit =
                  each_map (λ (x : Entry). (x.state < states_of s) × (x.weight ≤ 65535)) _
                  (λ x h. (omega (arith, h.0, few-states (known-own k)), omega (arith, h.1, div-le_self x.weight g)))
                  _
                  (each_both _ _ _ e.states (each-most (λ (x : Entry). x.weight) 65535 _ (omega (arith, e.whole, e.light))));
              room = omega (arith, m.room, fixed.place, fixed.size);
            };
        divisor = m.some;
      }))

  below : r < count_of s
  below = omega (arith, m.less, k.transitions)

  divisor-is : g ≡ divisor_in (transition_at s (place_of s r))
  unfolding divisor_at
  divisor-is = m.divisor ∙ ap divisor_in (transition-is s r below)

  pub transition-lowest : {after : List ℕ} {end : ℕ} → source ≡ f.source → action ≡ f.action → denominator ≡ f.denominator / g → many ≡ f.count → Appends (entries_bytes (map (divided_entry g) (entries_at s f.count f.entries.at))) next head after end → Appends (transition_bytes (in_lowest (transition_at s (place_of s r)))) at out after end
  unfolding in_lowest transition_at
  transition-lowest {after} {end} from by over full a =
      subst (λ (l : List ℕ). Appends l at out after end)
      (record-bytes (in_lowest (transition_at s (place_of s r)))
      (from ∙ t.source ∙ automaton-source s r below)
      (by ∙ t.action ∙ automaton-action s r below)
      (over ∙ ap₂ (λ (d k : ℕ). d / k) (t.denominator ∙ automaton-denominator s r below) divisor-is)
      (full ∙ sym (length-map (entries_at s f.count f.entries.at) (divided_entry g) ∙ length-entries_at s f.count f.entries.at))
      (ap₂ (λ (n p : ℕ). map (divided_entry g) (entries_at s n p)) t.count t.entries ∙ ap (λ (k : ℕ). map (divided_entry k) (entries_at s (entry_count_at s (place_of s r)) (place_of s r + 7))) divisor-is))
      (append-more fixed a)

-- each record has its place of the file, and its divisor
pub record-asks : {s table : List ℕ} {n count : ℕ} {divisors before out : List ℕ} {at r next : ℕ} → Known s n count table → CanWriteRecords s count divisors before at → Changing in_lowest lowest-count s count at before r out next → r < count → CanDivide s count r (get_or divisors r 0) out next
unfolding after_transition
record-asks {r = r} k a h less =
    record {
      less = less;
      divisor = a.held.held r less;
      some = a.held.some r less;
      room = omega (arith, k.records r less, h.place, a.place, a.room, h.ahead.size);
    }

-- the bytes of a file from a place on, as they are taken
abbrev pub bytes_from : List ℕ → (place : ℕ) → List ℕ
bytes_from s place = take (length s - place) (drop place s)

-- the records of a sound model end in the file
records-inside : {s table : List ℕ} {n : ℕ} (count : ℕ) → Known s n count table → place_of s count ≤ length s
unfolding place_of
records-inside zero k = omega (arith, k.labels, k.states)
records-inside (suc count) k = k.records count (omega arith)

module _ {s table : List ℕ} {n count : ℕ} (k : Known s n count table) where
  -- what stands before the records
  pub front_length : length (take (8 + n) s) ≡ 8 + n
  front_length = length-take-le (8 + n) s k.labels

  -- and behind them
  end_known : get_or table count 0 ≡ place_of s (count_of s)
  end_known = k.places.held count (omega arith) ∙ ap (place_of s) k.transitions

  pub tail-inside : get_or table count 0 ≤ length s
  tail-inside = omega (arith, k.places.held count (omega arith), records-inside count k)

  tail-is : bytes_from s (get_or table count 0) ≡ drop (place_of s (count_of s)) s
  tail-is =
      let end = get_or table count 0 in
      take_all (length s - end) (drop end s) (omega (arith, length-drop end s)) ∙ ap (λ (p : ℕ). drop p s) end_known

  tail-length : length (bytes_from s (get_or table count 0)) + place_of s (count_of s) ≡ length s
  tail-length = omega (arith, ap length tail-is, length-drop (place_of s (count_of s)) s, end_known, tail-inside)

  -- the file is as long as the model's
  pub lowest-length : length (lowest_file s) ≡ length s
  lowest-length =
      omega (
        arith,
        length-append (take (8 + states_of s) s) (lowest_records s ++ drop (place_of s (count_of s)) s),
        length-append (lowest_records s) (drop (place_of s (count_of s)) s),
        ap (λ (i : ℕ). length (take (8 + i) s)) k.states,
        front_length,
        k.states,
        changed-end in_lowest lowest-count s,
        ap length tail-is,
        tail-length,
      )

  -- the file, one part after the other
  module _ {divisors out : List ℕ} (held : HoldsDivisors s count divisors) {front : List ℕ} {at : ℕ} (h : Appends (take (8 + n) s) 0 out front at) (room : length s ≤ length out) where
    pub records-fit : CanWriteRecords s count divisors front at
    records-fit =
        record {
          held = held;
          place = omega (arith, h.place, front_length, k.states);
          room = omega (arith, room, h.size);
        }

    module _ {records : List ℕ} {next : ℕ} (w : Appends (lowest_records s) at front records next) where
      pub tail-fits : next + length (bytes_from s (get_or table count 0)) ≤ length records
      tail-fits = omega (arith, w.place, w.size, records-fit.place, records-fit.room, changed-end in_lowest lowest-count s, tail-length)

      pub file-written : {after : List ℕ} {end : ℕ} → Appends (bytes_from s (get_or table count 0)) next records after end → after ≡ lowest_file s ++ drop (length s) out
      file-written {after} {end} b =
          let whole : Appends (lowest_file s) 0 out after end =
          subst (λ (bytes : List ℕ). Appends bytes 0 out after end)
          (ap₂ (λ (i : ℕ) (tail : List ℕ). take (8 + i) s ++ (lowest_records s ++ tail)) k.states tail-is) (append-more h (append-more w b)) in
          (file-filled whole).1 ∙ ap (λ (i : ℕ). lowest_file s ++ drop i out) lowest-length
