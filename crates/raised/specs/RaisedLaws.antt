-- Laws of raised records, as they are appended.
use Rattle.std.specs.Prelude.{ℕ, ◌+◌, ◌*◌, ◌<◌, ◌≡◌, length}
use Rattle.std.proofs.Math.Path.{sym, ap, ap₂, subst}
use Rattle.std.proofs.Common.{◌∙◌, arith}
use mathlib.Core.List.{List, map}
use Rattle.std.proofs.lemmas.List.{length-map}
use Rattle.rules.specs.definitions.Model.{Entry, Transition, transition_bytes}
use Rattle.rules.specs.definitions.Reading.{count_of, after_transition, entries_at, transition_at, place_of}
use Rattle.rules.proofs.argument.FetchedRun.{length-entries_at}
use Rattle.rules.proofs.argument.ModelAutomaton.{automaton-source, automaton-action, automaton-denominator}
use Rattle.transition_record.specs.declared.Fields.{Fields}
use Rattle.transition.specs.Known.{Known, FieldsOf}
use Rattle.writer.specs.Appends.{Appends}
use Rattle.writer.specs.AppendsLaws.{record-bytes}
use Rattle.writer.specs.ChangedRecords.{Changing}
use Rattle.placed_entries.specs.Placed.{placed_entry, placed_record}
use Rattle.joined.specs.definitions.Joined.{raised_entry, raised_transition}
use Rattle.raised.specs.Raised.{CanRaiseTransition, CanRaise}

-- raising keeps the number of entries
pub raised-count : (k : ℕ) (t : Transition) → length (raised_transition k t).entries ≡ length t.entries
unfolding raised_transition
raised-count k t = length-map t.entries (raised_entry k)

-- raising is placing: stride and factor 1, and the offset k
placed-raised : (k : ℕ) (es : List Entry) → map (placed_entry 1 k 1) es ≡ map (raised_entry k) es
unfolding placed_entry raised_entry
placed-raised k es =
    let state : (e : Entry) → 1 * e.state + k ≡ k + e.state = λ e. omega arith in
    let weight : (e : Entry) → 1 * e.weight ≡ e.weight = λ e. omega arith in
    λ i. map (λ (e : Entry). record { state = state e i; weight = weight e i }) es

-- one record
pub transition-raised : {s table : List ℕ} {n count r k : ℕ} {out : List ℕ} {at : ℕ} → Known s n count table → CanRaiseTransition s count r k out at → {f : Fields} → FieldsOf s r f → {after : List ℕ} {end : ℕ} → Appends (placed_record (k + f.source) 1 k s f) at out after end → Appends (transition_bytes (raised_transition k (transition_at s (place_of s r)))) at out after end
unfolding raised_transition transition_at
transition-raised {s} {r = r} {k} {out} {at} known m {f} t {after} {end} a =
    let below : r < count_of s = omega (arith, m.less, known.transitions) in
    let es = entries_at s f.count f.entries.at in
    subst (λ (l : List ℕ). Appends l at out after end)
    (record-bytes (raised_transition k (transition_at s (place_of s r)))
    (ap (λ (x : ℕ). k + x) (t.source ∙ automaton-source s r below))
    (t.action ∙ automaton-action s r below)
    (t.denominator ∙ automaton-denominator s r below)
    (sym (length-map es (placed_entry 1 k 1) ∙ length-entries_at s f.count f.entries.at))
    (placed-raised k es ∙ ap₂ (λ (n p : ℕ). map (raised_entry k) (entries_at s n p)) t.count t.entries))
    a

-- each record has its place of the file
pub record-asks : {s table : List ℕ} {n count k : ℕ} {before out : List ℕ} {at r next : ℕ} → Known s n count table → CanRaise s k before at → Changing (raised_transition k) (raised-count k) s count at before r out next → r < count → CanRaiseTransition s count r k out next
unfolding after_transition
record-asks {r = r} known a h less =
    record {
      less = less;
      states = a.states;
      room = omega (arith, known.records r less, h.place, a.room, h.ahead.size);
    }
