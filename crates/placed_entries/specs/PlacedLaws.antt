-- When entries can be placed: a transition's states are below a number, and its weights at most d.
use Rattle.std.specs.Prelude.{ℕ, ◌+◌, ◌*◌, ◌≤◌, ◌<◌, List, length}
use Rattle.std.proofs.Common.{sym, subst, ap₂, arith}
use Rattle.std.proofs.Math.Nat.{mul-le-mul_left}
use Rattle.rules.specs.definitions.Model.{Entry}
use Rattle.rules.specs.definitions.Reading.{states_of, entries_at}
use Rattle.rules.specs.definitions.SoundModel.{Each}
use Rattle.rules.proofs.argument.SoundModelLaws.{each_map}
use Rattle.rules.proofs.argument.MappedLists.{each_both, each-most}
use Rattle.transition_record.specs.declared.Fields.{Fields}
use Rattle.transition.specs.Known.{KnownTransition, FieldsOf}
use Rattle.transition.specs.KnownLaws.{fields-small, entries-known}
use Rattle.writer.specs.ChangedRecords.{EntryFits}
use Rattle.placed_entries.specs.Placed.{placed_entry, CanPlaceRecord}

-- the largest state fits a byte when placed, and the largest weight two
pub placed-fit : (stride offset factor : ℕ) (n d : ℕ) (es : List Entry) → stride * n + offset < 256 + stride → factor * d < 65536 → Each (λ (e : Entry). e.state < n) es → Each (λ (e : Entry). e.weight ≤ d) es → Each (λ (e : Entry). EntryFits (placed_entry stride offset factor e)) es
unfolding placed_entry
placed-fit stride offset factor n d es states weights below light =
    each_map (λ (e : Entry). (e.state < n) × (e.weight ≤ d)) _
    (λ e h. (omega (arith, states, mul-le-mul_left stride h.0), omega (arith, weights, mul-le-mul_left factor h.1)))
    es
    (each_both _ _ es below light)

-- the record of a transition of a sound model
pub known-record : {source stride offset : ℕ} {s table : List ℕ} {r : ℕ} {f : Fields} {out : List ℕ} {at : ℕ} → KnownTransition s table r → FieldsOf s r f → source < 256 → stride * states_of s + offset < 256 + stride → at + 7 + 3 * f.count ≤ length out → CanPlaceRecord source stride offset s f out at
known-record {stride = stride} {offset} {s} {f = f} t fields from states room =
    let k = entries-known t in
    let small = fields-small t fields in
    record {
      from = from;
      action = small.0;
      denominator = fields.small;
      count = small.1;
      inside = omega (arith, k.inside, fields.count, fields.entries);
      fit =
          subst (Each (λ (e : Entry). EntryFits (placed_entry stride offset 1 e))) (sym (ap₂ (entries_at s) fields.count fields.entries))
          (placed-fit stride offset 1 (states_of s) f.denominator _ states (omega (arith, fields.small)) k.states
          (each-most (λ (e : Entry). e.weight) f.denominator _ (omega (arith, k.whole, fields.denominator))));
      room = room;
    }
