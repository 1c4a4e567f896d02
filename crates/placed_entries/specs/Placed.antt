-- Entries with their states placed and their weights multiplied, records with such entries, and what their writers need.
use Rattle.std.specs.Prelude.{ℕ, ◌+◌, ◌*◌, ◌≤◌, ◌<◌, List, ◌++◌, map, length}
use Rattle.rules.specs.definitions.Model.{Entry, entries_bytes}
use Rattle.rules.specs.definitions.Reading.{entries_at}
use Rattle.rules.specs.definitions.SoundModel.{Each}
use Rattle.transition_record.specs.declared.Fields.{Fields}
use Rattle.writer.specs.Appends.{fixed_bytes}
use Rattle.writer.specs.ChangedRecords.{EntryFits, CanChangeEntries}

unfoldable pub placed_entry : (stride offset factor : ℕ) → Entry → Entry
placed_entry stride offset factor e = record { state = stride * e.state + offset; weight = factor * e.weight }

-- so many entries at a place of a file, that fit their fields when placed, and room for them
abbrev pub CanPlaceEntries : (stride offset factor : ℕ) (s : List ℕ) (count place : ℕ) (out : List ℕ) (at : ℕ) → Type 0
CanPlaceEntries stride offset factor = CanChangeEntries (placed_entry stride offset factor)

-- the record of a transition with these fields, but from this source and with its states placed
abbrev pub placed_record : (source stride offset : ℕ) (s : List ℕ) → Fields → List ℕ
placed_record source stride offset s t =
    fixed_bytes source t.action t.denominator t.count ++ entries_bytes (map (placed_entry stride offset 1) (entries_at s t.count t.entries.at))

-- its fields fit, its entries fit theirs when placed, and there is room for it
pub record CanPlaceRecord (source stride offset : ℕ) (s : List ℕ) (t : Fields) (out : List ℕ) (at : ℕ) : Type 0 where
  pub from : source < 256
  pub action : t.action < 256
  pub denominator : t.denominator < 65536
  pub count : t.count < 256
  pub inside : t.entries.at + 3 * t.count ≤ length s
  pub fit : Each (λ (e : Entry). EntryFits (placed_entry stride offset 1 e)) (entries_at s t.count t.entries.at)
  pub room : at + 7 + 3 * t.count ≤ length out
