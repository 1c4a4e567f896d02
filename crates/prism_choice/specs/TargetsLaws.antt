-- Laws of the targets in a table, and of the record of a choice.
use Rattle.std.specs.Prelude.{ℕ, ◌+◌, ◌/◌, ◌≤◌, ◌<◌, ◌≡◌, refl, length, set}
use Rattle.std.proofs.Common.{length-set, sym, ◌∙◌, ap, arith}
use Rattle.std.proofs.Math.Path.{subst}
use mathlib.Core.List.{List, [], ◌∷◌, ◌++◌, map, map-append}
use Rattle.std.proofs.lemmas.List.{length-map}
use Rattle.rules.specs.definitions.Bytes.{two_bytes}
use Rattle.rules.specs.definitions.Limits.{limits}
use Rattle.rules.specs.definitions.Model.{Entry, entries_bytes, transition_bytes}
use Rattle.prism.specs.definitions.HeldModel.{entry_over}
use Rattle.prism.proofs.argument.Table.{each_more, Listed, listed-length, listed-next, listed-more}
use Rattle.writer.specs.Appends.{Appends, fixed_bytes}
use Rattle.writer.specs.AppendsLaws.{append-none, append-more, entries-append, record-bytes}
use Rattle.prism_choice.specs.declared.Target.{Target}
use Rattle.prism_choice.specs.Targets.{target_at, targets_in, over_divisor, TargetsFit}

abbrev pub entry_with : Target → Entry
entry_with t = record { state = t.state; weight = t.parts }

targets-listed : Listed (record { state = 0; parts = 0 }) entry_with targets_in
unfolding targets_in
targets-listed = record { none = λ table. refl; next = λ table i. refl }

-- one more target
pub targets_next : (table : List Target) (i : ℕ) → targets_in table (i + 1) ≡ targets_in table i ++ (entry_with (target_at table i) ∷ [])
targets_next = listed-next targets-listed

-- as many as are counted
pub targets-length : (table : List Target) (count : ℕ) → length (targets_in table count) ≡ count
targets-length = listed-length targets-listed

-- a table in which one more target is set: those before it stay, and it follows them
module _ (table : List Target) (count : ℕ) (x : Target) (room : count < length table) where
  pub targets-more : targets_in (set table count x) (count + 1) ≡ targets_in table count ++ (entry_with x ∷ [])
  targets-more = listed-more targets-listed table count x room

  -- it fits where they do
  pub fit-more : TargetsFit table count → count < limits.states → x.state < limits.states → x.parts ≤ 10000 → TargetsFit (set table count x) (count + 1)
  fit-more h few low part =
      record {
        size = length-set table count x ∙ h.size;
        most = omega arith;
        states = each_more _ table count x room (λ (y : Target). y.state < limits.states) h.states low;
        parts = each_more _ table count x room (λ (y : Target). y.parts ≤ 10000) h.parts part;
      }

-- a table without targets fits
pub fit_none : {table : List Target} → length table ≡ limits.states → TargetsFit table 0
fit_none e =
    record { size = e; most = omega arith; states = λ i less. absurd (omega arith); parts = λ i less. absurd (omega arith) }

-- the first target of a choice is all of them
pub targets-one : (table : List Target) (x : Target) → 0 < length table → targets_in (set table 0 x) 1 ≡ entry_with x ∷ []
unfolding targets_in
targets-one table x room = targets-more table 0 x room

-- the entries of the targets, their ten-thousandths divided
abbrev pub divided_bytes : (divisor : ℕ) (table : List Target) (count : ℕ) → List ℕ
divided_bytes divisor table count = entries_bytes (map (entry_over divisor) (targets_in table count))

module _ (divisor : ℕ) (table : List Target) where
  -- no entry yet
  pub divided-none : {at : ℕ} {out : List ℕ} → at ≤ length out → Appends (divided_bytes divisor table 0) at out out at
  unfolding targets_in entries_bytes
  divided-none {at} {out} h = append-none out at h

  -- one more entry
  pub divided-more : (i : ℕ) {at middle next : ℕ} {a b c : List ℕ} → Appends (divided_bytes divisor table i) at a b middle → Appends ((target_at table i).state ∷ two_bytes ((target_at table i).parts / divisor)) middle b c next → Appends (divided_bytes divisor table (i + 1)) at a c next
  unfolding entries_bytes entry_over two_bytes
  divided-more i {at} {middle} {next} {a} {b} {c} p q = subst (λ (l : List ℕ). Appends l at a c next) (sym bytes) (append-more p q)
    where
      e : Entry
      e = entry_with (target_at table i)

      bytes : divided_bytes divisor table (i + 1) ≡ divided_bytes divisor table i ++ ((target_at table i).state ∷ two_bytes ((target_at table i).parts / divisor))
      bytes =
          ap (λ (es : List Entry). entries_bytes (map (entry_over divisor) es)) (targets_next table i)
          ∙ ap entries_bytes (map-append (entry_over divisor) (targets_in table i) (e ∷ []))
          ∙ entries-append (map (entry_over divisor) (targets_in table i)) (entry_over divisor e ∷ [])

-- the record
pub choice-written : (table : List Target) (count source action divisor : ℕ) {at middle next : ℕ} {a b c : List ℕ} → Appends (fixed_bytes source action (10000 / divisor) count) at a b middle → Appends (divided_bytes divisor table count) middle b c next → Appends (transition_bytes (over_divisor table count source action divisor)) at a c next
choice-written table count source action divisor {at} {next = next} {a = a} {c = c} p q =
    subst (λ (l : List ℕ). Appends l at a c next)
    (record-bytes (over_divisor table count source action divisor) refl refl refl (sym (length-map (targets_in table count) (entry_over divisor) ∙ targets-length table count)) refl)
    (append-more p q)
