-- What the reader's answer tells of a model file.
use Rattle.std.specs.Prelude.{ℕ, ◌≤◌, ◌≡◌, List, length, Result, Ok, Err}
use Rattle.std.proofs.Common.{sym}
use Rattle.std.proofs.Math.Path.{ap, subst}
use Rattle.rules.specs.definitions.Limits.{limits}
use Rattle.rules.specs.definitions.Reading.{model_at, head_fault, refused, scan_whole, reading_of, read_whole, model, no_model}
use Rattle.rules.proofs.argument.ReadingLaws.{Sound as Told, Tells, whole_tells}
use Rattle.rules.specs.definitions.SoundModel.{Bytes}
use Rattle.limits.specs.TermsBy.{limits_by}
use Rattle.limits.specs.declared.Terms.{Terms}
use Rattle.fault.specs.Faults.{fault_of, Placed}
use Rattle.fault.specs.declared.Fault.{Fault}
use Rattle.model.specs.Scanned.{Scans, head-refused}
use Rattle.model.specs.declared.Model.{Model as Found}
use Rattle.transition.specs.Known.{Known}
use Rattle.transition.specs.KnownLaws.{known}

-- the model file is read as sound
pub record ReadsModel (terms : Terms) (s : List ℕ) : Type 0 where
  pub end : ℕ
  pub reads : read_whole (limits_by terms) s ≡ model (model_at s) end

-- a model refused: document 01's reading, at a place of the file
scan-told : (terms : Terms) (s : List ℕ) (f : Fault) → refused (fault_of f) f.place ≡ scan_whole (limits_by terms) s → (read_whole (limits_by terms) s ≡ no_model (fault_of f) f.place) × (f.place ≤ length s)
unfolding read_whole reading_of
scan-told terms s f e =
    let placed = subst (Tells (limits_by terms) s) (sym e) (whole_tells (limits_by terms) s) in
    (ap (reading_of s) (sym e), placed.inside)

-- what the reader's answer tells of the model
module _ (terms : Terms) (s : List ℕ) {table : List ℕ} {r : Result Found Fault} (g : Scans s (scan_whole (limits_by terms) s) r table) where
  pub sound-known : {m : Found} → r ≡ Ok m → Bytes s → Known s m.states m.transitions table × ReadsModel terms s
  unfolding read_whole reading_of
  sound-known {m} e b =
      let told = subst (λ (x : Result Found Fault). Scans s (scan_whole (limits_by terms) s) x table) e g in (
        known terms s m.states m.actions m.transitions m.end table b told.answer told.places told.size,
        record { end = m.end; reads = ap (reading_of s) (sym told.answer) },
      )

  -- its actions
  pub sound-actions : {m : Found} → r ≡ Ok m → m.actions ≡ (model_at s).actions
  unfolding model_at
  sound-actions {m} e =
      let told = subst (λ (x : Result Found Fault). Scans s (scan_whole (limits_by terms) s) x table) e g in
      let t : Told (limits_by terms) s m.states m.actions m.transitions m.end = subst (Tells (limits_by terms) s) (sym told.answer) (whole_tells (limits_by terms) s) in
      t.actions

  pub refused-told : (f : Fault) → r ≡ Err f → (read_whole (limits_by terms) s ≡ no_model (fault_of f) f.place) × (f.place ≤ length s)
  refused-told f e = scan-told terms s f (subst (λ (x : Result Found Fault). Scans s (scan_whole (limits_by terms) s) x table) e g).answer

-- and what the fault of the head tells
pub head-told : (terms : Terms) (s : List ℕ) (f : Fault) → Placed {T = Unit {0}} (head_fault limits s) 0 (Err f) → (read_whole (limits_by terms) s ≡ no_model (fault_of f) f.place) × (f.place ≤ length s)
head-told terms s f p = scan-told terms s f (head-refused terms s f p)
