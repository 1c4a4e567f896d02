-- A transition record's ways out.
use Rattle.std.specs.Prelude.{ℕ, ◌+◌, ◌*◌, ◌≤◌, ◌<◌, ◌≡◌, refl, List, length, Result, Ok, Err}
use Rattle.std.proofs.Common.{sym, ◌∙◌, arith}
use Rattle.std.proofs.lemmas.Result.{IfOk-at_ok}
use Rattle.bisimulation.proofs.argument.ChoiceLaws.{less, not_less}
use Rattle.rules.specs.definitions.Limits.{limits}
use Rattle.rules.specs.definitions.Faults.{fault, model_record, open_fault}
use Rattle.rules.specs.definitions.Reading.{denominator_at, entry_count_at, after_transition, fixed_fault, fixed_fault_at, entries_fault, transition_at, terms_fault, transition_fault}
use Rattle.rules.proofs.argument.FaultLaws.{model-refuses, opened}
use Rattle.field.specs.declared.Cursor.{Cursor}
use Rattle.fault.specs.Faults.{fault_of, fault_in, PlacedAt, Placed, AtPlace}
use Rattle.fault.specs.FaultsLaws.{found_passes, at-place, first-found, past-found, past-placed, value-found, nothing-is}
use Rattle.fault.specs.declared.Fault.{Fault}
use Rattle.limits.specs.TermsBy.{terms_of, limits_by}
use Rattle.limits.specs.declared.Terms.{Terms}
use Rattle.transition_terms.specs.Divisors.{TermsJudged}
use Rattle.transition_entries.specs.EntriesRead.{EntriesRead}
use Rattle.transition_record.specs.declared.Fields.{Fields}
use Rattle.transition_record.specs.declared.Transition.{Transition}
use Rattle.transition_record.specs.Fields.{FieldsAt, TransitionTaken, TransitionRead}

-- a record that is opened has its fixed fields
pub fixed-whole : (s : List ℕ) (at : ℕ) {o : Result (Unit {0}) Fault} {u : Unit {0}} → fault_in o ≡ open_fault model_record 0x5452 7 s at → o ≡ Ok u → at + 7 ≤ length s
fixed-whole s at opens ok = (opened model_record 0x5452 7 s at model-refuses (found_passes opens ok)).whole

module _ (terms : Terms) (s : List ℕ) (n m last entries at : ℕ) where
  pub not_opened : {f : Fault} → Placed {T = Unit {0}} (open_fault model_record 0x5452 7 s at) at (Err f) → TransitionRead terms s n m last entries at (Err f)
  unfolding transition_fault
  not_opened p = record { fault = first-found _ p; taken = tt }

  module _ {o : Result (Unit {0}) Fault} {u : Unit {0}} (opens : fault_in o ≡ open_fault model_record 0x5452 7 s at) (ok : o ≡ Ok u) (x : Result (Unit {0}) Fault) (given : fault_in x ≡ fixed_fault_at limits s n m last entries at) where
    -- the fixed fields have no terms
    fixed : fault_in x ≡ fixed_fault_at (limits_by terms) s n m last entries at
    unfolding fixed_fault_at fixed_fault
    fixed = given

    pub not-fixed : {f : Fault} → AtPlace x at (Err f) → TransitionRead terms s n m last entries at (Err f)
    unfolding transition_fault
    not-fixed {f} h = record { fault = past-placed opens ok (first-found _ (at-place x (Err f) h fixed)); taken = tt }

    module _ (y : Result (Unit {0}) Fault) {v : Unit {0}} (stood : AtPlace x at y) (good : y ≡ Ok v) (t : Fields) (fields : FieldsAt s at t) where
      -- past the fixed fields
      fixed-is : fault_in y ≡ fixed_fault_at (limits_by terms) s n m last entries at
      fixed-is = (at-place x y stood fixed).is

      pub cut : (f g : Fault) → fault_of f ≡ fault 1 → PlacedAt (fault_of f) at g → length s < at + 7 + 3 * t.count → TransitionRead terms s n m last entries at (Err g)
      unfolding transition_fault after_transition
      cut f g e p short =
          record { fault = record { is = past-found opens ok (past-found fixed-is good (less _ (omega (arith, fields.count)) (p.is ∙ e))); at = p.at }; taken = tt }

      module _ (e : Result Cursor Fault) (read : EntriesRead s n t.denominator t.count t.entries.at e) (whole : at + 7 + 3 * t.count ≤ length s) where
        entries-are : fault_in e ≡ entries_fault s n (denominator_at s at) (entry_count_at s at) (at + 7) 0 0
        entries-are = rw (sym fields.denominator, sym fields.count, sym fields.entries) read.fault

        pub not-entries : {f : Fault} → AtPlace e at (Err f) → TransitionRead terms s n m last entries at (Err f)
        unfolding transition_fault after_transition
        not-entries {f} h =
            let p = first-found {U = Transition} (terms_fault (terms_of terms) (transition_at s at)) (at-place e (Err f) h entries-are) in
            record { fault = record { is = past-found opens ok (past-found fixed-is good (not_less _ (omega (arith, fields.count)) p.is)); at = p.at }; taken = tt }

        module _ (w : Result Cursor Fault) {next : Cursor} (came : AtPlace e at w) (end : w ≡ Ok next) (j : Result (Unit {0}) Fault) (judged : TermsJudged (terms_of terms) s t.count t.entries.at j) where
          entries-pass : fault_in w ≡ entries_fault s n (denominator_at s at) (entry_count_at s at) (at + 7) 0 0
          entries-pass = (at-place e w came entries-are).is

          terms-are : fault_in j ≡ terms_fault (terms_of terms) (transition_at s at)
          unfolding transition_at
          terms-are = judged.is (transition_at s at) (rw (fields.count, fields.entries) refl)

          pub not-terms : {f : Fault} → AtPlace j at (Err f) → TransitionRead terms s n m last entries at (Err f)
          unfolding transition_fault after_transition
          not-terms {f} h =
              let p = at-place j (Err f) h terms-are in
              record { fault = record { is = past-found opens ok (past-found fixed-is good (not_less _ (omega (arith, fields.count)) (past-found entries-pass end p.is))); at = p.at }; taken = tt }

          pub stands : (k : Result (Unit {0}) Fault) {l : Unit {0}} → AtPlace j at k → k ≡ Ok l → TransitionRead terms s n m last entries at (Ok (record { source = t.source; count = t.count; next = next }))
          unfolding transition_fault after_transition
          stands k h q =
              let p = (at-place j k h terms-are).is in
              record {
                fault = record { is = past-found opens ok (past-found fixed-is good (not_less _ (omega (arith, fields.count)) (past-found entries-pass end (sym (nothing-is q) ∙ p)))); at = tt };
                taken = record {
                  source = fields.source;
                  count = fields.count;
                  next = omega (arith, IfOk-at_ok (λ (c : Cursor). c.at ≡ t.entries.at + 3 * t.count) (value-found e w at came end) read.next, fields.entries, fields.count);
                };
              }
