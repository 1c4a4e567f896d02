-- The head's ways out, for each kind of step rule.
use Rattle.std.specs.Prelude.{ℕ, ◌≤◌, ◌<◌, ◌≡◌, refl, List, length, Ok, Err}
use Rattle.std.proofs.Common.{◌∙◌, ap, arith}
use Rattle.bisimulation.proofs.argument.ChoiceLaws.{less, not_less}
use Rattle.rules.specs.definitions.Limits.{limits}
use Rattle.rules.specs.definitions.Faults as rules
use Rattle.rules.specs.definitions.Faults.{certificate_record, open_fault}
use Rattle.rules.specs.definitions.Certificate.{refutation_count, certificate_head_fault}
use Rattle.rules.proofs.argument.FaultLaws.{pass_on, first_stops, first_passes, certificate-refuses, opened}
use Rattle.rule_kind.specs.Kinds.{rule_of, mark_of}
use Rattle.rule_kind.specs.KindsLaws.{mark-of}
use Rattle.rule_kind.specs.declared.Kind.{Kind}
use Rattle.fault.specs.declared.Fault.{Fault}
use Rattle.fault.specs.Faults.{PlacedAt, Placed}
use Rattle.fault.specs.FaultsLaws.{refuses}

-- the record opened by the kind's mark
opens : {x : rules.Fault} (kind : Kind) (s C : List ℕ) {mark : ℕ} → mark ≡ mark_of kind → x ≡ open_fault certificate_record mark 4 C 0 → x ≡ open_fault certificate_record (rule_of kind s).mark 4 C 0
opens kind s C asked opening = opening ∙ ap (λ (m : ℕ). open_fault certificate_record m 4 C 0) (asked ∙ mark-of kind s)

module _ (kind : Kind) (s C : List ℕ) {mark : ℕ} (asked : mark ≡ mark_of kind) where
  pub not_opened : {T U : Type 0} {f : Fault} → Placed {T = T} (open_fault certificate_record mark 4 C 0) 0 (Err f) → Placed {T = U} (certificate_head_fault limits (rule_of kind s) C) 0 (Err f)
  unfolding certificate_head_fault
  not_opened {f = f} p = record { is = first_stops _ _ (opens kind s C asked p.is) (refuses f.refusal); at = p.at }

  module _ (opening : rules.no_fault ≡ open_fault certificate_record mark 4 C 0) where
    pub fixed-whole : 4 ≤ length C
    fixed-whole = (opened certificate_record mark 4 C 0 certificate-refuses (pass_on opening refl)).whole

    module _ (count : ℕ) (many : count ≡ refutation_count C) where
      pub too_many : {U : Type 0} {f : Fault} → limits.refutations < count → PlacedAt (rules.fault 13) 0 f → Placed {T = U} (certificate_head_fault limits (rule_of kind s) C) 0 (Err f)
      unfolding certificate_head_fault
      too_many above p =
          record { is = first_passes _ _ (opens kind s C asked opening) refl (less _ (omega (arith, many, above)) p.is); at = p.at }

      pub stands : {U : Type 0} {u : U} → count ≤ limits.refutations → Placed (certificate_head_fault limits (rule_of kind s) C) 0 (Ok u)
      unfolding certificate_head_fault
      stands most = record { is = first_passes _ _ (opens kind s C asked opening) refl (not_less _ (omega (arith, many, most)) refl); at = tt }
