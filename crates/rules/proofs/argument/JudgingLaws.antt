-- Laws of judging record by record, and of a certificate with another mark than the rule's.
use Prim.Native.Nat.{ℕ, zero, suc, ◌≤◌}
use Rattle.std.specs.Prelude.{◌≡◌, Bool, true, false, cond, eqb, length}
use Rattle.std.proofs.Math.Path.{refl, ap}
use Rattle.std.proofs.Common.{sym, ◌∙◌, eqb-true, arith}
use mathlib.Core.List.{List, [], ◌∷◌}
use Rattle.std.proofs.lemmas.Bool.{eqb-false}
use Rattle.bisimulation.specs.definitions.Choice.{if_same}
use Rattle.bisimulation.proofs.argument.ChoiceLaws.{same, not_same, not_less}
use Rattle.bisimulation.specs.definitions.Automaton.{Automaton}
use Rattle.bisimulation.specs.definitions.Pairs.{Pairs, equal_labels}
use Rattle.rules.specs.definitions.Limits.{Terms, Limits, with_terms}
use Rattle.rules.specs.definitions.Bytes.{two_at}
use Rattle.rules.specs.definitions.Faults.{Fault, fault, Passes, certificate_record, open_fault}
use Rattle.rules.specs.definitions.Certificate.{FileRule, refutation_count, certificate_head_fault, after_flow}
use Rattle.rules.specs.definitions.Judging.{Judgement, refused_in, refuse_record_at, Question, judge_flows, judge_blocks, judge_refutations, judge_certificate}
use Rattle.rules.proofs.argument.FaultLaws.{first_stops}

-- a record's fault refuses at its place; without one judging goes on
pub record-stops : {f : Fault} (x : Fault) (at : ℕ) (next : Judgement) → x ≡ f → (x.number ≡ 0 → ⊥) → refused_in x 2 at ≡ refuse_record_at f at next
unfolding refuse_record_at
record-stops {f} x at next e n =
    not_same next (λ z. n (ap (λ (g : Fault). g.number) e ∙ z)) (ap (λ (g : Fault). refused_in g 2 at) e)

pub record-passes : {x f : Fault} (at : ℕ) {z next : Judgement} → x ≡ f → x.number ≡ 0 → z ≡ next → z ≡ refuse_record_at f at next
unfolding refuse_record_at
record-passes {x} {f} at e n h = same _ (ap (λ (g : Fault). g.number) (sym e) ∙ n) h

-- a property of both is one of what is judged
pub record-cases {κ} : (P : Judgement → Type κ) (f : Fault) (at : ℕ) (next : Judgement) → ((f.number ≡ 0 → ⊥) → P (refused_in f 2 at)) → (Passes f → P next) → P (refuse_record_at f at next)
unfolding refuse_record_at if_same
record-cases P f at next p q = go (eqb f.number 0) refl
  where
    go : (t : Bool) → eqb f.number 0 ≡ t → P (cond t next (refused_in f 2 at))
    go true e = q (eqb-true f.number 0 e)
    go false e = p (eqb-false f.number 0 e)

-- judging a certificate asks no terms
module _ (terms : Terms) (L : Limits) (rule : FileRule) (A : Automaton) (C : List ℕ) where
  flows-terms : (R : Pairs) (blocks : List ℕ) (xs : List Question) (at : ℕ) → judge_flows (with_terms terms L) rule A C R blocks xs at ≡ judge_flows L rule A C R blocks xs at
  unfolding judge_flows
  flows-terms R blocks [] at = refl
  flows-terms R blocks (x ∷ xs) at = ap (refuse_record_at _ at) (flows-terms R blocks xs (after_flow C at))

  refutations-terms : (left : ℕ) (R : Pairs) (at : ℕ) → judge_refutations (with_terms terms L) rule A C left R at ≡ judge_refutations L rule A C left R at
  unfolding judge_refutations judge_blocks
  refutations-terms zero R at = ap (refuse_record_at _ at) (flows-terms R _ _ _)
  refutations-terms (suc left) R at = ap (refuse_record_at _ at) (refutations-terms left _ _)

  pub certificate-terms : judge_certificate (with_terms terms L) rule A C ≡ judge_certificate L rule A C
  unfolding judge_certificate certificate_head_fault
  certificate-terms = ap (refuse_record_at _ 0) (refutations-terms (refutation_count C) (equal_labels A) 4)

-- 12 at 0: 'A mark is compared once two bytes are there'
pub other-mark : (L : Limits) (rule : FileRule) (A : Automaton) (C : List ℕ) → 2 ≤ length C → (two_at C 0 ≡ rule.mark → ⊥) → refused_in (fault 12) 2 0 ≡ judge_certificate L rule A C
unfolding judge_certificate certificate_head_fault open_fault
other-mark L rule A C two other =
    record-stops (fault 12) 0 _ (first_stops (open_fault certificate_record rule.mark 4 C 0) _ (not_less _ two (not_same _ other refl)) (λ z. omega (arith, z))) (λ z. omega (arith, z))
