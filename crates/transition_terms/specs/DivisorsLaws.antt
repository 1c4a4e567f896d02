-- Laws of the divisor as it is found, entry by entry, and the ways out of 34.
use Rattle.std.specs.Prelude.{ℕ, zero, suc, ◌+◌, ◌-◌, ◌<◌, ◌≤◌, ◌≡◌, refl, Result}
use Rattle.std.proofs.Common.{sym, ◌∙◌, arith}
use Rattle.std.proofs.Math.Path.{ap, subst}
use mathlib.Core.List.{List, map}
use Rattle.bisimulation.proofs.argument.ChoiceLaws.{same, not_same}
use Rattle.numbers.specs.definitions.Divisor.{divisor, divisor_of}
use Rattle.numbers.proofs.argument.DivisorLaws.{divisor_of-one}
use Rattle.rules.specs.definitions.Limits.{lowest_terms}
use Rattle.rules.specs.definitions.Bytes.{two_at}
use Rattle.rules.specs.definitions.Faults.{fault, no_fault}
use Rattle.rules.specs.definitions.Model.{Entry, Transition}
use Rattle.rules.specs.definitions.LowestTerms.{divisor_in}
use Rattle.rules.specs.definitions.Reading.{entries_at, terms_fault}
use Rattle.limits.specs.TermsBy.{terms_of}
use Rattle.limits.specs.declared.Terms.{Terms}
use Rattle.limits.specs.declared.Terms.TheVariants.{Any, Lowest}
use Rattle.fault.specs.Faults.{fault_in}
use Rattle.fault.specs.declared.Fault.{Fault}
use Rattle.transition_terms.specs.Divisors.{weights_at, divisor_at, TermsJudged}

-- one more weight
pub weight-turn : (s : List ℕ) (g left at : ℕ) → 0 < left → divisor_of g (weights_at s left at) ≡ divisor_of (divisor g (two_at s (at + 1))) (weights_at s (left - 1) (at + 3))
unfolding entries_at divisor_of
weight-turn s g zero at h = absurd (omega arith)
weight-turn s g (suc left) at h = let e : left ≡ suc left - 1 = omega arith in ap (λ (k : ℕ). divisor_of (divisor g (two_at s (at + 1))) (weights_at s k (at + 3))) e

-- none is left
pub weights-end : (s : List ℕ) (g left at : ℕ) → left ≤ 0 → divisor_of g (weights_at s left at) ≡ g
unfolding entries_at divisor_of
weights-end s g zero at h = refl
weights-end s g (suc left) at h = absurd (omega arith)

-- the divisor r with the next weight w, of weights left whose divisor with g is that of all
module _ (s : List ℕ) (g left at whole : ℕ) (far : divisor_of g (weights_at s left at) ≡ whole) (some : 0 < left) (w r : ℕ) (reads : w ≡ two_at s (at + 1)) (shares : r ≡ divisor g w) where
  turned : divisor_of r (weights_at s (left - 1) (at + 3)) ≡ whole
  turned = ap (λ (k : ℕ). divisor_of k (weights_at s (left - 1) (at + 3))) (shares ∙ ap (divisor g) reads) ∙ sym (weight-turn s g left at some) ∙ far

  pub goes_on : (next : ℕ) → next ≡ at + 3 → divisor_of r (weights_at s (left - 1) next) ≡ whole
  goes_on next e = ap (λ (k : ℕ). divisor_of r (weights_at s (left - 1) k)) e ∙ turned

  -- 1 is known to be the divisor of all
  pub settled : r ≡ 1 → r ≡ whole
  settled o = o ∙ sym (divisor_of-one (weights_at s (left - 1) (at + 3))) ∙ ap (λ (k : ℕ). divisor_of k (weights_at s (left - 1) (at + 3))) (sym o) ∙ turned

module _ (s : List ℕ) (count at : ℕ) (r : Result (Unit {0}) Fault) where
  divisor-is : (t : Transition) → t.entries ≡ entries_at s count at → divisor_in t ≡ divisor_at s count at
  unfolding divisor_in
  divisor-is t e = ap (λ (es : List Entry). divisor_of 0 (map (λ (x : Entry). x.weight) es)) e

  pub above-one : (divisor_at s count at ≡ 1 → ⊥) → fault_in r ≡ fault 34 → TermsJudged lowest_terms s count at r
  unfolding terms_fault
  above-one n e = record { is = λ t q. not_same _ (λ z. n (sym (divisor-is t q) ∙ z)) e }

  pub is_one : divisor_at s count at ≡ 1 → fault_in r ≡ no_fault → TermsJudged lowest_terms s count at r
  unfolding terms_fault
  is_one o e = record { is = λ t q. same _ (divisor-is t q ∙ o) e }

  -- by the terms that are asked for
  pub any-judged : (terms : Terms) → terms ≡ Any → fault_in r ≡ no_fault → TermsJudged (terms_of terms) s count at r
  unfolding terms_fault
  any-judged terms e n = subst (λ (x : Terms). TermsJudged (terms_of x) s count at r) (sym e) (record { is = λ t q. n })

  pub lowest-judged : (terms : Terms) → terms ≡ Lowest → TermsJudged lowest_terms s count at r → TermsJudged (terms_of terms) s count at r
  lowest-judged terms e h = subst (λ (x : Terms). TermsJudged (terms_of x) s count at r) (sym e) h
