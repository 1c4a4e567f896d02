-- Laws of sums as they are added up.
use Rattle.std.specs.Prelude.{ℕ, ◌+◌, ◌-◌, ◌≤◌, ◌<◌, ◌≡◌, refl, List, ℤ}
use Rattle.std.proofs.Common.{subst, arith}
use Rattle.rules.specs.definitions.Model.{Entry}
use Rattle.prices.specs.declared.Running.{Running}
use Rattle.prices.specs.Adding.{SummingBoth, Ready, Adds}

module _ {s : List ℕ} {first second : List ℤ} where
  -- no more entries
  pub adds_none : {n : ℕ} {sums : Running} → n ≡ 0 → Adds s first second n sums sums
  adds_none {sums = sums} none =
      record { adds = λ all before after same h. subst (λ (k : ℕ). SummingBoth s first second all k sums) (omega arith) h }

  -- one more
  pub adds_one : {sums r : Running} → ((all : List Entry) (left : ℕ) → 0 < left → SummingBoth s first second all left sums → SummingBoth s first second all (left - 1) r) → Adds s first second 1 sums r
  adds_one {r = r} turn =
      record { adds = λ all before after same h. subst (λ (k : ℕ). SummingBoth s first second all k r) (omega arith) (turn all before (omega arith) h) }

  -- some, and then some more
  pub adds_then : {m n k : ℕ} {sums half r : Running} → Adds s first second m sums half → Adds s first second n half r → k ≡ m + n → Adds s first second k sums r
  adds_then {m} {n} a b whole =
      record { adds = λ all before after same h. b.adds all (n + after) after refl (a.adds all before (n + after) (omega arith) h) }

  -- as many as are left, or fewer
  pub ready : {n left : ℕ} {all : List Entry} {sums : Running} → SummingBoth s first second all left sums → n ≤ left → Ready s first second n sums
  ready {left = left} {all = all} h some = record { all = all; left = left; enough = some; summing = h }

  pub ready-fewer : {k n : ℕ} {sums : Running} → Ready s first second k sums → n ≤ k → Ready s first second n sums
  ready-fewer r fewer = record { all = r.all; left = r.left; enough = omega (arith, r.enough); summing = r.summing }

  -- and the rest of them after some
  pub ready-then : {m n k : ℕ} {sums half : Running} → Ready s first second k sums → Adds s first second m sums half → k ≡ m + n → Ready s first second n half
  ready-then {m} r a whole =
      record {
        all = r.all;
        left = r.left - m;
        enough = omega (arith, r.enough);
        summing = a.adds r.all r.left (r.left - m) (omega (arith, r.enough)) r.summing;
      }
