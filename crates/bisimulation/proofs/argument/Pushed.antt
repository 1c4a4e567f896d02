-- Amounts k of m things, pushed to amounts of others: where k of i is not 0, it goes to one that is related to i.
use Prim.Native.Nat.{ℕ, zero, suc, ◌+◌, ◌*◌, ◌<◌}
use Rattle.std.specs.Prelude.{◌≡◌, refl, ◌⊎◌}
use Rattle.std.proofs.Common.{sym, ◌∙◌, ap₂, inl, inr, eq-zero-or-pos}
use Rattle.std.proofs.Math.Path.{ap, subst}
use native.Mathlib.Omega.{arith}
use Rattle.bisimulation.specs.definitions.Choice.{if_same}
use Rattle.bisimulation.proofs.argument.ChoiceLaws.{kept_same}
use Rattle.bisimulation.specs.definitions.Sum.{sum}
use Rattle.bisimulation.proofs.argument.SumLaws.{sum_zero}
use Rattle.bisimulation.proofs.argument.Value.{value}
use Rattle.bisimulation.proofs.argument.ValueLaws.{value_add, value_same}

-- h is k pushed along R: it is used only where k was, and has the value of k at prices that are the same along R
pub record IsPushed (R : ℕ → ℕ → Type 0) (m n : ℕ) (k h : ℕ → ℕ) : Type 0 where
  pub used : (c : ℕ) → 0 < h c → (i : ℕ) × (i < m) × (0 < k i) × R i c
  pub values : (X Y : ℕ → ℕ) → ((i c : ℕ) → i < m → R i c → X c ≡ Y i) → value n h X ≡ value m k Y

module _ (R : ℕ → ℕ → Type 0) (n : ℕ) (k : ℕ → ℕ) where
  -- one more, which goes to c or is not used
  unused : {m : ℕ} {h : ℕ → ℕ} → k m ≡ 0 → IsPushed R m n k h → IsPushed R (suc m) n k h
  unfolding value sum
  unused {m} e p =
      record {
        used = λ c u. let x = p.used c u in (x.0, omega (arith, x.1), x.2, x.3);
        values = λ X Y f. omega (arith, p.values X Y (λ i c l. f i c (omega arith)), ap (λ (z : ℕ). z * Y m) e);
      }

  goes : {m : ℕ} {h : ℕ → ℕ} (c : ℕ) → 0 < k m → c < n → R m c → IsPushed R m n k h → IsPushed R (suc m) n k (λ x. h x + if_same x c (k m) 0)
  unfolding value sum
  goes {m} {h} c u l r p = record { used = λ x v. go x v (eq-zero-or-pos (h x)); values = values }
    where
      go : (x : ℕ) → 0 < h x + if_same x c (k m) 0 → (h x ≡ 0) ⊎ (0 < h x) → (i : ℕ) × (i < suc m) × (0 < k i) × R i x
      go x v (inl e) = (m, omega arith, u, subst (R m) (sym (kept_same (k m) 0 x c (λ (z : if_same x c (k m) 0 ≡ 0). omega arith) refl).0) r)
      go x v (inr w) = let y = p.used x w in (y.0, omega (arith, y.1), y.2, y.3)

      values : (X Y : ℕ → ℕ) → ((i c : ℕ) → i < suc m → R i c → X c ≡ Y i) → value n (λ x. h x + if_same x c (k m) 0) X ≡ value (suc m) k Y
      values X Y f =
          value_add n h (λ x. if_same x c (k m) 0) X
          ∙ ap₂ ◌+◌ (p.values X Y (λ i c l. f i c (omega arith))) (value_same n c (k m) X l ∙ ap (λ (z : ℕ). k m * z) (f m c (omega arith) r))

  pub pushed : (m : ℕ) → ((i : ℕ) → i < m → 0 < k i → (c : ℕ) × (c < n) × R i c) → (h : ℕ → ℕ) × IsPushed R m n k h
  unfolding value sum
  pushed zero to = (λ c. 0, record { used = λ c u. absurd (omega arith); values = λ X Y f. sum_zero n (λ c. 0 * X c) (λ c l. omega arith) })
  pushed (suc m) to = step (pushed m (λ i l. to i (omega arith))) (eq-zero-or-pos (k m))
    where
      step : (h : ℕ → ℕ) × IsPushed R m n k h → (k m ≡ 0) ⊎ (0 < k m) → (h : ℕ → ℕ) × IsPushed R (suc m) n k h
      step p (inl e) = (p.0, unused e p.1)
      step p (inr u) = let t = to m (omega arith) u in (λ x. p.0 x + if_same x t.0 (k m) 0, goes t.0 u t.1 t.2 p.1)
