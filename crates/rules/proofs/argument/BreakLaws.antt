-- Document 02, K2: laws of the first break, and what the state and the remainder of a refusal tell.
use Prim.Native.Nat.{ℕ, zero, suc, ◌+◌, ◌-◌, ◌≤◌, ◌<◌}
use Rattle.std.specs.Prelude.{◌≡◌, ◌⊎◌, ◌≢◌, Bool, true, false, cond, List, ltb, ℤ, pos, negsuc, nat_abs, ◌-ℤ◌, ◌≤ℤ◌}
use Rattle.std.proofs.Math.Path.{refl, subst}
use Rattle.std.proofs.Common.{sym, ◌∙◌, ap, le→leb, ltb-false, le-ltb, arith}
use Rattle.std.proofs.Math.IntN.{sub_ℕ, pos-ne-negsuc}
use Rattle.std.specs.Int.Signed.{lt_z, le_z_yes}
use Rattle.std.proofs.Math.Decide.{ℕ_discrete}
use Rattle.bisimulation.specs.definitions.Choice.{if_true, unless_same}
use Rattle.bisimulation.proofs.argument.ChoiceLaws.{same, not_same, false-not}
use Rattle.bisimulation.specs.definitions.StepRule.{Sides, Holds}
use Rattle.rules.specs.definitions.Faults.{Fault, fault_by, no_fault, Passes}
use Rattle.rules.specs.definitions.PlainRule.{break_from}
use Rattle.rules.specs.definitions.Judging.{refused_in, judge}
use Rattle.rules.proofs.argument.FaultLaws.{Otherwise, Told, pass-unless_same}
use Rattle.rules.proofs.argument.AnyRule.{PairRules}
use Rattle.rules.proofs.argument.Numbers.{JudgementNumber, judge-number}

-- a − b is 0 for equal numbers alone, and not negative where a is not below b
pub difference-zero : (a b : ℕ) → sub_ℕ a b ≡ pos 0 → a ≡ b
difference-zero a b = go (ltb a b) refl
  where
    go : (t : Bool) → ltb a b ≡ t → cond t (negsuc (b - suc a)) (pos (a - b)) ≡ pos 0 → a ≡ b
    go true q e = absurd (pos-ne-negsuc 0 _ (sym e))
    go false q e = let z : a - b ≡ 0 = ap nat_abs e in omega (arith, ltb-false a b q)

zero-least : (n : ℕ) → pos 0 ≤ℤ pos n
zero-least n = le_z_yes (le→leb 0 n (omega arith))

difference-least : (a b : ℕ) → b ≤ a → pos 0 ≤ℤ sub_ℕ a b
difference-least a b h = subst (λ (t : Bool). pos 0 ≤ℤ cond t (negsuc (b - suc a)) (pos (a - b))) (sym (le-ltb a b h)) (zero-least (a - b))

pub not-below : (a b : ℤ) → lt_z a b ≡ false → pos 0 ≤ℤ (a -ℤ b)
not-below (pos a) (pos zero) e = zero-least (a + 0)
not-below (pos a) (pos (suc b)) e = difference-least a (suc b) (ltb-false a (suc b) e)
not-below (pos a) (negsuc b) e = zero-least (a + suc b)
not-below (negsuc a) (pos b) e = absurd (false-not (sym e))
not-below (negsuc a) (negsuc b) e = difference-least (suc b) (suc a) (omega (arith, ltb-false b a e))

-- a property of a choice, by its test
pub by-test {κ} : (P : Fault → Type κ) (b : Bool) {x y : Fault} → (b ≡ true → P x) → (b ≡ false → P y) → P (if_true b x y)
unfolding if_true
by-test P true p q = p refl
by-test P false p q = q refl

-- the first break, from v on
pub record FirstBreak (number : ℕ) (e : ℕ → Sides) (left v : ℕ) (f : Fault) : Type 0 where
  pub numbered : f.number ≡ number
  pub from : v ≤ f.state
  pub below : f.state < v + left
  pub breaks : Holds (e f.state) → ⊥
  pub earlier : (u : ℕ) → v ≤ u → u < f.state → Holds (e u)
  pub remainder : f.remainder ≡ sub_ℕ (e f.state).left (e f.state).right

module _ (number : ℕ) (e : ℕ → Sides) where
  abbrev break_at : ℕ → Fault
  break_at v = fault_by number v (sub_ℕ (e v).left (e v).right)

  -- no equation breaks
  pub break-none : (left v : ℕ) → ((u : ℕ) → v ≤ u → u < v + left → Holds (e u)) → no_fault ≡ break_from number e left v
  unfolding break_from
  break-none zero v h = refl
  break-none (suc left) v h =
      same _ (h v (omega arith) (omega arith)).equal (break-none left (v + 1) (λ u l m. h u (omega arith) (omega arith)))

  -- the one at u does, and none before it
  pub break-at : (left v u : ℕ) → v ≤ u → u < v + left → ((x : ℕ) → v ≤ x → x < u → Holds (e x)) → (Holds (e u) → ⊥) → break_at u ≡ break_from number e left v
  unfolding break_from
  break-at zero v u l m earlier n = absurd (omega arith)
  break-at (suc left) v u l m earlier n = go (break-at left (v + 1) u) (ℕ_discrete v u)
    where
      go : (v + 1 ≤ u → u < v + 1 + left → ((x : ℕ) → v + 1 ≤ x → x < u → Holds (e x)) → (Holds (e u) → ⊥) → break_at u ≡ break_from number e left (v + 1)) → Dec (v ≡ u) → break_at u ≡ break_from number e (suc left) v
      go later (yes p) =
          subst (λ (x : ℕ). break_at x ≡ break_from number e (suc left) v) p
          (not_same _ (λ q. n (subst (λ (x : ℕ). Holds (e x)) p (record { equal = q }))) refl)
      go later (no p) =
          same _ (earlier v (omega arith) (omega arith)).equal (later (omega arith) (omega arith) (λ x l m. earlier x (omega arith) m) n)

  -- only the one at t can
  pub break-alone : (left v t : ℕ) → v ≤ t → t < v + left → ((u : ℕ) → u ≢ t → Holds (e u)) → break_from number e left v ≡ unless_same (e t).left (e t).right (break_at t) no_fault
  break-alone left v t l m others = go (ℕ_discrete (e t).left (e t).right)
    where
      all : (e t).left ≡ (e t).right → (u : ℕ) → Dec (t ≡ u) → Holds (e u)
      all h u (yes z) = subst (λ (x : ℕ). Holds (e x)) z (record { equal = h })
      all h u (no n) = others u (λ z. n (sym z))

      go : Dec ((e t).left ≡ (e t).right) → break_from number e left v ≡ unless_same (e t).left (e t).right (break_at t) no_fault
      go (yes h) = sym (break-none left v (λ u a b. all h u (ℕ_discrete t u))) ∙ same _ h refl
      go (no n) = sym (break-at left v t l m (λ x a b. others x (λ z. omega arith)) (λ h. n h.equal)) ∙ not_same _ n refl

  -- without fault all of them hold
  pub break-passed : (number ≡ 0 → ⊥) → (left v : ℕ) → Passes (break_from number e left v) → (u : ℕ) → v ≤ u → u < v + left → Holds (e u)
  unfolding break_from
  break-passed some zero v p u l m = absurd (omega arith)
  break-passed some (suc left) v p u l m =
      let a = pass-unless_same _ _ _ _ p some in
      go a.0 (break-passed some left (v + 1) a.1 u) (ℕ_discrete v u)
    where
      go : (e v).left ≡ (e v).right → (v + 1 ≤ u → u < v + 1 + left → Holds (e u)) → Dec (v ≡ u) → Holds (e u)
      go equal later (yes q) = subst (λ (x : ℕ). Holds (e x)) q (record { equal = equal })
      go equal later (no q) = later (omega arith) (omega arith)

  -- a property of no fault, and of the first break, is one of what is found
  pub break-cases {κ} : (P : Fault → Type κ) (left v : ℕ) → P no_fault → ((f : Fault) → FirstBreak number e left v f → P f) → P (break_from number e left v)
  unfolding break_from
  break-cases P zero v none some = none
  break-cases P (suc left) v none some = go (ℕ_discrete (e v).left (e v).right) (break-cases P left (v + 1) none)
    where
      further : (e v).left ≡ (e v).right → (f : Fault) → FirstBreak number e left (v + 1) f → FirstBreak number e (suc left) v f
      further equal f b =
          record {
            numbered = b.numbered;
            from = omega (arith, b.from);
            below = omega (arith, b.below);
            breaks = b.breaks;
            earlier = λ u l m. first u l m (ℕ_discrete v u);
            remainder = b.remainder;
          }
        where
          first : (u : ℕ) → v ≤ u → u < f.state → Dec (v ≡ u) → Holds (e u)
          first u l m (yes q) = subst (λ (x : ℕ). Holds (e x)) q (record { equal = equal })
          first u l m (no q) = b.earlier u (omega arith) m

      go : Dec ((e v).left ≡ (e v).right) → (((f : Fault) → FirstBreak number e left (v + 1) f → P f) → P (break_from number e left (v + 1))) → P (break_from number e (suc left) v)
      go (yes equal) later = subst P (same _ equal refl) (later (λ f b. some f (further equal f b)))
      go (no differ) later =
          subst P (not_same _ differ refl)
          (some (break_at v) (record {
            numbered = refl;
            from = omega arith;
            below = omega arith;
            breaks = λ h. differ h.equal;
            earlier = λ u l m. absurd (omega arith);
            remainder = refl;
          }))

  -- where it refuses, it is at the first state at which the equation breaks, with left less right
  pub break-first : (left v : ℕ) → (Passes (break_from number e left v) → ⊥) → FirstBreak number e left v (break_from number e left v)
  break-first left v =
      break-cases (λ (f : Fault). (Passes f → ⊥) → FirstBreak number e left v f) left v (λ n. absurd (n refl)) (λ f b n. b)

-- of all refusals of judging, whatever a pair is judged by
module _ (by : PairRules) (M C : List ℕ) (f : Fault) (file place : ℕ) (e : judge by.limits by.models.read (by.rule M).file M C ≡ refused_in f file place) where
  told : Told f
  told = (subst (JudgementNumber by) e (judge-number by M C)).told

  -- the remainder of 20 and 21 is never 0
  pub break-some : (f.number ≡ 20) ⊎ (f.number ≡ 21) → f.remainder ≡ pos 0 → ⊥
  break-some = told.broken

  -- that of 16 is never negative
  pub last-not-negative : f.number ≡ 16 → pos 0 ≤ℤ f.remainder
  last-not-negative = told.last

  -- 'Otherwise both are 0'
  pub otherwise-zero : Otherwise f.number → (f.state ≡ 0) × (f.remainder ≡ pos 0)
  otherwise-zero = told.otherwise
