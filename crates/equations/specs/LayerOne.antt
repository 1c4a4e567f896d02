-- A flow with entries in layer 1 alone, over transitions of t: what the equations of an external challenger come to, whatever its action.
use Prim.Native.Nat.{ℕ, ◌*◌, ◌<◌}
use Rattle.std.specs.Prelude.{◌≡◌, refl, ◌≢◌}
use Rattle.std.proofs.Math.Path.{sym, ap₂}
use Rattle.std.proofs.Common.{◌∙◌, ap, zero-mul, arith}
use Rattle.std.proofs.Math.IntN.{sub_ℕ}
use Rattle.std.proofs.Math.Decide.{ℕ_discrete}
use Rattle.bisimulation.specs.definitions.Choice.{if_same, unless_same}
use Rattle.bisimulation.proofs.argument.ChoiceLaws.{same, not_same, either_same}
use Rattle.bisimulation.specs.definitions.Sum.{sum}
use Rattle.bisimulation.proofs.argument.SumLaws.{sum_cong, sum_zero}
use Rattle.bisimulation.specs.definitions.Automaton.{Automaton}
use Rattle.bisimulation.specs.definitions.StepRule.{Flow, Holds, arriving, leaving, over_targets, before_move, after_move, at_target}
use Rattle.rules.specs.definitions.Faults.{Fault, no_fault, fault_by, first_of}
use Rattle.rules.specs.definitions.PlainRule.{break_from, first_break, external_equations_fault}
use Rattle.rules.proofs.argument.BreakLaws.{break-none, break-at}
use Rattle.equations.specs.Differences.{sides_of}
use Rattle.equations.specs.RuleEquations.{same_first}

module _ (A : Automaton) (f : Flow) (t : ℕ) (alone : (layer r : ℕ) → layer ≢ 1 → f.k layer r ≡ 0) (own : (r : ℕ) → A.source r ≢ t → f.k 1 r ≡ 0) where
  -- 'the sum of k times d'
  abbrev pub spent : ℕ
  spent = sum A.transitions (λ r. f.k 1 r * A.denominator r)

  none : {k : ℕ} (x : ℕ) → k ≡ 0 → k * x ≡ 0
  none x e = ap (λ (k : ℕ). k * x) e ∙ zero-mul x

  arrives : (layer : ℕ) → layer ≢ 1 → (v : ℕ) → arriving A (f.k layer) v ≡ 0
  unfolding arriving
  arrives layer n v = sum_zero A.transitions _ (λ r l. none (A.weight r v) (alone layer r n))

  leaves : (layer : ℕ) → layer ≢ 1 → (v : ℕ) → leaving A (f.k layer) v ≡ 0
  unfolding leaving
  leaves layer n v =
      sum_zero A.transitions _ (λ r l. either_same (λ (x : ℕ). x ≡ 0) (A.source r) v (none (A.denominator r) (alone layer r n)) refl)

  leaves-one : (v : ℕ) → leaving A (f.k 1) v ≡ if_same v t spent 0
  unfolding leaving
  leaves-one v = go (ℕ_discrete v t)
    where
      term : ℕ → ℕ
      term r = if_same (A.source r) v (f.k 1 r * A.denominator r) 0

      at-t : v ≡ t → (r : ℕ) → Dec (A.source r ≡ t) → term r ≡ f.k 1 r * A.denominator r
      at-t e r (yes s) = sym (same 0 (s ∙ sym e) refl)
      at-t e r (no n) = sym (not_same _ (λ s. n (s ∙ e)) (none (A.denominator r) (own r n)))

      other : v ≢ t → (r : ℕ) → Dec (A.source r ≡ v) → term r ≡ 0
      other n r (yes s) = sym (same 0 s (sym (none (A.denominator r) (own r (λ e. n (sym s ∙ e))))))
      other n r (no o) = sym (not_same _ o refl)

      go : Dec (v ≡ t) → sum A.transitions term ≡ if_same v t spent 0
      go (yes e) = same 0 e (sum_cong A.transitions _ _ (λ r l. at-t e r (ℕ_discrete (A.source r) t)))
      go (no n) = not_same spent n (sum_zero A.transitions _ (λ r l. other n r (ℕ_discrete (A.source r) v)))

  -- before the move the sides are 0 but at t, where they are D and that sum: the one equation breaks at t, by D less the sum
  pub before-sides : (v : ℕ) → ((before_move A f t v).left ≡ if_same v t f.D 0) × ((before_move A f t v).right ≡ if_same v t spent 0)
  unfolding before_move
  before-sides v = (omega (arith, arrives 0 (λ e. omega arith) v), omega (arith, leaves 0 (λ e. omega arith) v, leaves-one v))

  -- after it they are the sum of k times p(v) and the sum of w(v,u)
  pub after-sides : (v : ℕ) → ((after_move A f v).left ≡ arriving A (f.k 1) v) × ((after_move A f v).right ≡ over_targets A f.w v)
  unfolding after_move
  after-sides v = (omega (arith, arrives 2 (λ e. omega arith) v), omega (arith, leaves 2 (λ e. omega arith) v))

  -- so the one before the move is that of D and the sum, with t as its state
  one-before : t < A.states → first_break A 20 (before_move A f t) ≡ unless_same f.D spent (fault_by 20 t (sub_ℕ f.D spent)) no_fault
  unfolding first_break
  one-before h = go (ℕ_discrete f.D spent)
    where
      away : (x v : ℕ) → v ≢ t → if_same v t x 0 ≡ 0
      away x v n = sym (not_same x n refl)

      here : (x : ℕ) → if_same t t x 0 ≡ x
      here x = sym (same 0 refl refl)

      go : Dec (f.D ≡ spent) → break_from 20 (before_move A f t) A.states 0 ≡ unless_same f.D spent (fault_by 20 t (sub_ℕ f.D spent)) no_fault
      go (yes e) =
          sym (break-none 20 (before_move A f t) A.states 0 (λ u l m. record { equal = (before-sides u).0 ∙ ap (λ (x : ℕ). if_same u t x 0) e ∙ sym (before-sides u).1 }))
          ∙ same _ e refl
      go (no n) =
          sym (break-at 20 (before_move A f t) A.states 0 t (omega arith) (omega arith)
          (λ x l m. record { equal = (before-sides x).0 ∙ away f.D x (λ e. omega arith) ∙ sym (away spent x (λ e. omega arith)) ∙ sym (before-sides x).1 })
          (λ k. n (sym (here f.D) ∙ sym (before-sides t).0 ∙ k.equal ∙ (before-sides t).1 ∙ here spent)))
          ∙ ap₂ (λ (l r : ℕ). fault_by 20 t (sub_ℕ l r)) ((before-sides t).0 ∙ here f.D) ((before-sides t).1 ∙ here spent)
          ∙ not_same _ n refl

  -- K14: 'D equals the sum of k times d', whose state is t; then, at each v, 'the sum of k times p(v) equals the sum of w(v,u)'; 'the target equations
  -- are as before'
  pub one-step : (q : ℕ) → t < A.states → external_equations_fault A q t f ≡ first_of (unless_same f.D spent (fault_by 20 t (sub_ℕ f.D spent)) no_fault) (first_of (first_break A 20 (sides_of (arriving A (f.k 1)) (over_targets A f.w))) (first_break A 21 (at_target A f q)))
  unfolding external_equations_fault
  one-step q h =
      ap₂ (λ (x y : Fault). first_of x (first_of y (first_break A 21 (at_target A f q)))) (one-before h)
      (sym (same_first A 20 (record { left = λ v. (after-sides v).0; right = λ v. (after-sides v).1 })))
