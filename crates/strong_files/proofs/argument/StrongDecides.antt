-- The tests of the strong step rule find no fault exactly where its propositions hold.
use Rattle.std.specs.Prelude.{ℕ, ◌+◌, ◌<◌, ◌≡◌, ◌↔◌, Bool, ℤ}
use Rattle.std.proofs.Math.Path.{refl, sym, subst₂}
use Rattle.std.proofs.Common.{◌∙◌, arith}
use Rattle.std.proofs.Math.Bool.{true, false}
use Rattle.std.specs.Int.Signed.{◌≤ℤ◌, ◌<ℤ◌}
use borrow.Author.Tests.{eqb-true, eq-eqb}
use Rattle.bisimulation.specs.definitions.Choice.{if_true}
use Rattle.bisimulation.proofs.argument.ChoiceLaws.{same, kept_same, is_true, both_true, true-both, all-below, below_all, false-not}
use Rattle.bisimulation.specs.definitions.Automaton.{Automaton}
use Rattle.bisimulation.specs.definitions.StepRule.{Flow, at_target}
use Rattle.bisimulation.specs.definitions.Pairs.{Pairs}
use Rattle.bisimulation.specs.definitions.Prices.{price_at}
use Rattle.rules.specs.definitions.Faults.{Passes}
use Rattle.rules.specs.definitions.PlainRule.{price_condition, below, last_fault}
use Rattle.rules.proofs.argument.AnyRule.{Decides}
use Rattle.rules.proofs.argument.FaultLaws.{pass_on, pass-unless_same, pass-unless_true, none_first, first-none}
use Rattle.rules.proofs.argument.PlainDecides.{holds-T, T-holds, all-related, related-all, all_hold, hold-all, AlikeOnStates, targets-same, price-same}
use Rattle.strong.specs.definitions.StrongStepRule.{StrongAllows, strong_move}
use Rattle.strong.specs.definitions.StrongRefutation.{price_a, prices_b, prices_g, StrongRefutes}
use Rattle.strong_files.specs.definitions.StrongFile.{own_with_action, strong_in_question, strong_price_count, all_own, strong_prices_fault, total_fault, strong_equations_fault, strong_file}
use Rattle.strong_files.specs.definitions.StrongSays.{InStrongQuestion, StrongEquations, strong_says}

module _ (A : Automaton) where
  -- a transition of t with the challenger's action
  pub own-allowed : (q t r : ℕ) → (own_with_action A q t r ≡ true) ↔ StrongAllows A q t r
  unfolding own_with_action
  own-allowed q t r = (
    λ e. let b = both_true _ _ e in record { own = eqb-true _ _ b.0; action = eqb-true _ _ b.1 },
    λ a. true-both (eq-eqb _ _ a.own) (eq-eqb _ _ a.action),
  )

  -- an entry of layer 1 over such a one
  pub strong-in-question : (q t layer r : ℕ) → (strong_in_question A q t layer r ≡ true) ↔ InStrongQuestion A q t layer r
  unfolding strong_in_question
  strong-in-question q t layer r = (
    λ e.
        let k = kept_same (own_with_action A q t r) false layer 1 (λ z. false-not (sym z)) (sym e) in
        record { layer1 = k.0; allowed = (own-allowed q t r).0 (sym k.1) },
    λ h. sym (same false h.layer1 (sym ((own-allowed q t r).1 h.allowed))),
  )

  -- 'for each such transition'
  pub all_own_lem : (q t : ℕ) (f : ℕ → Bool) → (all_own A q t f ≡ true) ↔ ((r : ℕ) → r < A.transitions → StrongAllows A q t r → f r ≡ true)
  unfolding all_own if_true
  all_own_lem q t f = (
    λ e r l a. is_true true ((own-allowed q t r).1 a) refl ∙ all-below A.transitions _ e r l,
    λ h. below_all A.transitions _ (λ r l. go r (λ e. h r l ((own-allowed q t r).0 e)) (own_with_action A q t r) refl),
  )
    where
      go : (r : ℕ) → (own_with_action A q t r ≡ true → f r ≡ true) → (b : Bool) → own_with_action A q t r ≡ b → if_true b (f r) true ≡ true
      go r h true e = h e
      go r h false e = refl

  -- prices without fault refute
  pub strong-refutes : (R : Pairs) (q t : ℕ) (p : ℕ → ℤ) → Passes (strong_prices_fault A R q t p) ↔ StrongRefutes A R q t p
  unfolding strong_prices_fault price_condition last_fault below price_at price_a
  strong-refutes R q t p = (
    λ e.
        let a = pass-unless_true _ _ _ e (omega arith) in
        let b = pass-unless_true _ _ _ a.1 (omega arith) in
        let c = pass-unless_true _ _ _ b.1 (omega arith) in
        record {
          move = λ r l own. record { le = holds-T ((all_own_lem q t _).0 a.0 r l own) };
          related = all-related A R (prices_b p) (prices_g A p) b.0;
          last = record { holds = record { lt = holds-T c.0 } };
        },
    λ h.
        pass_on
        (is_true _ ((all_own_lem q t _).1 (λ r l own. T-holds _ (h.move r l own).le))
        (is_true _ (related-all A R (prices_b p) (prices_g A p) h.related) (is_true _ (T-holds _ h.last.holds.lt) refl)))
        refl,
  )

  -- equations without fault hold
  pub strong-equations : (q t : ℕ) (f : Flow) → Passes (strong_equations_fault A q t f) ↔ StrongEquations A q t f
  unfolding strong_equations_fault total_fault
  strong-equations q t f = (
    λ e.
        let a = none_first _ _ e in
        let b = none_first _ _ a.1 in
        record {
          total = record { equal = (pass-unless_same _ _ _ _ a.0 (omega arith)).0 };
          move = all_hold A 20 (strong_move A f) (omega arith) b.0;
          target = all_hold A 21 (at_target A f q) (omega arith) b.1;
        },
    λ h.
        pass_on
        (first-none _ _ (pass_on (same _ h.total.equal refl) refl)
        (first-none _ _ (pass_on (hold-all A 20 (strong_move A f) h.move) refl)
        (hold-all A 21 (at_target A f q) h.target)))
        refl,
  )

  -- the conditions look at A, and at B and G of states
  only-prices : (R : Pairs) (q t : ℕ) (p p' : ℕ → ℤ) → t < A.states → ((i : ℕ) → i < strong_price_count A q → p i ≡ p' i) → StrongRefutes A R q t p → StrongRefutes A R q t p'
  unfolding strong_price_count price_a prices_b prices_g
  only-prices R q t p p' l h c =
      let x : AlikeOnStates A (price_a p) (price_a p') = λ v m. h 0 (omega arith) in
      let y : AlikeOnStates A (prices_b p) (prices_b p') = λ v m. h (1 + v) (omega arith) in
      let g : AlikeOnStates A (prices_g A p) (prices_g A p') = λ v m. h (1 + A.states + v) (omega arith) in
      record {
        move = λ r k own. subst₂ ◌≤ℤ◌ (targets-same A _ _ y r) (price-same A _ _ x r t l) (c.move r k own);
        related = record { holds = λ v u k m e. subst₂ ◌≤ℤ◌ (g u m) (y v k) (c.related.holds v u k m e) };
        last = record { holds = subst₂ ◌<ℤ◌ (price-same A _ _ x q t l) (targets-same A _ _ g q) c.last.holds };
      }

-- the tests decide the propositions
pub strong-decides : Decides strong_file strong_says
strong-decides =
    record {
      price_count = λ A q. refl;
      refutes = strong-refutes;
      only_prices = λ A sound. only-prices A;
      in_question = strong-in-question;
      equations = strong-equations;
    }
