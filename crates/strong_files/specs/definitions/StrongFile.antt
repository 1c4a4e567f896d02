-- Document 02, K14: the strong step rule, as what it decides of a certificate file.
use Rattle.std.specs.Prelude.{ℕ, ◌+◌, ◌*◌, Bool, true, false, eqb, ℤ}
use Rattle.std.proofs.Math.IntN.{sub_ℕ}
use Rattle.bisimulation.specs.definitions.Choice.{if_same, if_true, unless_same, unless_true, both, all_below}
use Rattle.bisimulation.specs.definitions.Automaton.{Automaton}
use Rattle.bisimulation.specs.definitions.StepRule.{Flow, at_target}
use Rattle.bisimulation.specs.definitions.Prices.{price_of_targets}
use Rattle.bisimulation.specs.definitions.Pairs.{Pairs}
use Rattle.rules.specs.definitions.Certificate.{FileRule}
use Rattle.rules.specs.definitions.Faults.{Fault, fault_by, fault, no_fault, first_of}
use Rattle.rules.specs.definitions.PlainRule.{all_related, price_condition, last_fault, first_break}
use Rattle.strong.specs.definitions.StrongStepRule.{strong_total, strong_move}
use Rattle.strong.specs.definitions.StrongRefutation.{price_a, prices_b, prices_g}

module _ (A : Automaton) where
  -- 'transitions of t itself with the challenger's action, internal included'
  unfoldable pub own_with_action : (q t r : ℕ) → Bool
  own_with_action q t r = both (eqb (A.source r) t) (eqb (A.action r) (A.action q))

  -- 'Flows have entries of layer 1 only, over' those, 'else 19'
  unfoldable pub strong_in_question : (q t layer r : ℕ) → Bool
  strong_in_question q t layer r = if_same layer 1 (own_with_action q t r) false

  -- 'A refutation gives one price A for t, then B and G'
  unfoldable pub strong_price_count : (q : ℕ) → ℕ
  strong_price_count q = 1 + 2 * A.states

  -- 'for each such transition'
  unfoldable pub all_own : (q t : ℕ) → (ℕ → Bool) → Bool
  all_own q t f = all_below A.transitions (λ r. if_true (own_with_action q t r) (f r) true)

  -- 'for each such transition d times A is at least the sum of p(v)B(v), with the condition between B and G and the last one as for an external
  -- challenger, and no other price condition': 15, then 16
  unfoldable pub strong_prices_fault : Pairs → (q t : ℕ) → (ℕ → ℤ) → Fault
  strong_prices_fault R q t p =
      unless_true (all_own q t (price_condition A (price_of_targets A) (price_a p) (prices_b p))) (fault 15)
      (unless_true (all_related A R (prices_b p) (prices_g A p)) (fault 15)
      (last_fault A (price_of_targets A) (price_a p) (prices_g A p) q t))

  -- '20 covers the D equation first, with t as its state'
  unfoldable pub total_fault : (t : ℕ) → Flow → Fault
  total_fault t f =
      unless_same (strong_total A f).left (strong_total A f).right (fault_by 20 t (sub_ℕ (strong_total A f).left (strong_total A f).right))
      no_fault

  -- then 'each v', and 'the target equations are as before': 21
  unfoldable pub strong_equations_fault : (q t : ℕ) → Flow → Fault
  strong_equations_fault q t f =
      first_of (total_fault t f)
      (first_of (first_break A 20 (strong_move A f))
      (first_break A 21 (at_target A f q)))

-- 'A certificate with head mark 43 53'
abbrev pub strong_file : FileRule
strong_file =
    record {
      mark = 0x4353;
      price_count = strong_price_count;
      prices_fault = strong_prices_fault;
      in_question = strong_in_question;
      equations_fault = strong_equations_fault;
    }
