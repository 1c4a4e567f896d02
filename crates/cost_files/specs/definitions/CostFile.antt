-- Document 02, K6: the step rule with costs, as what it decides of a certificate file.
use Rattle.std.specs.Prelude.{ℕ, ◌+◌, ◌*◌, Bool, List, ℤ}
use Rattle.bisimulation.specs.definitions.Choice.{unless_same}
use Rattle.bisimulation.specs.definitions.Automaton.{Automaton}
use Rattle.bisimulation.specs.definitions.StepRule.{Flow}
use Rattle.bisimulation.specs.definitions.Pairs.{Pairs}
use Rattle.rules.specs.definitions.Certificate.{FileRule}
use Rattle.rules.specs.definitions.Faults.{Fault, fault, no_fault, first_of}
use Rattle.rules.specs.definitions.PlainRule.{by_kind, plain_price_count, price_condition, last_fault, internal_prices_fault, external_prices_fault, plain_equations_fault, plain_rule}
use Rattle.costs.specs.definitions.CostPrices.{price_with_cost}
use Rattle.costs.specs.definitions.CostRefutation.{price_after}
use Rattle.costs.specs.definitions.CostStepRule.{cost_equation}
use Rattle.cost_files.specs.definitions.CostModel.{cost_of}

-- 'A refutation ends with one more price L'
unfoldable pub cost_price_count : Automaton → ℕ → ℕ
cost_price_count A q = plain_price_count A q + 1

module _ (cost : ℕ → ℕ) (A : Automaton) where
  -- 'For every transition in the conditions, L times cost times d is added to the side of the targets'
  abbrev pub cost_condition : (L : ℤ) → (ℕ → ℤ) → (ℕ → ℤ) → ℕ → Bool
  cost_condition L = price_condition A (price_with_cost cost A L)

  -- 'in the last condition L times the challenger's cost times d0 is added to the side of G'
  abbrev pub last_cost_fault : (L : ℤ) → (ℕ → ℤ) → (ℕ → ℤ) → (q t : ℕ) → Fault
  last_cost_fault L = last_fault A (price_with_cost cost A L)

  -- the prices of a record, by the challenger's kind: the conditions of document 01 with L's term on the side of the targets, and of G in the last
  unfoldable pub cost_prices_fault : Pairs → (q t : ℕ) → (ℕ → ℤ) → Fault
  cost_prices_fault R q t p =
      by_kind A q
      (internal_prices_fault A (price_with_cost cost A (price_after A 2 p)) R q t p (λ v. p (A.states + v)))
      (external_prices_fault A (price_with_cost cost A (price_after A 3 p)) R q t p (λ v. p (A.states + v)) (λ v. p (2 * A.states + v)))

  -- '30, the cost equation breaks'
  unfoldable pub cost_equation_fault : ℕ → Flow → Fault
  cost_equation_fault q f = unless_same (cost_equation cost A f q).left (cost_equation cost A f q).right (fault 30) no_fault

  -- 20, 21, and 30 'after 21'
  unfoldable pub cost_equations_fault : (q t : ℕ) → Flow → Fault
  cost_equations_fault q t f = first_of (plain_equations_fault A q t f) (cost_equation_fault q f)

-- 'Its certificate begins with mark 43 43 instead of 43 54', for a model with these costs
abbrev pub cost_file : (costs : List ℕ) → FileRule
cost_file costs =
    record {
      mark = 0x4343;
      price_count = cost_price_count;
      prices_fault = cost_prices_fault (cost_of costs);
      in_question = plain_rule.in_question;
      equations_fault = cost_equations_fault (cost_of costs);
    }
