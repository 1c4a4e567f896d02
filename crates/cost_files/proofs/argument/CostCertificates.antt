-- The step rule with costs as a rule of certificates: it belongs to its theory, and answers numbers of its own.
use Rattle.std.specs.Prelude.{ℕ, ◌≡◌, refl, ◌⊎◌, List, ℤ}
use Rattle.std.proofs.Common.{inl, ⊎_elim, arith}
use Rattle.std.proofs.Math.Logic.{inr}
use Rattle.bisimulation.proofs.argument.ChoiceLaws.{either_same}
use Rattle.bisimulation.specs.definitions.Automaton.{Automaton}
use Rattle.bisimulation.specs.definitions.StepRule.{Flow}
use Rattle.bisimulation.specs.definitions.Pairs.{Pairs}
use Rattle.rules.specs.definitions.Faults.{Fault, no_fault}
use Rattle.rules.specs.definitions.PlainRule.{by_kind}
use Rattle.rules.proofs.argument.AnyRule.{Covers, NoneOr, AnswersOnly, CertificateRule}
use Rattle.rules.proofs.argument.FaultLaws.{told-fault, either_first}
use Rattle.rules.proofs.argument.LargestBlocks.{internal-met, external-met}
use Rattle.rules.proofs.argument.PlainRules.{PlainNumber, Own, none, internal-prices, external-prices, plain-answers}
use Rattle.costs.specs.definitions.CostPrices.{price_with_cost}
use Rattle.costs.proofs.argument.Costs.{cost_rule}
use Rattle.cost_files.specs.definitions.CostModel.{cost_of}
use Rattle.cost_files.specs.definitions.CostFile.{cost_prices_fault, cost_equation_fault, cost_equations_fault, cost_file}
use Rattle.cost_files.specs.definitions.CostSays.{cost_says}
use Rattle.cost_files.proofs.argument.CostDecides.{cost-decides}

-- refutations refute, and a good flow meets its question
pub cost-covers : (costs : List ℕ) → Covers (cost_rule (cost_of costs)) (cost_says costs)
unfolding internal-met external-met
cost-covers costs =
    record {
      refutes = λ A R q t p h. h;
      meets = λ A R W x f g inside.
          record {
            internal = λ i.
                record {
                  plain = internal-met (cost_says costs) A R W x f g (λ layer r h. h) inside (g.equations.plain.internal i);
                  costs = g.equations.costs;
                };
            external = λ n.
                record {
                  plain = external-met (cost_says costs) A R W x f g (λ layer r h. h) inside (g.equations.plain.external n);
                  costs = g.equations.costs;
                };
          };
    }

-- the numbers of the rule: those of document 01's, and 30
unfoldable pub CostNumber : ℕ → Type 0
CostNumber k = PlainNumber k ⊎ (k ≡ 30)

own : (f : Fault) → Own f → NoneOr CostNumber f
unfolding CostNumber
own f h = record { number = ⊎_elim (λ z. inl z) (λ z. inr (inl z)) h.number; told = h.told }

module _ (cost : ℕ → ℕ) (A : Automaton) where
  prices : (R : Pairs) (q t : ℕ) (p : ℕ → ℤ) → Own (cost_prices_fault cost A R q t p)
  unfolding cost_prices_fault by_kind
  prices R q t p = either_same Own _ _ (internal-prices A (price_with_cost cost A _) R q t _ _) (external-prices A (price_with_cost cost A _) R q t _ _ _)

  equation : (q : ℕ) (f : Flow) → NoneOr CostNumber (cost_equation_fault cost A q f)
  unfolding cost_equation_fault CostNumber
  equation q f = either_same (NoneOr CostNumber) _ _ (own no_fault none) (record { number = inr (inr refl); told = told-fault 30 (omega arith) })

pub cost-answers : (costs : List ℕ) → AnswersOnly CostNumber (cost_file costs)
unfolding cost_equations_fault
cost-answers costs =
    record {
      prices = λ A R q t p. own _ (prices (cost_of costs) A R q t p);
      equations = λ A q t f. either_first (NoneOr CostNumber) _ _ (own _ (plain-answers.equations A q t f)) (equation (cost_of costs) A q f);
    }

-- the step rule with these costs
abbrev pub cost_certificates : (costs : List ℕ) → CertificateRule CostNumber
cost_certificates costs =
    record {
      file = cost_file costs;
      mark = omega arith;
      says = cost_says costs;
      theory = cost_rule (cost_of costs);
      decides = cost-decides costs;
      covers = cost-covers costs;
      answers = cost-answers costs;
    }
