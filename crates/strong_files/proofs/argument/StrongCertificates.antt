-- The strong step rule as a rule of certificates: it belongs to its theory, and answers document 01's numbers.
use Rattle.std.specs.Prelude.{ℕ, refl, ℤ}
use Rattle.std.proofs.Common.{inl, inr, arith}
use Rattle.bisimulation.proofs.argument.ChoiceLaws.{either_true}
use Rattle.bisimulation.specs.definitions.Automaton.{Automaton}
use Rattle.bisimulation.specs.definitions.StepRule.{Flow, at_target}
use Rattle.bisimulation.specs.definitions.Pairs.{Pairs}
use Rattle.bisimulation.specs.definitions.Prices.{price_of_targets}
use Rattle.rules.specs.definitions.Encoding.{flow_of}
use Rattle.rules.specs.definitions.PlainRule.{break_from, first_break}
use Rattle.rules.proofs.argument.AnyRule.{Covers, AnswersOnly, CertificateRule}
use Rattle.rules.proofs.argument.FaultLaws.{either_first}
use Rattle.rules.proofs.argument.LargestBlocks.{k-allowed, w-related}
use Rattle.rules.proofs.argument.PlainRules.{PlainNumber, Own, price, last, first-break}
use Rattle.strong.specs.definitions.StrongStepRule.{strong_total, strong_move}
use Rattle.strong.specs.definitions.StrongRefutation.{price_a, prices_g}
use Rattle.strong.proofs.argument.Strong.{strong}
use Rattle.strong_files.specs.definitions.StrongFile.{strong_prices_fault, total_fault, strong_equations_fault, strong_file}
use Rattle.strong_files.specs.definitions.StrongSays.{strong_says}
use Rattle.strong_files.proofs.argument.StrongDecides.{strong-decides}

-- refutations refute, and a good flow meets its question
pub strong-covers : Covers strong strong_says
unfolding flow_of
strong-covers =
    record {
      refutes = λ A R q t p h. h;
      meets = λ A R W x f g inside.
          record {
            flow = flow_of f;
            at_least_one = g.some;
            layer1 = λ r l h. (k-allowed strong_says A x.challenger x.defender f.ks g.ks 1 r h).allowed;
            related = λ v u l k h. inside v u l k (w-related A R f.ws g.ws v u h);
            total = g.equations.total;
            move = g.equations.move;
            target = g.equations.target;
          };
    }

module _ (A : Automaton) where
  prices : (R : Pairs) (q t : ℕ) (p : ℕ → ℤ) → Own (strong_prices_fault A R q t p)
  unfolding strong_prices_fault
  prices R q t p = either_true Own _ (either_true Own _ (last A (price_of_targets A) (price_a p) (prices_g A p) q t) price) price

  -- the D equation is a break at one state
  equations : (q t : ℕ) (f : Flow) → Own (strong_equations_fault A q t f)
  unfolding strong_equations_fault total_fault break_from first_break
  equations q t f =
      either_first Own _ _ (first-break 20 (λ v. strong_total A f) (inl refl) 1 t)
      (either_first Own _ _ (first-break 20 (strong_move A f) (inl refl) A.states 0) (first-break 21 (at_target A f q) (inr refl) A.states 0))

-- 15 and 16, 20 and 21
pub strong-answers : AnswersOnly PlainNumber strong_file
strong-answers = record { prices = prices; equations = equations }

-- the strong step rule
abbrev pub strong_certificates : CertificateRule PlainNumber
strong_certificates =
    record {
      file = strong_file;
      mark = omega arith;
      says = strong_says;
      theory = strong;
      decides = strong-decides;
      covers = strong-covers;
      answers = strong-answers;
    }
