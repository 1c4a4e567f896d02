-- Document 02, K14: the strong step rule, as what it says of a certificate in plain propositions.
use Rattle.std.specs.Prelude.{ℕ, ◌<◌, ◌≡◌}
use Rattle.bisimulation.specs.definitions.Automaton.{Automaton}
use Rattle.bisimulation.specs.definitions.StepRule.{Flow, Holds, at_target}
use Rattle.rules.specs.definitions.Accepted.{RuleSays}
use Rattle.strong.specs.definitions.StrongStepRule.{StrongAllows, strong_total, strong_move}
use Rattle.strong.specs.definitions.StrongRefutation.{StrongRefutes}
use Rattle.strong_files.specs.definitions.StrongFile.{strong_price_count}

-- 'entries of layer 1 only, over transitions of t itself with the challenger's action'
pub record InStrongQuestion (A : Automaton) (q t layer r : ℕ) : Type 0 where
  pub layer1 : layer ≡ 1
  pub allowed : StrongAllows A q t r

-- 'D equals the sum of k times d. At each v, the sum of k times p(v) equals the sum of w(v,u); the target equations are as before'
pub record StrongEquations (A : Automaton) (q t : ℕ) (f : Flow) : Type 0 where
  pub total : Holds (strong_total A f)
  pub move : (v : ℕ) → v < A.states → Holds (strong_move A f v)
  pub target : (u : ℕ) → u < A.states → Holds (at_target A f q u)

abbrev pub strong_says : RuleSays
strong_says =
    record {
      price_count = strong_price_count;
      refutes = StrongRefutes;
      in_question = InStrongQuestion;
      equations = StrongEquations;
    }
