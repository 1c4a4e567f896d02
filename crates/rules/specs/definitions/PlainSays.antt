-- Document 01's own step rule, as what it says of a certificate in plain propositions.
use Rattle.std.specs.Prelude.{ℕ, ◌<◌, ◌≡◌, ◌≢◌}
use Rattle.bisimulation.specs.definitions.Automaton.{Automaton}
use Rattle.bisimulation.specs.definitions.StepRule.{Flow, Holds, before_move, after_move, internal_move, at_target}
use Rattle.bisimulation.specs.definitions.Refutation.{PlainRefutes}
use Rattle.rules.specs.definitions.PlainRule.{plain_price_count}
use Rattle.rules.specs.definitions.Accepted.{RuleSays}

-- document 02, K5: 'An entry passes this test exactly when its transition is internal in layer 0 or, for an external challenger, has its action
-- in layer 1 or is internal in layer 2'
pub data InPlainQuestion (challenger layer action : ℕ) : Type 0 where
  before : layer ≡ 0 → action ≡ 0 → InPlainQuestion challenger layer action
  move : challenger ≢ 0 → layer ≡ 1 → action ≡ challenger → InPlainQuestion challenger layer action
  after : challenger ≢ 0 → layer ≡ 2 → action ≡ 0 → InPlainQuestion challenger layer action

-- the equations of an internal challenger
pub record InternalEquations (A : Automaton) (q t : ℕ) (f : Flow) : Type 0 where
  pub move : (v : ℕ) → v < A.states → Holds (internal_move A f t v)
  pub target : (u : ℕ) → u < A.states → Holds (at_target A f q u)

-- those of an external one
pub record ExternalEquations (A : Automaton) (q t : ℕ) (f : Flow) : Type 0 where
  pub before : (v : ℕ) → v < A.states → Holds (before_move A f t v)
  pub after : (v : ℕ) → v < A.states → Holds (after_move A f v)
  pub target : (u : ℕ) → u < A.states → Holds (at_target A f q u)

-- by the challenger's kind
pub record PlainEquations (A : Automaton) (q t : ℕ) (f : Flow) : Type 0 where
  pub internal : A.action q ≡ 0 → InternalEquations A q t f
  pub external : A.action q ≢ 0 → ExternalEquations A q t f

abbrev pub plain_says : RuleSays
plain_says =
    record {
      price_count = plain_price_count;
      refutes = PlainRefutes;
      in_question = λ A q t layer r. InPlainQuestion (A.action q) layer (A.action r);
      equations = PlainEquations;
    }
