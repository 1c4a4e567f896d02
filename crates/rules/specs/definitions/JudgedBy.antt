-- What pairs of files are judged by.
use Rattle.std.specs.Prelude.{ℕ, List}
use Rattle.bisimulation.specs.definitions.StepRule.{StepRule, Met}
use Rattle.rules.specs.definitions.Limits.{any_terms, Limits, limits, with_terms, current}
use Rattle.rules.specs.definitions.Model.{Model, HoldOneAutomaton}
use Rattle.rules.specs.definitions.Reading.{read_whole}
use Rattle.rules.specs.definitions.Certificate.{FileRule}
use Rattle.rules.specs.definitions.PlainRule.{plain_rule}
use Rattle.rules.specs.definitions.Judging.{Reader, AcceptedFor}
use Rattle.rules.specs.definitions.Accepted.{RuleSays, IsFile, FileOf}
use Rattle.rules.specs.definitions.PlainSays.{plain_says}

-- limits; how a model file is read, in the terms that they ask for and in whatever terms, and which bytes are the file of a model; the step rule of
-- a model file, whose bytes may tell of it: what it decides of a certificate file, what it says of a certificate, and when a question is met; and
-- when two model files hold one automaton
pub record JudgedBy : Type 1 where
  pub limits : Limits
  pub read : Reader
  pub spelled : Reader
  pub is_file : IsFile
  pub file : (model : List ℕ) → FileRule
  pub says : (model : List ℕ) → RuleSays
  pub met : (model : List ℕ) → StepRule
  pub one_automaton : (model other : List ℕ) → (M N : Model) → Type 0

-- document 01's model files within given limits, and one step rule for all of them
abbrev pub whole_pairs_at : Limits → FileRule → RuleSays → StepRule → JudgedBy
whole_pairs_at L file says met =
    record {
      limits = L;
      read = read_whole L;
      spelled = read_whole (with_terms any_terms L);
      is_file = FileOf L;
      file = λ model. file;
      says = λ model. says;
      met = λ model. met;
      one_automaton = λ model other. HoldOneAutomaton;
    }

-- its own step rule
abbrev pub plain_pairs_at : Limits → JudgedBy
plain_pairs_at L = whole_pairs_at L plain_rule plain_says Met

-- as the calls judge them
abbrev pub plain_pairs : JudgedBy
plain_pairs = plain_pairs_at current

-- with whatever terms
abbrev pub stored_pairs : JudgedBy
stored_pairs = plain_pairs_at limits

-- a certificate accepted for a model, with its accepted blocks: judged by that model's rule
abbrev pub AcceptedBy : JudgedBy → (model certificate blocks : List ℕ) → Type 0
AcceptedBy by model certificate blocks = AcceptedFor by.limits by.read (by.file model) model certificate blocks

-- the same, in whatever terms the model is written
abbrev pub AcceptedSpelled : JudgedBy → (model certificate blocks : List ℕ) → Type 0
AcceptedSpelled by model certificate blocks = AcceptedFor (with_terms any_terms by.limits) by.spelled (by.file model) model certificate blocks
