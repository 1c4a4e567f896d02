-- What must hold of what a pair of files is judged by, so that demands 2 and 3 hold for its certificates.
use Rattle.std.specs.Prelude.{ℕ, ◌≤◌, ◌<◌, ◌≡◌, ◌↔◌, ◌⊎◌, true, List, length, ℤ}
use Rattle.bisimulation.specs.definitions.Automaton.{Automaton, SoundAutomaton}
use Rattle.bisimulation.specs.definitions.StepRule.{Flow}
use Rattle.bisimulation.specs.definitions.Pairs.{Pairs}
use Rattle.bisimulation.specs.definitions.Rule.{Rule}
use Rattle.rules.specs.definitions.Limits.{any_terms, Limits, with_terms}
use Rattle.rules.specs.definitions.Model.{Model, HoldOneAutomaton}
use Rattle.rules.specs.definitions.SoundModel.{Bytes, SoundModel, FitsWidths}
use Rattle.rules.specs.definitions.Faults.{Fault, Passes}
use Rattle.rules.proofs.argument.FaultLaws.{Told}
use Rattle.rules.proofs.argument.SoundModelLaws.{with-fits}
use Rattle.rules.specs.definitions.Reading.{model, no_model}
use Rattle.rules.specs.definitions.Certificate.{FileRule}
use Rattle.rules.specs.definitions.Judging.{Question, Reader}
use Rattle.rules.specs.definitions.JudgedBy.{JudgedBy}
use Rattle.rules.specs.definitions.Encoding.{FlowRecord}
use Rattle.rules.specs.definitions.Accepted.{RuleSays, GoodFlow, IsFile}

-- what a rule decides of a file is what it says: a test that finds no fault is the proposition
pub record Decides (file : FileRule) (says : RuleSays) : Type 0 where
  pub price_count : (A : Automaton) (q : ℕ) → file.price_count A q ≡ says.price_count A q
  pub refutes : (A : Automaton) (R : Pairs) (q t : ℕ) (p : ℕ → ℤ) → Passes (file.prices_fault A R q t p) ↔ says.refutes A R q t p
  pub only_prices : (A : Automaton) → SoundAutomaton A → (R : Pairs) (q t : ℕ) (p p' : ℕ → ℤ) → t < A.states → ((i : ℕ) → i < says.price_count A q → p i ≡ p' i) → says.refutes A R q t p → says.refutes A R q t p'
  pub in_question : (A : Automaton) (q t layer r : ℕ) → (file.in_question A q t layer r ≡ true) ↔ says.in_question A q t layer r
  pub equations : (A : Automaton) (q t : ℕ) (f : Flow) → Passes (file.equations_fault A q t f) ↔ says.equations A q t f

-- the automaton is sound, and its numbers fit the fields of a certificate
pub record Narrow (A : Automaton) : Type 0 where
  pub sound : SoundAutomaton A
  pub states : A.states ≤ 256
  pub transitions : A.transitions ≤ 65536

-- what a rule says of a certificate belongs to its theory: refutations refute, and a good flow meets its question
pub record Covers (rule : Rule) (says : RuleSays) : Type 1 where
  pub refutes : (A : Automaton) (R : Pairs) (q t : ℕ) (p : ℕ → ℤ) → says.refutes A R q t p → rule.refutes A R q t p
  pub meets : (A : Automaton) (R : Pairs) (W : ℕ → ℕ → Type 0) (x : Question) (f : FlowRecord) → GoodFlow says A R x f → ((v u : ℕ) → v < A.states → u < A.states → R v u ≡ true → W v u) → rule.met A W x.challenger x.defender

-- no fault, or one of the numbers; and what it tells
pub record NoneOr (numbers : ℕ → Type 0) (f : Fault) : Type 0 where
  pub number : (f.number ≡ 0) ⊎ numbers f.number
  pub told : Told f

-- a rule's tests find no fault, or one with a number of its own
pub record AnswersOnly (numbers : ℕ → Type 0) (file : FileRule) : Type 0 where
  pub prices : (A : Automaton) (R : Pairs) (q t : ℕ) (p : ℕ → ℤ) → NoneOr numbers (file.prices_fault A R q t p)
  pub equations : (A : Automaton) (q t : ℕ) (f : Flow) → NoneOr numbers (file.equations_fault A q t f)

-- a step rule that answers these numbers: what it decides of a certificate file, what it says of a certificate, its theory, and that these agree
pub record CertificateRule (numbers : ℕ → Type 0) : Type 1 where
  pub file : FileRule
  pub mark : file.mark < 65536
  pub says : RuleSays
  pub theory : Rule
  pub decides : Decides file says
  pub covers : Covers theory says
  pub answers : AnswersOnly numbers file

-- model files: how their bytes are read, and which bytes are the file of a model; that these agree; which numbers reading answers
pub record ModelFiles (L : Limits) : Type 1 where
  pub read : Reader
  pub is_file : IsFile
  pub exactly : (bytes : List ℕ) (M : Model) → Bytes bytes → (read bytes ≡ model M (length bytes)) ↔ is_file bytes M
  pub whole : (bytes : List ℕ) (M : Model) (end : ℕ) → Bytes bytes → read bytes ≡ model M end → end ≡ length bytes
  pub sound : (bytes : List ℕ) (M : Model) → is_file bytes M → SoundModel L M
  pub numbers : ℕ → Type 0
  pub answers : (bytes : List ℕ) (f : Fault) (place : ℕ) → read bytes ≡ no_model f place → (f.number ≡ 0 → ⊥) × numbers f.number × (place ≤ length bytes) × Told f

-- what pairs of files are judged by: the rule of each model file, and when two hold one automaton; these have one rule
pub record PairRules : Type 1 where
  pub limits : Limits
  pub widths : FitsWidths limits
  -- the count of refutations has 2 bytes
  pub refutations : limits.refutations < 65536
  pub models : ModelFiles limits
  -- files of models in whatever terms: those are among them
  pub spelled : ModelFiles (with_terms any_terms limits)
  pub among : (bytes : List ℕ) (M : Model) → models.is_file bytes M → spelled.is_file bytes M
  pub numbers : ℕ → Type 0
  pub rule : (model : List ℕ) → CertificateRule numbers
  pub one_automaton : (model other : List ℕ) → (M N : Model) → Type 0
  pub hold_one : (model other : List ℕ) (M N : Model) → one_automaton model other M N → HoldOneAutomaton M N
  pub one_rule : (model other : List ℕ) (M N : Model) → one_automaton model other M N → rule model ≡ rule other

-- what judging goes by of them
abbrev pub pairs_of : PairRules → JudgedBy
pairs_of by =
    record {
      limits = by.limits;
      read = by.models.read;
      spelled = by.spelled.read;
      is_file = by.models.is_file;
      file = λ model. (by.rule model).file;
      says = λ model. (by.rule model).says;
      met = λ model. (by.rule model).theory.met;
      one_automaton = by.one_automaton;
    }

-- the same in whatever terms
abbrev pub spelled_by : PairRules → PairRules
spelled_by by =
    record {
      limits = with_terms any_terms by.limits;
      widths = with-fits any_terms by.limits by.widths;
      refutations = by.refutations;
      models = by.spelled;
      spelled = by.spelled;
      among = λ bytes M f. f;
      numbers = by.numbers;
      rule = by.rule;
      one_automaton = by.one_automaton;
      hold_one = by.hold_one;
      one_rule = by.one_rule;
    }

-- the refusals of a certificate that every rule has: 11 to 14, 17 to 19 and 22
unfoldable pub AnyCertificateNumber : ℕ → Type 0
AnyCertificateNumber k = ((11 ≤ k) × (k ≤ 14)) ⊎ (((17 ≤ k) × (k ≤ 19)) ⊎ (k ≡ 22))

-- a refusal of judging: one of reading the model, of any certificate, or of the rule
unfoldable pub RefusalOf : PairRules → ℕ → Type 0
RefusalOf by k = by.models.numbers k ⊎ (AnyCertificateNumber k ⊎ by.numbers k)
