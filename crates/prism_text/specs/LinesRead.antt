-- What reading the lines of a text comes to.
use Rattle.std.specs.Prelude.{ℕ, ◌≤◌, ◌≡◌, Bool, true, false, List, Result, MatchResult, length, drop}
use Rattle.bisimulation.specs.definitions.Choice.{if_same}
use Rattle.rules.specs.definitions.Faults.{fault}
use Rattle.rules.specs.definitions.Limits.{limits}
use Rattle.prism.specs.definitions.Lines as prism
use Rattle.prism.specs.definitions.Reading as reading
use Rattle.prism.specs.definitions.Reading.{Choice}
use Rattle.prism.proofs.argument.ReadingLaws.{read_rest}
use Rattle.fault.specs.declared.Fault.{Fault}
use Rattle.fault.specs.Faults.{number_of, fault_of}
use Rattle.prism_line.specs.declared.Head.{Head}
use Rattle.prism_names.specs.declared.Name.{Name}
use Rattle.prism_names.specs.Names.{names_in}
use Rattle.prism_choice.specs.declared.Target.{Target}
use Rattle.prism_step.specs.declared.Progress.{Progress}
use Rattle.prism_step.specs.Progressing.{progress_in, count_by, Holds}

-- the head as it was read
abbrev pub head_in : Head → prism.Head
head_in h = record { states = h.states; choices = h.choices; transitions = h.transitions }

-- the head's counts are the text's
abbrev pub counts_by : Head → Progress → Bool
counts_by head p = if_same (count_by p) head.choices (if_same p.lines head.transitions true false) false

-- the lines from a place on can be read
pub record CanRead (text : List ℕ) (from : ℕ) (head : Head) (names : List Name) (targets : List Target) (records : List ℕ) : Type 0 where
  pub inside : from ≤ length text
  pub states : head.states ≤ limits.states
  pub known : length names ≡ limits.actions
  pub table : length targets ≡ limits.states
  pub room : length records ≡ 7936

-- what is read of a text from a place on, by the definition
abbrev pub text_from : prism.Head → reading.Progress → (text : List ℕ) → (place : ℕ) → reading.ReadText
text_from h r text place = read_rest limits h r place (drop place text)

-- all choices are in the tables
pub record LinesHeld (text : List ℕ) (from : ℕ) (head : Head) (names : List Name) (targets : List Target) (records : List ℕ) (p : Progress) : Type 0 where
  pub count : count_by p ≡ head.choices
  pub ended : List Choice
  pub holds : Holds text names targets records head.states ended p
  pub held : text_from (head_in head) reading.nothing_read text from ≡ reading.holds (head_in head) (names_in text names p.names) (reading.choices_of (progress_in text names targets ended p))

-- the text is refused
pub record LinesRefused (text : List ℕ) (from : ℕ) (head : Head) (f : Fault) : Type 0 where
  pub inside : f.place ≤ length text
  pub plain : fault_of f ≡ fault (number_of f.refusal)
  pub refused : text_from (head_in head) reading.nothing_read text from ≡ reading.refused_at (number_of f.refusal) f.place

pub record LinesRead (text : List ℕ) (from : ℕ) (head : Head) (names : List Name) (targets : List Target) (records : List ℕ) (r : Result Progress Fault) : Type 0 where
  pub room : length records ≡ 7936
  pub read : MatchResult r (LinesHeld text from head names targets records) (LinesRefused text from head)
