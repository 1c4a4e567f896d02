-- What the code has read, as the definition's progress, and what it does with a line.
use Rattle.std.specs.Prelude.{ℕ, ◌+◌, ◌*◌, ◌≤◌, ◌<◌, ◌≡◌, Bool, true, false, List, [], map, Option, None, Some, IfSome, MatchOption, length, take, set}
use Rattle.bisimulation.specs.definitions.Choice.{if_less, if_same, if_true}
use Rattle.numbers.specs.definitions.Divisor.{divisor, divisor_of}
use Rattle.rules.specs.definitions.Limits.{limits}
use Rattle.rules.specs.definitions.Model.{Entry, transition_bytes, transitions_bytes}
use Rattle.rules.specs.definitions.SoundModel.{sum_over}
use Rattle.prism.specs.definitions.Lines as prism
use Rattle.prism.specs.definitions.Reading as reading
use Rattle.prism.specs.definitions.Reading.{Choice, Pending, none, begun, last_target}
use Rattle.prism.specs.definitions.HeldModel.{weights_of, transition_of}
use Rattle.prism_line.specs.declared.Line.{Line}
use Rattle.prism_line.specs.declared.Whole.{Whole}
use Rattle.prism_names.specs.declared.Name.{Name}
use Rattle.prism_choice.specs.declared.Target.{Target}
use Rattle.prism_names.specs.Names.{between, names_in, KnownNames, NameKept}
use Rattle.prism_choice.specs.Targets.{targets_in, over_divisor, TargetsFit, CanWriteChoice}
use Rattle.writer.specs.Appends.{Appends}
use Rattle.prism_line.specs.LineRead.{begins_so, LineRead}
use Rattle.prism_step.specs.declared.Progress.{Progress}
use Rattle.prism_step.specs.declared.Begun.{Begun}

-- the choice that has begun
abbrev pub choice_in : (targets : List Target) → Begun → Choice
choice_in targets c =
    record { place = c.place; source = c.source; number = c.number; action = c.action; entries = targets_in targets c.targets }

abbrev pub pending_in : (targets : List Target) → Option Begun → Pending
pending_in targets None = none
pending_in targets (Some c) = begun (choice_in targets c)

-- the progress, with the choices that ended
abbrev pub progress_in : (text : List ℕ) (names : List Name) (targets : List Target) (ended : List Choice) → Progress → reading.Progress
progress_in text names targets ended p =
    record { lines = p.lines; names = names_in text names p.names; ended = ended; pending = pending_in targets p.begun }

-- what is known of a choice that has begun
pub record BegunHolds (text : List ℕ) (states : ℕ) (targets : List Target) (p : Progress) (c : Begun) : Type 0 where
  pub source : c.source < states
  pub number : c.number ≤ p.choices
  pub action : c.action ≤ p.names
  pub total : c.total ≡ sum_over (λ (e : Entry). e.weight) (targets_in targets c.targets)
  pub most : c.total ≤ 10000 * p.lines
  pub last : c.last ≡ last_target (targets_in targets c.targets)
  pub below : c.last < states
  pub few : c.targets ≤ c.last + 1
  pub divisor : c.divisor ≡ divisor_of 0 (weights_of (targets_in targets c.targets))
  pub positive : 1 ≤ c.divisor
  pub fit : TargetsFit targets c.targets
  pub place : c.place ≤ length text

-- how many choices there are, with the one that has begun
abbrev pub count_with : (choices : ℕ) → Option Begun → ℕ
count_with choices None = choices
count_with choices (Some c) = choices + 1

abbrev pub count_by : Progress → ℕ
count_by p = count_with p.choices p.begun

-- how many targets it has
abbrev pub targets_of : Option Begun → ℕ
targets_of None = 0
targets_of (Some c) = c.targets

-- the records are those of the choices that ended, and the numbers are in range
pub record Holds (text : List ℕ) (names : List Name) (targets : List Target) (records : List ℕ) (states : ℕ) (ended : List Choice) (p : Progress) : Type 0 where
  pub known : KnownNames text names p.names
  pub table : length targets ≡ limits.states
  pub count : p.choices ≡ length ended
  pub bytes : take p.used records ≡ transitions_bytes (map transition_of ended)
  pub size : p.used + 3 * targets_of p.begun ≡ 7 * p.choices + 3 * p.lines
  pub lines : p.lines ≤ limits.entries
  pub choices : count_by p ≤ limits.transitions
  pub pending : IfSome p.begun (BegunHolds text states targets p)

-- a line begins with the source and number of the choice that has begun
abbrev pub goes_on_by : Option Begun → Line → Bool
goes_on_by None line = false
goes_on_by (Some c) line = begins_so line c.source c.number

-- the place of the choice that has begun, where it ends before the line and does not add up
abbrev pub short_by : Option Begun → Line → Option ℕ
short_by None line = None
short_by (Some c) line = if_true (begins_so line c.source c.number) None (if_same c.total 10000 None (Some c.place))

-- the line begins the next choice
abbrev pub follows_by : Option Begun → Whole → Bool
follows_by None line = if_same line.choice 0 true false
follows_by (Some c) line =
    if_same line.source c.source
    (if_same line.choice (c.number + 1) true false)
    (if_less c.source line.source (if_same line.choice 0 true false) false)

-- its states are there, and it passes no limit
unfoldable pub fits_by : (states lines : ℕ) → Whole → Bool
fits_by states lines line =
    if_less line.source states (if_less line.target states (if_less lines limits.entries true false) false) false

-- it goes on with the choice that has begun, its name having this action
unfoldable pub extends_by : Begun → Whole → (action : ℕ) → Bool
extends_by c line action = if_less c.last line.target (if_same action c.action true false) false

abbrev pub target_of : Whole → Target
target_of line = record { state = line.target; parts = line.parts }

abbrev pub extended_by : Progress → Begun → Whole → Progress
extended_by p c line =
    record {
      lines = p.lines + 1;
      choices = p.choices;
      used = p.used;
      names = p.names;
      begun =
          Some (record {
            place = c.place;
            source = c.source;
            number = c.number;
            action = c.action;
            targets = c.targets + 1;
            total = c.total + line.parts;
            last = line.target;
            divisor = divisor c.divisor line.parts;
          });
    }

-- it begins a choice, its name having this action
unfoldable pub begins_by : Progress → Whole → (action : ℕ) → Bool
begins_by p line action =
    if_true (follows_by p.begun line) (if_less (count_by p) limits.transitions (if_less action limits.actions true false) false) false

abbrev pub begun_by : Progress → Whole → (place action used names : ℕ) → Progress
begun_by p line place action used names =
    record {
      lines = p.lines + 1;
      choices = count_by p;
      used = used;
      names = names;
      begun =
          Some (record {
            place = place;
            source = line.source;
            number = line.choice;
            action = action;
            targets = 1;
            total = line.parts;
            last = line.target;
            divisor = line.parts;
          });
    }

abbrev pub nothing_by : Progress
nothing_by = record { lines = 0; choices = 0; used = 0; names = 0; begun = None }

-- the record of the choice that has begun, if one has
abbrev pub pending_bytes : (targets : List Target) → Option Begun → List ℕ
pending_bytes targets None = []
pending_bytes targets (Some c) = transition_bytes (over_divisor targets c.targets c.source c.action c.divisor)

-- it can be written
pub record CanEnd (targets : List Target) (records : List ℕ) (p : Progress) : Type 0 where
  pub some : IfSome p.begun (λ c. CanWriteChoice targets c.targets c.source c.action c.divisor records p.used)
  pub room : p.used ≤ length records

-- a line that goes on was taken into the table
pub record ExtendedTo (p : Progress) (c : Begun) (line : Whole) (action : ℕ) (before after : List Target) (q : Progress) : Type 0 where
  pub good : extends_by c line action ≡ true
  pub progress : q ≡ extended_by p c line
  pub table : after ≡ set before c.targets (target_of line)

-- or it may not stand there
abbrev pub Extended : Progress → Begun → Whole → (action : ℕ) → (before after : List Target) → Option Progress → Type 0
Extended p c line action before after r = MatchOption r (extends_by c line action ≡ false) (ExtendedTo p c line action before after)

pub record CanBegin (p : Progress) (action : ℕ) (targets : List Target) (records : List ℕ) : Type 0 where
  pub numbered : IfSome p.begun (λ c. c.number ≤ limits.transitions)
  pub counted : p.choices ≤ limits.transitions
  pub lines : p.lines ≤ limits.entries
  pub names : p.names < limits.actions
  pub next : action ≤ p.names + 1
  pub ends : CanEnd targets records p

-- a line that begins a choice: the one before it is written, its name kept, its target taken into the table
pub record BeganTo (p : Progress) (line : Whole) (place action from to : ℕ) (names₀ names₁ : List Name) (targets₀ targets₁ : List Target) (records₀ records₁ : List ℕ) (q : Progress) : Type 0 where
  pub good : begins_by p line action ≡ true
  pub progress : q ≡ begun_by p line place action q.used q.names
  pub kept : NameKept names₀ names₁ p.names action from to q.names
  pub ended : Appends (pending_bytes targets₀ p.begun) p.used records₀ records₁ q.used
  pub table : targets₁ ≡ set targets₀ 0 (target_of line)

-- or it may not stand there
abbrev pub Began : Progress → Whole → (place action from to : ℕ) → (names₀ names₁ : List Name) → (targets₀ targets₁ : List Target) → (records₀ records₁ : List ℕ) → Option Progress → Type 0
Began p line place action from to names₀ names₁ targets₀ targets₁ records₀ records₁ r =
    MatchOption r (begins_by p line action ≡ false) (BeganTo p line place action from to names₀ names₁ targets₀ targets₁ records₀ records₁)

-- the line between two places of the text can be looked at
pub record CanStep (text : List ℕ) (at end states : ℕ) (p : Progress) (line : Line) (names : List Name) (targets : List Target) (records : List ℕ) : Type 0 where
  pub ended : List Choice
  pub holds : Holds text names targets records states ended p
  pub reads : LineRead (between text at end) line
  pub order : at ≤ end
  pub inside : end ≤ length text
  pub most : states ≤ limits.states
  pub room : length records ≡ 7936

-- the progress after a line, as the definition has it
pub record Takes (h : prism.Head) (text : List ℕ) (at end : ℕ) (before : reading.Progress) (names : List Name) (targets : List Target) (records : List ℕ) (p : Progress) : Type 0 where
  pub ended : List Choice
  pub holds : Holds text names targets records h.states ended p
  pub says : reading.step limits h before at (between text at end) ≡ reading.read (progress_in text names targets ended p)

-- a line is at fault, or was taken
pub record StepSays (text : List ℕ) (at end states : ℕ) (p : Progress) (names₀ names₁ : List Name) (targets₀ targets₁ : List Target) (records₀ records₁ : List ℕ) (r : Option Progress) : Type 0 where
  pub room : length records₁ ≡ length records₀
  pub says : (h : prism.Head) → h.states ≡ states → (ended : List Choice) → Holds text names₀ targets₀ records₀ states ended p → MatchOption r (reading.step limits h (progress_in text names₀ targets₀ ended p) at (between text at end) ≡ reading.fault) (Takes h text at end (progress_in text names₀ targets₀ ended p) names₁ targets₁ records₁)
