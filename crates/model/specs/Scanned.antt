-- What the functions of the model reader hand back.
use Rattle.std.specs.Prelude.{ℕ, ◌+◌, ◌<◌, ◌≡◌, List, length, get_or, Result, Ok, Err}
use Rattle.std.proofs.Math.Path.{refl}
use Rattle.std.proofs.Common.{sym, ◌∙◌, ap}
use Rattle.rules.specs.definitions.Limits.{limits}
use Rattle.bisimulation.proofs.argument.ChoiceLaws.{either_less}
use Rattle.rules.specs.definitions.Faults.{fault}
use Rattle.rules.specs.definitions.Reading.{head_fault, Scan, sound, refused, refuse_bytes_left, scan_whole, place_of}
use Rattle.rules.proofs.argument.ReadingLaws.{head-terms, head-stops}
use Rattle.rules.specs.definitions.Answers.{Answer, refusal_in, answer_without_place, scan_answer}
use Rattle.fault.specs.Faults.{fault_of, Placed}
use Rattle.fault.specs.FaultsLaws.{refuses}
use Rattle.fault.specs.declared.Fault.{Fault}
use Rattle.limits.specs.Sizes as sizes
use Rattle.limits.specs.TermsBy.{terms_of, limits_by}
use Rattle.limits.specs.declared.Terms.{Terms}
use Rattle.model.specs.declared.Model.{Model}

-- document 01's scan for each case of the reader's answer
abbrev pub scan_of : Result Model Fault → Scan
scan_of (Ok m) = sound m.states m.actions m.transitions m.end
scan_of (Err f) = refused (fault_of f) f.place

-- its number, file and place, for a file of so many bytes: 0, 0 and 0 where the model is sound
abbrev pub scanned_answer : ℕ → Result Model Fault → Answer
scanned_answer size (Ok m) = answer_without_place 0
scanned_answer size (Err f) = refusal_in (fault_of f) 1 f.place size

-- the table holds the places of the transitions below a number
pub record PlacesHeld (s : List ℕ) (count : ℕ) (table : List ℕ) : Type 0 where
  pub held : (r : ℕ) → r < count → get_or table r 0 ≡ place_of s r

-- the table of a sound model holds the places of its transitions and of their end; of a refused one nothing is said
abbrev pub PlacesOf : List ℕ → List ℕ → Scan → Type 0
PlacesOf s table (sound n m count end) = PlacesHeld s (count + 1) table
PlacesOf s table (refused f place) = Unit {0}

-- the reader's answer and its table, where `scan` says what the answer is to be
pub record Scans (s : List ℕ) (scan : Scan) (r : Result Model Fault) (table : List ℕ) : Type 0 where
  pub answer : scan_of r ≡ scan
  pub says : scanned_answer (length s) r ≡ scan_answer (length s) scan
  pub places : PlacesOf s table (scan_of r)
  pub size : length table ≡ sizes.places

-- what the scan is, the answer says
pub scans : {s : List ℕ} {scan : Scan} (r : Result Model Fault) {table : List ℕ} → scan_of r ≡ scan → PlacesOf s table (scan_of r) → length table ≡ sizes.places → Scans s scan r table
scans {s} r e places size = record { answer = e; says = cases r ∙ ap (scan_answer (length s)) e; places = places; size = size }
  where
    cases : (x : Result Model Fault) → scanned_answer (length s) x ≡ scan_answer (length s) (scan_of x)
    cases (Ok m) = unfold scan_answer in refl
    cases (Err f) = unfold scan_answer in refl

-- bytes left make nothing of the places
pub left-held : (s table : List ℕ) (scan : Scan) → PlacesOf s table scan → PlacesOf s table (refuse_bytes_left s scan)
unfolding refuse_bytes_left
left-held s table (sound n m count end) h = either_less (PlacesOf s table) end (length s) {x = refused (fault 9) end} {y = sound n m count end} tt h
left-held s table (refused f place) h = tt

-- a fault of the head is the file's
pub head-refused : (terms : Terms) (s : List ℕ) (f : Fault) → Placed {T = Unit {0}} (head_fault limits s) 0 (Err f) → refused (fault_of f) f.place ≡ scan_whole (limits_by terms) s
head-refused terms s f p = ap (refused (fault_of f)) p.at ∙ head-stops (limits_by terms) s (p.is ∙ sym (head-terms (terms_of terms) limits s)) (refuses f.refusal)
