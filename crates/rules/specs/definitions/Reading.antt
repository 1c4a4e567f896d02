-- Document 01, 'Refused, and where': the model file. 'Checks run in table order within a record and record by record.'
use Rattle.std.specs.Prelude.{ℕ, zero, suc, ◌+◌, ◌*◌, ◌-◌, ◌≤◌, ◌≡◌, ◌⊎◌, List, [], ◌∷◌, ◌++◌, length, take, drop}
use Rattle.bisimulation.specs.definitions.Choice.{if_less, if_same, unless_less, unless_same}
use Rattle.rules.specs.definitions.Limits.{Terms, any_terms, lowest_terms, Limits}
use Rattle.rules.specs.definitions.Bytes.{byte_at, two_at}
use Rattle.rules.specs.definitions.Model.{Entry, Transition, Model}
use Rattle.rules.specs.definitions.LowestTerms.{divisor_in}
use Rattle.rules.specs.definitions.Faults.{Fault, fault, no_fault, first_of, model_record, open_fault}

-- 'model head': n
unfoldable pub states_of : List ℕ → ℕ
states_of s = byte_at s 2

-- 'model head': m
unfoldable pub actions_of : List ℕ → ℕ
actions_of s = byte_at s 3

-- 'model head': the transition count
unfoldable pub count_of : List ℕ → ℕ
count_of s = two_at s 4

-- 3: 'n, m or count outside its range'
unfoldable pub range_fault : Limits → (n m count : ℕ) → Fault
range_fault L n m count =
    unless_less 0 n (fault 3)
    (if_less L.states n (fault 3)
    (unless_less 0 m (fault 3)
    (if_less L.actions m (fault 3)
    (if_less L.transitions count (fault 3)
    no_fault))))

-- 'model head': 1, 2, 3
unfoldable pub head_fault : Limits → List ℕ → Fault
head_fault L s = first_of (open_fault model_record 0x5041 6 s 0) (range_fault L (states_of s) (actions_of s) (count_of s))

-- 'labels': 4, 'label above 63', for the labels that are left
unfoldable pub label_fault : Limits → List ℕ → (left at : ℕ) → Fault
label_fault L s zero at = no_fault
label_fault L s (suc left) at = if_less L.label (byte_at s at) (fault 4) (label_fault L s left (at + 1))

-- 'labels': 1, 2, 4
unfoldable pub labels_fault : Limits → List ℕ → (n : ℕ) → Fault
labels_fault L s n = first_of (open_fault model_record 0x4C42 (2 + n) s 6) (label_fault L s n 8)

-- 'transition': the source field of the record at a place
unfoldable pub source_at : List ℕ → ℕ → ℕ
source_at s at = byte_at s (at + 2)

-- its action
unfoldable pub action_at : List ℕ → ℕ → ℕ
action_at s at = byte_at s (at + 3)

-- its denominator d
unfoldable pub denominator_at : List ℕ → ℕ → ℕ
denominator_at s at = two_at s (at + 4)

-- its entry count c
unfoldable pub entry_count_at : List ℕ → ℕ → ℕ
entry_count_at s at = byte_at s (at + 6)

-- the place after the record
unfoldable pub after_transition : List ℕ → ℕ → ℕ
after_transition s at = at + 7 + 3 * entry_count_at s at

-- 'transition, fixed fields': 5, 'source descends or absent, action absent, d 0, c outside 1 to n'; 8, 'entries so far pass 1,024', since K7 2,048.
-- n, m, the last source and the entries before this record; then the record's fields
unfoldable pub fixed_fault : Limits → (n m last entries : ℕ) → (source action d c : ℕ) → Fault
fixed_fault L n m last entries source action d c =
    if_less source last (fault 5)
    (unless_less source n (fault 5)
    (unless_less action m (fault 5)
    (unless_less 0 d (fault 5)
    (unless_less 0 c (fault 5)
    (if_less n c (fault 5)
    (if_less L.entries (entries + c) (fault 8)
    no_fault))))))

-- the same of the record at a place
unfoldable pub fixed_fault_at : Limits → List ℕ → (n m last entries at : ℕ) → Fault
fixed_fault_at L s n m last entries at =
    fixed_fault L n m last entries (source_at s at) (action_at s at) (denominator_at s at) (entry_count_at s at)

-- 'transition, entries': 6, 'state absent or not ascending, weight 0'; after the last entry 7, 'sum not d'.
-- For the entries left at a place: the lowest state that may follow, and the sum so far
unfoldable pub entries_fault : List ℕ → (n d : ℕ) → (left at lowest total : ℕ) → Fault
entries_fault s n d zero at lowest total = unless_same total d (fault 7) no_fault
entries_fault s n d (suc left) at lowest total =
    if_less (byte_at s at) lowest (fault 6)
    (unless_less (byte_at s at) n (fault 6)
    (unless_less 0 (two_at s (at + 1)) (fault 6)
    (entries_fault s n d left (at + 3) (byte_at s at + 1) (total + two_at s (at + 1)))))

-- the value that stands in a record's bytes: the entries left at a place
unfoldable pub entries_at : List ℕ → ℕ → ℕ → List Entry
entries_at s zero at = []
entries_at s (suc left) at = record { state = byte_at s at; weight = two_at s (at + 1) } ∷ entries_at s left (at + 3)

-- the transition at a place
unfoldable pub transition_at : List ℕ → ℕ → Transition
transition_at s at =
    record {
      source = source_at s at;
      action = action_at s at;
      denominator = denominator_at s at;
      entries = entries_at s (entry_count_at s at) (at + 7);
    }

-- document 02, K10: 34, 'the divisor', of 'A transition whose weights have a common divisor above 1', where terms are to be lowest
unfoldable pub terms_fault : Terms → Transition → Fault
terms_fault any_terms t = no_fault
terms_fault lowest_terms t = unless_same (divisor_in t) 1 (fault 34) no_fault

-- 'transition': 1, 2, 5, 8, 6, 7, and 34 'after 7', after the last source and so many entries
unfoldable pub transition_fault : Limits → List ℕ → (n m last entries at : ℕ) → Fault
transition_fault L s n m last entries at =
    first_of (open_fault model_record 0x5452 7 s at)
    (first_of (fixed_fault_at L s n m last entries at)
    (if_less (length s) (after_transition s at) (fault 1)
    (first_of (entries_fault s n (denominator_at s at) (entry_count_at s at) (at + 7) 0 0)
    (terms_fault L.terms (transition_at s at)))))

-- what the records of a model file are: sound, with n, m, the transition count and the place where the records end;
-- or a refusal, with its fault and 'the byte place where the record at fault begins'
pub data Scan : Type 0 where
  sound : (n m count end : ℕ) → Scan
  refused : Fault → (place : ℕ) → Scan

-- a record's fault refuses at its place; without one the next record is looked at
unfoldable pub refuse_at : Fault → (place : ℕ) → Scan → Scan
refuse_at f place next = if_same f.number 0 next (refused f place)

-- the transition records left, from a place on, after the last source and so many entries
unfoldable pub scan_transitions : Limits → List ℕ → (n m count : ℕ) → (left last entries at : ℕ) → Scan
scan_transitions L s n m count zero last entries at = sound n m count at
scan_transitions L s n m count (suc left) last entries at =
    refuse_at (transition_fault L s n m last entries at) at
    (scan_transitions L s n m count left (source_at s at) (entries + entry_count_at s at) (after_transition s at))

-- 'head', 'labels', then as many transitions as the head says: refusals 1 to 8 and 34
unfoldable pub scan_model : Limits → List ℕ → Scan
scan_model L s =
    refuse_at (head_fault L s) 0
    (refuse_at (labels_fault L s (states_of s)) 6
    (scan_transitions L s (states_of s) (actions_of s) (count_of s) (count_of s) 0 0 (8 + states_of s)))

-- 'after the model': 9, 'bytes left', at 'the first byte left'
unfoldable pub refuse_bytes_left : List ℕ → Scan → Scan
refuse_bytes_left s (sound n m count end) = if_less end (length s) (refused (fault 9) end) (sound n m count end)
refuse_bytes_left s (refused f place) = refused f place

-- a file that holds a model and nothing else: refusals 1 to 9, and 34
unfoldable pub scan_whole : Limits → List ℕ → Scan
scan_whole L s = refuse_bytes_left s (scan_model L s)

-- the numbers that reading a model gives: none, 1 to 9, and 34 where terms are to be lowest
unfoldable pub ReadNumber : Terms → ℕ → Type 0
ReadNumber any_terms k = k ≤ 9
ReadNumber lowest_terms k = (k ≤ 9) ⊎ (k ≡ 34)

-- the transitions left from a place on
unfoldable pub transitions_at : List ℕ → ℕ → ℕ → List Transition
transitions_at s zero at = []
transitions_at s (suc left) at = transition_at s at ∷ transitions_at s left (after_transition s at)

-- the model
unfoldable pub model_at : List ℕ → Model
model_at s =
    record {
      actions = actions_of s;
      labels = take (states_of s) (drop 8 s);
      transitions = transitions_at s (count_of s) (8 + states_of s);
    }

-- reading: the bytes give a model and where its records end, or a refusal with its place
pub data Reading : Type 0 where
  model : Model → (end : ℕ) → Reading
  no_model : Fault → (place : ℕ) → Reading

-- the reading that a scan of the bytes allows
unfoldable pub reading_of : List ℕ → Scan → Reading
reading_of s (sound n m count end) = model (model_at s) end
reading_of s (refused f place) = no_model f place

-- reading the records of a model: refusals 1 to 8, and 34
unfoldable pub read_model : Limits → List ℕ → Reading
read_model L s = reading_of s (scan_model L s)

-- reading a file that holds a model and nothing else: refusals 1 to 9, and 34
unfoldable pub read_whole : Limits → List ℕ → Reading
read_whole L s = reading_of s (scan_whole L s)

-- 'the transitions that leave a state'
unfoldable pub leaving_state : ℕ → List Transition → List Transition
leaving_state state [] = []
leaving_state state (t ∷ ts) = if_same t.source state (t ∷ []) [] ++ leaving_state state ts

-- the place of the transition r, 'counted from 0 in file order'; for r the transition count, the place where the records end
unfoldable pub place_of : List ℕ → ℕ → ℕ
place_of s zero = 8 + states_of s
place_of s (suc r) = after_transition s (place_of s r)

-- the first of the transitions left, from r on, whose source is not below a state
unfoldable pub first_not_below : List ℕ → ℕ → (left r : ℕ) → ℕ
first_not_below s state zero r = r
first_not_below s state (suc left) r = if_less (source_at s (place_of s r)) state (first_not_below s state left (r + 1)) r

-- 'the transitions that leave a state': sources never descend, so they are one run, from the first of them up to the first of a later state
unfoldable pub run_first : List ℕ → ℕ → ℕ
run_first s state = first_not_below s state (count_of s) 0

-- the first transition past the run
unfoldable pub run_past : List ℕ → ℕ → ℕ
run_past s state = first_not_below s (state + 1) (count_of s - run_first s state) (run_first s state)

-- 'that run of the model's own bytes': where it starts
unfoldable pub run_start : List ℕ → ℕ → ℕ
run_start s state = place_of s (run_first s state)

-- where it ends
unfoldable pub run_end : List ℕ → ℕ → ℕ
run_end s state = place_of s (run_past s state)
