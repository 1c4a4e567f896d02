-- Document 01, 'Refused, and where': what each call answers, and what each lent buffer holds afterwards.
use Rattle.std.specs.Prelude.{ℕ, ◌-◌, ◌≤◌, ◌≡◌, ◌⊎◌, Bool, true, false, List, [], ◌∷◌, ◌++◌, map, length, take, drop, get_or, ℤ, pos}
use Rattle.bisimulation.specs.definitions.Choice.{if_less, if_true, unless_less}
use Rattle.rules.specs.definitions.Limits.{Terms, Limits}
use Rattle.rules.specs.definitions.Model.{Model}
use Rattle.rules.specs.definitions.Faults.{Fault}
use Rattle.rules.specs.definitions.Accepted.{Among}
use Rattle.rules.specs.definitions.Reading.{ReadNumber, Scan, sound, refused, Reading, model, no_model, read_whole, run_start, run_end}
use Rattle.rules.specs.definitions.Certificate.{FileRule}
use Rattle.rules.specs.definitions.Judging.{Judgement, accepted, refused_in, Reader, judge}

-- 'its number, the file (1 model, 2 certificate) and the byte place', file 3 being a second model; the stretch, or the run of a fetch, by
-- where it starts and how long it is in its file; and document 02, K2: 'The answer gains a state and a signed 64-bit remainder'
pub record Answer : Type 0 where
  pub number : ℕ
  pub file : ℕ
  pub place : ℕ
  pub stretch_start : ℕ
  pub stretch_length : ℕ
  pub state : ℕ
  pub remainder : ℤ

-- 'The stretch .. runs from that place to the file's end': a fault in a file of so many bytes
unfoldable pub refusal_in : Fault → (file place size : ℕ) → Answer
refusal_in f file place size =
    record {
      number = f.number;
      file = file;
      place = place;
      stretch_start = place;
      stretch_length = size - place;
      state = f.state;
      remainder = f.remainder;
    }

-- 'For 10, 23, 24, acceptance .. file and place are 0 and the stretch is empty': an empty stretch without a file starts at 0
unfoldable pub answer_without_place : (number : ℕ) → Answer
answer_without_place number = record { number = number; file = 0; place = 0; stretch_start = 0; stretch_length = 0; state = 0; remainder = pos 0 }

-- what the scan of a model file of so many bytes answers by itself
unfoldable pub scan_answer : ℕ → Scan → Answer
scan_answer size (sound n m count end) = answer_without_place 0
scan_answer size (refused f place) = refusal_in f 1 place size

-- a file by its number, 'the file (1 model, 2 certificate)', 3 for a second model, of the files that a call was given; the first where an
-- answer names none
unfoldable pub file_of : List (List ℕ) → ℕ → List ℕ
file_of files k = get_or files (k - 1) []

-- what the judgement of these files answers by itself
unfoldable pub judgement_answer : List (List ℕ) → Judgement → Answer
judgement_answer files (accepted blocks) = answer_without_place 0
judgement_answer files (refused_in f file place) = refusal_in f file place (length (file_of files file))

-- the bytes of a stretch or run in its file
unfoldable pub stretch_in : List ℕ → Answer → List ℕ
stretch_in s a = take a.stretch_length (drop a.stretch_start s)

-- 'The stretch handed back lies in the model or in the certificate'; 'a fault in a file 3 has its stretch in that file'
unfoldable pub stretch_of : List (List ℕ) → Answer → List ℕ
stretch_of files a = stretch_in (file_of files a.file) a

-- 'the answer is that run of the model's own bytes, empty where none leave. It comes in place of the stretch, with number, file and place 0'
unfoldable pub run_answer : (start end : ℕ) → Answer
run_answer start end =
    if_less start end
    (record { number = 0; file = 0; place = 0; stretch_start = start; stretch_length = end - start; state = 0; remainder = pos 0 })
    (answer_without_place 0)

-- 'fetch, after the model': 24, 'state not below n', for what reading the model gave
unfoldable pub fetch_reading : List ℕ → ℕ → Reading → Answer
fetch_reading s state (model M end) =
    unless_less state (length M.labels) (answer_without_place 24) (run_answer (run_start s state) (run_end s state))
fetch_reading s state (no_model f place) = refusal_in f 1 place (length s)

-- the call that fetches: 'the transitions that leave a state'
unfoldable pub fetch_answer : Limits → List ℕ → ℕ → Answer
fetch_answer L s state = fetch_reading s state (read_whole L s)

-- what a lent buffer holds after a call, and how many bytes were written into it, from its first on
pub record Lent : Type 0 where
  pub bytes : List ℕ
  pub written : ℕ

-- what a call answers, and what it leaves: each buffer that it lends, none, one or two, in their order
pub record Outcome : Type 0 where
  pub answer : Answer
  pub lent : List Lent

-- the bytes of the lent buffers afterwards
abbrev pub left_in : Outcome → List (List ℕ)
left_in o = map (λ (x : Lent). x.bytes) o.lent

-- the lengths that were written
abbrev pub lengths_of : Outcome → List ℕ
lengths_of o = map (λ (x : Lent). x.written) o.lent

-- that of the first lent buffer, 0 where none is lent
abbrev pub first_written : Outcome → ℕ
first_written o = get_or (lengths_of o) 0 0

-- that of the second
abbrev pub second_written : Outcome → ℕ
second_written o = get_or (lengths_of o) 1 0

-- a buffer as it was
abbrev pub untouched : List ℕ → Lent
untouched buffer = record { bytes = buffer; written = 0 }

-- nothing is written: 'A refusal writes no byte of any lent buffer', and a call may lend none
unfoldable pub unwritten : Answer → (before : List (List ℕ)) → Outcome
unwritten a before = record { answer = a; lent = map untouched before }

-- 'fills the first n bytes of the block buffer, or the merged file's length of the other; later bytes stay'
unfoldable pub filled_with : (bytes buffer : List ℕ) → Lent
filled_with bytes buffer = record { bytes = bytes ++ drop (length bytes) buffer; written = length bytes }

-- each file into its buffer
unfoldable pub filled_each : (files before : List (List ℕ)) → List Lent
filled_each [] before = map untouched before
filled_each (file ∷ files) [] = []
filled_each (file ∷ files) (buffer ∷ before) = filled_with file buffer ∷ filled_each files before

-- 'Acceptance is 0 and fills ..'
unfoldable pub filled : (files before : List (List ℕ)) → Outcome
filled files before = record { answer = answer_without_place 0; lent = filled_each files before }

-- no buffer is shorter than its file
unfoldable pub room_for : (files before : List (List ℕ)) → Bool
room_for [] before = true
room_for (file ∷ files) [] = false
room_for (file ∷ files) (buffer ∷ before) = if_less (length buffer) (length file) false (room_for files before)

-- 'buffer shorter than the file', with the number that the call has for it; else each file is written
unfoldable pub files_outcome : (short : ℕ) → (files before : List (List ℕ)) → Outcome
files_outcome short files before = if_true (room_for files before) (filled files before) (unwritten (answer_without_place short) before)

-- what a call that judges does with an accepted certificate
pub record Follows : Type 0 where
  -- how long a lent block buffer must be for a model; 0 where the call lends none
  pub block_room : Model → ℕ
  -- what the model and its accepted blocks come to, with what the lent buffers held
  pub outcome : Model → (blocks : List ℕ) → (before : List (List ℕ)) → Outcome
  -- the numbers that refuse after acceptance
  pub late : List ℕ

-- the first lent buffer, empty where none is lent; a block buffer is the first
abbrev pub first_lent : List (List ℕ) → List ℕ
first_lent before = get_or before 0 []

-- a judgement for the model N as an answer: what follows acceptance, or the refusal
unfoldable pub judged_outcome : Follows → (M C : List ℕ) → (before : List (List ℕ)) → Model → Judgement → Outcome
judged_outcome follows M C before N (accepted blocks) = follows.outcome N blocks before
judged_outcome follows M C before N (refused_in f file place) = unwritten (judgement_answer (M ∷ C ∷ []) (refused_in f file place)) before

-- 'block buffer, after the model': 10, 'shorter than n', for what reading the model gave; then the judgement. Where no block buffer is lent its room
-- is 0, and no buffer is shorter
unfoldable pub read_outcome : Follows → (M C : List ℕ) → (before : List (List ℕ)) → Reading → Judgement → Outcome
read_outcome follows M C before (model N end) judged =
    if_less (length (first_lent before)) (follows.block_room N) (unwritten (answer_without_place 10) before) (judged_outcome follows M C before N judged)
read_outcome follows M C before (no_model f place) judged = unwritten (refusal_in f 1 place (length M)) before

-- a call that judges: the model is read, the certificate judged, and acceptance followed
unfoldable pub pair_outcome : Limits → Reader → FileRule → Follows → (M C : List ℕ) → (before : List (List ℕ)) → Outcome
pair_outcome L read rule follows M C before = read_outcome follows M C before (read M) (judge L read rule M C)

-- the call that judges, with a lent block buffer
abbrev pub writes_blocks : Follows
writes_blocks = record { block_room = λ N. length N.labels; outcome = λ N blocks before. filled (blocks ∷ []) before; late = [] }

-- a call that writes a file of the model and its blocks lends this buffer and no block buffer
abbrev pub writes_file : (short : ℕ) → (Model → (blocks : List ℕ) → List ℕ) → Follows
writes_file short file = record { block_room = λ N. 0; outcome = λ N blocks before. files_outcome short (file N blocks ∷ []) before; late = short ∷ [] }

-- the call that fetches lends no buffer
abbrev pub fetch_outcome : Limits → List ℕ → ℕ → Outcome
fetch_outcome L s state = record { answer = fetch_answer L s state; lent = [] }

-- the numbers that document 01 gives for a fetch
unfoldable pub FetchNumber : Terms → ℕ → Type 0
FetchNumber terms k = ReadNumber terms k ⊎ (k ≡ 24)

-- for the call that judges by document 01's rule
unfoldable pub JudgeNumber : Terms → ℕ → Type 0
JudgeNumber terms k = ReadNumber terms k ⊎ ((10 ≤ k) × (k ≤ 22))

-- for a call that judges and lends no block buffer, so that there is no 10, with the numbers that it has after acceptance
unfoldable pub LateNumber : Terms → (late : List ℕ) → ℕ → Type 0
LateNumber terms late k = ReadNumber terms k ⊎ (((11 ≤ k) × (k ≤ 22)) ⊎ Among k late)
