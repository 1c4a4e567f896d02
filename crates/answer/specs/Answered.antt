-- What a call answers, in the papers' terms, and what it promises.
use Rattle.std.specs.Prelude.{ℕ, ◌+◌, ◌≤◌, ◌<◌, ◌≡◌, List, ◌++◌, length, drop}
use Rattle.rules.specs.definitions.Answers as rules
use Rattle.rules.specs.definitions.Answers.{answer_without_place, Outcome, left_in, first_written, second_written, file_of}
use Rattle.answer.specs.declared.Answer.{Answer}
use Rattle.answer.specs.declared.PairAnswer.{PairAnswer}

-- the struct of numbers as the papers' answer; beside it stands how many bytes were written
abbrev pub answered : Answer → rules.Answer
answered a =
    record {
      number = a.number;
      file = a.file;
      place = a.place;
      stretch_start = a.stretch_start;
      stretch_length = a.stretch_length;
      state = a.state;
      remainder = a.remainder;
    }

-- this answer, with so many bytes written
pub record Says (a : rules.Answer) (written : ℕ) (r : Answer) : Type 0 where
  pub answer : answered r ≡ a
  pub wrote : r.written ≡ written

-- for a file of so many bytes and a buffer with so much room: the number that the call has for a short one, or 0 with the file's length
pub record FileAnswered (short size room : ℕ) (r : Answer) : Type 0 where
  pub few : room < size → Says (answer_without_place short) 0 r
  pub enough : size ≤ room → Says (answer_without_place 0) size r

-- what a writer of a file does: it says the file's length, and writes where there is room
pub record FileWritten (file before after : List ℕ) (size : ℕ) : Type 0 where
  pub says : size ≡ length file
  pub short : length before < length file → after ≡ before
  pub whole : length file ≤ length before → after ≡ file ++ drop (length file) before

-- an answer names one of the call's files or none, and its stretch lies in it
pub record StretchInside (files : List (List ℕ)) (r : Answer) : Type 0 where
  pub named : r.file ≤ length files
  pub fits : r.stretch_start + r.stretch_length ≤ length (file_of files r.file)

-- an answer and the lent buffers afterwards are those of an outcome
pub record Gives (o : Outcome) (after : List (List ℕ)) (r : Answer) : Type 0 where
  pub answer : answered r ≡ o.answer
  pub buffers : after ≡ left_in o
  pub wrote : r.written ≡ first_written o

-- the same of a call that was given these files: its stretch lies in the one that it names
pub record OutcomeIs (o : Outcome) (files after : List (List ℕ)) (r : Answer) : Type 0 where
  pub gives : Gives o after r
  pub inside : StretchInside files r

-- what an exported call promises, given these files, with these bytes in the lent buffers after it: it answers this outcome, number, file, place,
-- stretch, state, remainder and the length written into the first buffer, leaves in the buffers what it says, and keeps these demands of its
-- number
pub record CallAnswered (o : Outcome) (files after : List (List ℕ)) (kept : ℕ → Type 0) (r : Answer) : Type 0 where
  pub outcome : OutcomeIs o files after r
  pub demands : kept r.number

-- what a call that lends two buffers promises: beside this, the length written into the second
pub record BothAnswered (o : Outcome) (files after : List (List ℕ)) (kept : ℕ → Type 0) (r : PairAnswer) : Type 0 where
  pub answers : CallAnswered o files after kept r.answer
  pub second : r.certificate_written ≡ second_written o
