-- An answer handed back.
use Rattle.std.specs.Prelude.{ℕ, ◌+◌, ◌-◌, ◌≡◌, List, get_or, ℤ}
use Rattle.rules.specs.definitions.Answers.{Outcome, left_in, lengths_of, stretch_of}
use Rattle.answer.specs.declared.Answer.{Answer}
use Rattle.answer.specs.Answered.{answered}

-- where a part of a slice lies that begins so many bytes after the slice does: a block of memory and an offset in it
abbrev pub part_from : ℕ × ℕ → ℕ → ℕ × ℕ
part_from slice start = (slice.0, start + slice.1)

-- the slice of the file at fault, of those of the call's files; the first where an answer names none
abbrev pub slice_of : List (ℕ × ℕ) → ℕ → ℕ × ℕ
slice_of slices file = get_or slices (file - 1) (0, 0)

-- its numbers, and its stretch as a part of its file
pub record HandsBack (files : List (List ℕ)) (slices : List (ℕ × ℕ)) (r : Answer) (number file place state : ℕ) (remainder : ℤ) (part : List ℕ) (lying : ℕ × ℕ) : Type 0 where
  pub numbered : number ≡ r.number
  pub filed : file ≡ r.file
  pub placed : place ≡ r.place
  pub stated : state ≡ r.state
  pub off : remainder ≡ r.remainder
  pub handed : part ≡ stretch_of files (answered r)
  pub lies : lying ≡ part_from (slice_of slices r.file) r.stretch_start

-- an outcome of a call that was given these files, which lie in these slices: its numbers stand beside its stretch, a part of the file that
-- it names, with the lengths that were written, and the lent buffers are as it says
pub record Handed (o : Outcome) (files : List (List ℕ)) (slices : List (ℕ × ℕ)) (after : List (List ℕ)) (number file place state : ℕ) (remainder : ℤ) (written : List ℕ) (part : List ℕ) (lying : ℕ × ℕ) : Type 0 where
  pub numbered : number ≡ o.answer.number
  pub filed : file ≡ o.answer.file
  pub placed : place ≡ o.answer.place
  pub stated : state ≡ o.answer.state
  pub off : remainder ≡ o.answer.remainder
  pub wrote : written ≡ lengths_of o
  pub handed : part ≡ stretch_of files o.answer
  pub lies : lying ≡ part_from (slice_of slices o.answer.file) o.answer.stretch_start
  pub buffers : after ≡ left_in o

-- what a call promises that hands its stretch back as a slice: such an outcome, and these demands of its number
pub record CallHandedBack (o : Outcome) (files : List (List ℕ)) (slices : List (ℕ × ℕ)) (after : List (List ℕ)) (kept : ℕ → Type 0) (number file place state : ℕ) (remainder : ℤ) (written : List ℕ) (part : List ℕ) (lying : ℕ × ℕ) : Type 0 where
  pub outcome : Handed o files slices after number file place state remainder written part lying
  pub demands : kept number
