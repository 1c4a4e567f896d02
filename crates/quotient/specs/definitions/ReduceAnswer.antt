-- Document 01, 'Refused, and where': what the call that reduces does with an accepted certificate, and its numbers.
use Rattle.std.specs.Prelude.{ℕ, ◌≤◌, ◌⊎◌}
use Rattle.rules.specs.definitions.Limits.{Terms}
use Rattle.rules.specs.definitions.Reading.{ReadNumber}
use Rattle.rules.specs.definitions.Answers.{Follows, writes_file}
use Rattle.quotient.specs.definitions.Quotient.{merged_file}

-- 'merged model': 23. 'The call that writes it lends this buffer and no block buffer'
abbrev pub writes_merged : Follows
writes_merged = writes_file 23 merged_file

-- the numbers that document 01 gives for the call that reduces
unfoldable pub ReduceNumber : Terms → ℕ → Type 0
ReduceNumber terms k = ReadNumber terms k ⊎ ((11 ≤ k) × (k ≤ 23))
