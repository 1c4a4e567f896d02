-- Document 02, K1: what the call that joins two models answers, and what it leaves in the lent buffer.
use Rattle.std.specs.Prelude.{ℕ, ◌≤◌, ◌⊎◌, Bool, List, [], ◌∷◌}
use Rattle.rules.specs.definitions.Limits.{Terms, Limits}
use Rattle.rules.specs.definitions.Model.{Model}
use Rattle.rules.specs.definitions.Reading.{ReadNumber}
use Rattle.rules.specs.definitions.Judging.{Reader}
use Rattle.rules.specs.definitions.Accepted.{IsFile}
use Rattle.rules.specs.definitions.Answers.{Outcome}
use Rattle.rules.specs.definitions.Made.{passes_limit, made_outcome, two_outcome, MakesModel}
use Rattle.joined.specs.definitions.Joined.{joined}

-- 'the joined model passes a limit'
abbrev pub passes_joined : Limits → Model → Model → Bool
passes_joined L M N = passes_limit L (joined M N)

-- '25, the joined model passes a limit, after both are read; 26, buffer shorter than it, next'; else its file is written
abbrev pub join_outcome : Limits → Reader → (first second buffer : List ℕ) → Outcome
join_outcome L read first second buffer = two_outcome read (λ M N. made_outcome 25 26 (passes_joined L M N) (joined M N)) first second (buffer ∷ [])

-- its numbers
unfoldable pub JoinNumber : Terms → ℕ → Type 0
JoinNumber terms k = ReadNumber terms k ⊎ ((25 ≤ k) × (k ≤ 26))

-- its demands, with these bytes in the lent buffer before and after it
abbrev pub JoinDemands : (L : Limits) (read : Reader) (is_file : IsFile) (first second before after : List ℕ) → ℕ → Type 0
JoinDemands L read is_file = MakesModel L read is_file joined (JoinNumber L.terms)
