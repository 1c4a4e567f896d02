-- What the call that joins two models promises, in the definitions of document 02, K1.
use Rattle.std.specs.Prelude.{ℕ, ◌*◌, Bool, true, false, List, [], ◌∷◌}
use Rattle.bisimulation.specs.definitions.Choice.{if_less}
use Rattle.rules.specs.definitions.Limits.{current}
use Rattle.rules.specs.definitions.Reading.{read_whole}
use Rattle.rules.specs.definitions.Accepted.{FileOf}
use Rattle.rules.specs.definitions.Made.{passes_limit, made_outcome, two_files}
use Rattle.joined.specs.definitions.JoinAnswer.{join_outcome, JoinDemands}
use Rattle.answer.specs.declared.Answer.{Answer}
use Rattle.answer.specs.Answered.{OutcomeIs, CallAnswered}
use Rattle.joined_file.specs.JoinedFile.{joined_in}

-- the call that joins answers and leaves in the lent buffer what the request says, and keeps its demands
abbrev pub JoinAnswered : (first second before after : List ℕ) → Answer → Type 0
JoinAnswered first second before after r =
    CallAnswered (join_outcome current (read_whole current) first second before) (two_files first second) (after ∷ []) (JoinDemands current (read_whole current) (FileOf current) first second before after) r

-- what it answers of two sound models, and leaves in the lent buffer
abbrev pub JoinsSound : (first second before after : List ℕ) → Answer → Type 0
JoinsSound first second before after r =
    OutcomeIs (made_outcome 25 26 (passes_limit current (joined_in first second)) (joined_in first second) (before ∷ [])) (two_files first second) (after ∷ []) r

-- a limit is passed, by so many states, transitions and bytes of entries; an entry is three bytes long
unfoldable pub passes_sizes : (states transitions entry_bytes : ℕ) → Bool
passes_sizes states transitions entry_bytes =
    if_less current.states states true (if_less current.transitions transitions true (if_less (3 * current.entries) entry_bytes true false))
