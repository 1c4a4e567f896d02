-- What the call that hides actions keeps, and what its parts need.
use Rattle.std.specs.Prelude.{ℕ, List, [], ◌∷◌}
use Rattle.rules.specs.definitions.Limits.{current}
use Rattle.rules.specs.definitions.Reading.{model_at, read_whole}
use Rattle.rules.specs.definitions.Accepted.{FileOf}
use Rattle.rules.specs.definitions.Answers.{files_outcome}
use Rattle.composition.specs.definitions.Hiding.{hidden_file}
use Rattle.composition.specs.definitions.HideAnswer.{hide_outcome, HideDemands}
use Rattle.answer.specs.declared.Answer.{Answer}
use Rattle.answer.specs.Answered.{OutcomeIs, CallAnswered}

-- the call that hides answers and leaves in the lent buffer what the request says, and keeps its demands; the set is not a file
abbrev pub HideAnswered : (model set before after : List ℕ) → Answer → Type 0
HideAnswered model set before after r =
    CallAnswered (hide_outcome (read_whole current) model set before) (model ∷ []) (after ∷ []) (HideDemands current (read_whole current) (FileOf current) model set before after) r

-- what it answers of a sound model, and leaves in the lent buffer
abbrev pub HidesSound : (model set before after : List ℕ) → Answer → Type 0
HidesSound model set before after r = OutcomeIs (files_outcome 38 (hidden_file set (model_at model) ∷ []) (before ∷ [])) (model ∷ []) (after ∷ []) r
