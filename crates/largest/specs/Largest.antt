-- What the call that writes the pair with the most flow records promises, in the definitions of document 02, K13.
use Rattle.std.specs.Prelude.{ℕ, List, [], ◌∷◌}
use Rattle.rules.specs.definitions.Limits.{current}
use Rattle.largest_pair.specs.definitions.LargestAnswer.{largest_outcome, LargestDemands}
use Rattle.answer.specs.declared.PairAnswer.{PairAnswer}
use Rattle.answer.specs.Answered.{BothAnswered}

-- the call answers and leaves in the lent buffers what the request says, and keeps its demands; it reads no file
abbrev pub LargestAnswered : (n T : ℕ) → (model_before certificate_before model_after certificate_after : List ℕ) → PairAnswer → Type 0
LargestAnswered n T model_before certificate_before model_after certificate_after r =
    BothAnswered (largest_outcome current n T model_before certificate_before) [] (model_after ∷ certificate_after ∷ []) (LargestDemands n T model_before certificate_before model_after certificate_after) r
