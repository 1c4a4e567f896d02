-- Document 02, K6: a model with costs, and its bytes.
use Rattle.std.specs.Prelude.{ℕ, ◌+◌, ◌≤◌, ◌≡◌, List, ◌∷◌, ◌++◌, length, take, drop, get_or}
use Rattle.rules.specs.definitions.Limits.{Limits}
use Rattle.rules.specs.definitions.Model.{Model, model_bytes}
use Rattle.rules.specs.definitions.SoundModel.{Each, SoundModel}
use Rattle.rules.specs.definitions.Reading.{count_of, place_of}

-- 'one byte for each transition, 0 to 63'
abbrev pub highest_cost : ℕ
highest_cost = 63

-- 'a cost to each transition': as many as there are transitions, none above the highest
pub record RightCosts (M : Model) (costs : List ℕ) : Type 0 where
  pub count : length costs ≡ length M.transitions
  pub most : Each (λ (c : ℕ). c ≤ highest_cost) costs

-- the cost of each transition
unfoldable pub cost_of : List ℕ → ℕ → ℕ
cost_of costs r = get_or costs r 0

-- 'a record marked 43 4F with one byte for each transition'
unfoldable pub costs_bytes : List ℕ → List ℕ
costs_bytes costs = 0x43 ∷ 0x4F ∷ costs

-- 'A cost model has, after its transitions, a record ..': the file of a model with costs
unfoldable pub cost_model_bytes : Model → (costs : List ℕ) → List ℕ
cost_model_bytes M costs = model_bytes M ++ costs_bytes costs

-- the bytes are those of a sound model with costs
pub record CostFileOf (L : Limits) (bytes : List ℕ) (M : Model) : Type 0 where
  pub costs : List ℕ
  pub sound : SoundModel L M
  pub right : RightCosts M costs
  pub encoded : bytes ≡ cost_model_bytes M costs

-- where the transitions of a model file end
unfoldable pub transitions_end : List ℕ → ℕ
transitions_end s = place_of s (count_of s)

-- the costs that stand in a file: the bytes behind the mark, one for each transition. Of a file that is no cost model they say nothing
unfoldable pub costs_in : List ℕ → List ℕ
costs_in s = take (count_of s) (drop (transitions_end s + 2) s)

-- 'the same model without costs': the bytes in front of the cost record
unfoldable pub without_costs : List ℕ → List ℕ
without_costs s = take (transitions_end s) s
