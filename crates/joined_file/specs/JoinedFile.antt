-- What the writer of the joined file needs.
use Rattle.std.specs.Prelude.{ℕ, ◌+◌, ◌-◌, ◌≤◌, List, length, take, drop}
use Rattle.rules.specs.definitions.Limits.{current}
use Rattle.rules.specs.definitions.Model.{Model}
use Rattle.rules.specs.definitions.Reading.{states_of, model_at}
use Rattle.joined.specs.definitions.Joined.{joined, joined_file}
use Rattle.rules.proofs.argument.LengthLaws.{Within}
use Rattle.two_models.specs.TwoModels.{BothSound}
use Rattle.model.specs.declared.Model.{Model as Found}

-- the joined model of two files
abbrev pub joined_in : (first second : List ℕ) → Model
joined_in first second = joined (model_at first) (model_at second)

-- the labels of a file with k states
abbrev pub labels_of : ℕ → List ℕ → List ℕ
labels_of k s = take k (drop 8 s)

-- the records of a sound second model, with room for them raised behind what the first has from a place on
pub record CanWriteRecords (first : List ℕ) (start : ℕ) (second : List ℕ) (k : ℕ) (out : List ℕ) (at : ℕ) : Type 0 where
  pub inside : start ≤ length first
  pub states : k + states_of second ≤ 256
  pub room : at + (length first - start) + (length second - (8 + states_of second)) ≤ length out

-- two sound models whose joined model is within the limits
pub record CanJoin (first : List ℕ) (m : Found) (second : List ℕ) (n : Found) (table : List ℕ) : Type 0 where
  pub models : BothSound first m second n table
  pub within : Within current (joined_in first second)

-- and there is room for its file
pub record CanWriteJoined (first : List ℕ) (m : Found) (second : List ℕ) (n : Found) (table out : List ℕ) : Type 0 where
  pub models : BothSound first m second n table
  pub within : Within current (joined_in first second)
  pub room : length (joined_file (model_at first) (model_at second)) ≤ length out
