-- The fields of the head.
use Rattle.std.specs.Prelude.{ℕ, ◌<◌, ◌≡◌, List}
use Rattle.rules.specs.definitions.Reading.{states_of, actions_of, count_of}
use Rattle.model_head.specs.declared.Head.{Head}

pub record HeadAt (s : List ℕ) (r : Head) : Type 0 where
  pub states : r.states ≡ states_of s
  pub actions : r.actions ≡ actions_of s
  pub transitions : r.transitions ≡ count_of s
  pub small : r.states < 256
