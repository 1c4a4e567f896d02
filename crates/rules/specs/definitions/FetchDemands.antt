-- Document 01, 'A host may fetch the transitions that leave a state': what the call that fetches keeps.
use Rattle.std.specs.Prelude.{ℕ, ◌≤◌, ◌<◌, ◌≡◌, ◌↔◌, List, length}
use Rattle.rules.specs.definitions.Limits.{Limits}
use Rattle.rules.specs.definitions.Model.{Model, transitions_bytes}
use Rattle.rules.specs.definitions.Reading.{leaving_state}
use Rattle.rules.specs.definitions.Accepted.{FileOf}
use Rattle.rules.specs.definitions.Answers.{stretch_in, fetch_answer, FetchNumber}

-- what it keeps when it answers this number; its answer is `fetch_answer`
pub record FetchDemands (L : Limits) (file : List ℕ) (state number : ℕ) : Type 0 where
  -- demand 1: the number is one of the call's
  pub known : FetchNumber L.terms number
  -- it is 0 exactly when the bytes are the file of a sound model and the state is one of its states
  pub found : (number ≡ 0) ↔ ((M : Model) × FileOf L file M × (state < length M.labels))
  -- 24, 'state not below n', 'after the model'
  pub absent : (number ≡ 24) ↔ ((M : Model) × FileOf L file M × (length M.labels ≤ state))
  -- 'that run of the model's own bytes, empty where none leave': the bytes of the transitions whose source is the state, in file order
  pub run : number ≡ 0 → (M : Model) → FileOf L file M → stretch_in file (fetch_answer L file state) ≡ transitions_bytes (leaving_state state M.transitions)
