-- Document 02, K11: 'Also write a model whose external actions in a chosen set are made internal; members of the set that are 0 or not below the
-- action count change nothing, and the action count stays.'
use Rattle.std.specs.Prelude.{ℕ, Bool, true, false, List, [], ◌∷◌, map}
use Rattle.bisimulation.specs.definitions.Choice.{if_same}
use Rattle.bisimulation.specs.definitions.Hidden.{hidden_action}
use Rattle.rules.specs.definitions.Model.{Transition, Model, model_bytes}

-- the set as bytes, one a member
unfoldable pub member_of : List ℕ → ℕ → Bool
member_of [] a = false
member_of (b ∷ bs) a = if_same b a true (member_of bs a)

unfoldable pub hidden_transition : (chosen : ℕ → Bool) → Transition → Transition
hidden_transition chosen t =
    record { source = t.source; action = hidden_action chosen t.action; denominator = t.denominator; entries = t.entries }

-- the model with the actions of a set hidden
unfoldable pub hidden : (set : List ℕ) → Model → Model
hidden set M = record { actions = M.actions; labels = M.labels; transitions = map (hidden_transition (member_of set)) M.transitions }

-- its file
abbrev pub hidden_file : (set : List ℕ) → Model → List ℕ
hidden_file set M = model_bytes (hidden set M)
