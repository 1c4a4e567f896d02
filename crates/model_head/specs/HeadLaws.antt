-- The head's numbers as they are read.
use Rattle.std.specs.Prelude.{ℕ, ◌≡◌, List}
use Rattle.rules.specs.definitions.Reading.{states_of, actions_of, count_of}
use Rattle.model_head.specs.declared.Head.{Head}
use Rattle.model_head.specs.Head.{HeadAt}

-- what is made of them is made of the head
pub of-head {ℓ} : {X : Type ℓ} (f : (n m count : ℕ) → X) {s : List ℕ} {r : Head} → HeadAt s r → f r.states r.actions r.transitions ≡ f (states_of s) (actions_of s) (count_of s)
of-head f h = rw (h.states, h.actions, h.transitions)
