-- Document 02, K9: the model that a text holds: 'm is one more than the names, all labels are 0. Each d is the least possible.'
use Rattle.std.specs.Prelude.{ℕ, ◌+◌, ◌/◌, List, map, length, replicate}
use Rattle.numbers.specs.definitions.Divisor.{divisor_of}
use Rattle.rules.specs.definitions.Model.{Entry, Transition, Model}
use Rattle.prism.specs.definitions.Lines.{Head}
use Rattle.prism.specs.definitions.Reading.{Choice}

abbrev pub weights_of : List Entry → List ℕ
weights_of es = map (λ (e : Entry). e.weight) es

-- an entry with its weight divided
unfoldable pub entry_over : ℕ → Entry → Entry
entry_over g e = record { state = e.state; weight = e.weight / g }

-- a choice as a transition: its ten-thousandths in lowest terms, so that d is the least possible (`least-denominator`)
unfoldable pub transition_over : ℕ → Choice → Transition
transition_over g c = record { source = c.source; action = c.action; denominator = 10000 / g; entries = map (entry_over g) c.entries }

unfoldable pub transition_of : Choice → Transition
transition_of c = transition_over (divisor_of 0 (weights_of c.entries)) c

unfoldable pub held_model : Head → (names : List (List ℕ)) → List Choice → Model
held_model h names choices = record { actions = length names + 1; labels = replicate h.states 0; transitions = map transition_of choices }
