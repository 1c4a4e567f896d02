-- Document 02, K9: what the model of a text says of its choices, with no way of computing it.
use Rattle.std.specs.Prelude.{ℕ, ◌*◌, ◌≤◌, ◌≡◌, List, [], ◌∷◌}
use Rattle.rules.specs.definitions.Model.{Entry, Transition}
use Rattle.rules.specs.definitions.SoundModel.{Each}
use Rattle.prism.specs.definitions.Reading.{action_of}
use Rattle.prism.specs.definitions.AllowedText.{Target, WrittenChoice, parts_of}

-- lists of one length, R of each two at one position
unfoldable pub Beside : {A B : Type 0} → (A → B → Type 0) → List A → List B → Type 0
Beside R [] [] = Unit
Beside R [] (y ∷ ys) = ⊥
Beside R (x ∷ xs) [] = ⊥
Beside R (x ∷ xs) (y ∷ ys) = R x y × Beside R xs ys

-- an entry over d says of the state v what so many ten-thousandths say
pub record Says (d v parts : ℕ) (e : Entry) : Type 0 where
  pub state : e.state ≡ v
  pub probability : e.weight * 10000 ≡ parts * d

-- a transition holds a choice of a text: its source, its action, its targets with their probabilities; 'Each d is the least possible'
pub record Holds (names : List (List ℕ)) (c : WrittenChoice) (t : Transition) : Type 0 where
  pub source : t.source ≡ c.source
  pub action : t.action ≡ action_of names c.name
  pub targets : Beside (λ (x : Target) (e : Entry). Says t.denominator x.state (parts_of x.probability) e) c.targets t.entries
  pub least : (p : ℕ → ℕ) (d : ℕ) → 1 ≤ d → Each (λ (x : Target). p x.state * 10000 ≡ parts_of x.probability * d) c.targets → t.denominator ≤ d
