-- Document 01, 'The automaton': the rules of a model, said of the value, with no order of reading and no refusals.
use Rattle.std.specs.Prelude.{ℕ, ◌+◌, ◌≤◌, ◌<◌, ◌≡◌, List, [], ◌∷◌, length}
use Rattle.numbers.specs.definitions.Divisor.{Divides}
use Rattle.rules.specs.definitions.Limits.{Terms, any_terms, lowest_terms, Limits}
use Rattle.rules.specs.definitions.Bytes.{byte_at}
use Rattle.rules.specs.definitions.Model.{Entry, Transition, Model}

-- P holds of each element
unfoldable pub Each : {A : Type 0} → (A → Type 0) → List A → Type 0
Each P [] = Unit
Each P (x ∷ xs) = P x × Each P xs

-- R holds of each element and the one after it
unfoldable pub Along : {A : Type 0} → (A → A → Type 0) → List A → Type 0
Along R [] = Unit
Along R (x ∷ []) = Unit
Along R (x ∷ y ∷ xs) = R x y × Along R (y ∷ xs)

-- the numbers of all elements, added up
unfoldable pub sum_over : {A : Type 0} → (A → ℕ) → List A → ℕ
sum_over f [] = 0
sum_over f (x ∷ xs) = f x + sum_over f xs

-- every element of the list is a byte
unfoldable pub Bytes : List ℕ → Type 0
Bytes s = (i : ℕ) → i < length s → byte_at s i < 256

-- 'd 2': the highest that its bytes hold
abbrev pub highest_denominator : ℕ
highest_denominator = 65535

-- the table's row 'transition', with n states and m actions, and 'Entry states strictly ascend, weights are at least 1 and add up to d'
pub record TransitionRules (n m : ℕ) (t : Transition) : Type 0 where
  pub source : t.source < n
  pub action : t.action < m
  pub positive : 1 ≤ t.denominator
  pub fits : t.denominator ≤ highest_denominator
  pub some : 1 ≤ length t.entries
  pub most : length t.entries ≤ n
  pub states : Each (λ (e : Entry). e.state < n) t.entries
  pub ascend : Along (λ (e f : Entry). e.state < f.state) t.entries
  pub weights : Each (λ (e : Entry). 1 ≤ e.weight) t.entries
  pub whole : sum_over (λ (e : Entry). e.weight) t.entries ≡ t.denominator

-- document 02, K10, 'Lowest terms only': every common divisor of the weights is 1
unfoldable pub LowestTerms : Transition → Type 0
LowestTerms t = (k : ℕ) → Each (λ (e : Entry). Divides k e.weight) t.entries → k ≡ 1

-- a transition is written in these terms
unfoldable pub HasTerms : Terms → Transition → Type 0
HasTerms any_terms t = Unit
HasTerms lowest_terms t = LowestTerms t

-- how many entries the transitions of a model have
abbrev pub entry_count : Model → ℕ
entry_count M = sum_over (λ (t : Transition). length t.entries) M.transitions

-- the rows 'head' and 'labels'; each transition; 'Sources never descend along the file'; the most entries in a file; the terms
pub record SoundModel (L : Limits) (M : Model) : Type 0 where
  pub some_state : 1 ≤ length M.labels
  pub states : length M.labels ≤ L.states
  pub some_action : 1 ≤ M.actions
  pub actions : M.actions ≤ L.actions
  pub count : length M.transitions ≤ L.transitions
  pub labels : Each (λ (b : ℕ). b ≤ L.label) M.labels
  pub transitions : Each (TransitionRules (length M.labels) M.actions) M.transitions
  pub sources : Along (λ (t u : Transition). t.source ≤ u.source) M.transitions
  pub entries : entry_count M ≤ L.entries
  pub terms : Each (HasTerms L.terms) M.transitions

-- limits that the fields of a model's records have room for: n, m and labels 1 byte, the transition count 2
pub record FitsWidths (L : Limits) : Type 0 where
  pub states : L.states ≤ 255
  pub actions : L.actions ≤ 255
  pub transitions : L.transitions ≤ 65535
  pub label : L.label ≤ 255
