-- Document 02, K9: the texts that it allows, said of values, with no order of reading and no refusals: a head and choices with their lines that
-- keep K9's rules, and the bytes that they are written as.
use Rattle.std.specs.Prelude.{ℕ, ◌+◌, ◌*◌, ◌-◌, ◌^◌, ◌≤◌, ◌<◌, ◌≡◌, ◌⊎◌, List, [], ◌∷◌, ◌++◌, map, length}
use Rattle.numbers.specs.definitions.Decimal.{decimal, value_of}
use Rattle.rules.specs.definitions.Limits.{Limits}
use Rattle.rules.specs.definitions.Model.{Model}
use Rattle.rules.specs.definitions.SoundModel.{Each, Along, sum_over}
use Rattle.prism.specs.definitions.Lines.{Head}
use Rattle.prism.specs.definitions.Reading.{Choice, action_of, with_name}
use Rattle.prism.specs.definitions.HeldModel.{held_model}

-- 'Probabilities are written 1 or as 0, a point and one to four digits'
pub data Probability : Type 0 where
  one : Probability
  point : (digits : List ℕ) → Probability

-- a line of a choice: 'target, probability'
pub record Target : Type 0 where
  pub state : ℕ
  pub probability : Probability

-- a choice: what its lines have in common, an empty name where they have none, and its lines
pub record WrittenChoice : Type 0 where
  pub source : ℕ
  pub number : ℕ
  pub name : List ℕ
  pub targets : List Target

-- 'one to four digits, not all zero'
unfoldable pub ProbabilityRules : Probability → Type 0
ProbabilityRules one = Unit
ProbabilityRules (point ds) = (1 ≤ length ds) × (length ds ≤ 4) × Each (λ (b : ℕ). (0x30 ≤ b) × (b ≤ 0x39)) ds × (1 ≤ value_of ds)

-- in ten-thousandths
unfoldable pub parts_of : Probability → ℕ
parts_of one = 10000
parts_of (point ds) = value_of ds * 10 ^ (4 - length ds)

-- 'states lie below the head's count', n; 'targets strictly ascend within a choice'; names of bytes '21 to 7E hexadecimal'; it adds up to 1
pub record ChoiceRules (n : ℕ) (c : WrittenChoice) : Type 0 where
  pub source : c.source < n
  pub some : 1 ≤ length c.targets
  pub states : Each (λ (x : Target). x.state < n) c.targets
  pub ascend : Along (λ (x y : Target). x.state < y.state) c.targets
  pub name : Each (λ (b : ℕ). (0x21 ≤ b) × (b ≤ 0x7E)) c.name
  pub probabilities : Each (λ (x : Target). ProbabilityRules x.probability) c.targets
  pub whole : sum_over (λ (x : Target). parts_of x.probability) c.targets ≡ 10000

-- 'Sources never descend; choices of a source count up from 0'
unfoldable pub NextChoice : (c d : WrittenChoice) → Type 0
NextChoice c d = ((d.source ≡ c.source) × (d.number ≡ c.number + 1)) ⊎ ((c.source < d.source) × (d.number ≡ 0))

unfoldable pub FirstChoice : List WrittenChoice → Type 0
FirstChoice [] = Unit
FirstChoice (c ∷ cs) = c.number ≡ 0

-- the names 'by first sight', behind those seen before
unfoldable pub names_from : (names : List (List ℕ)) → List WrittenChoice → List (List ℕ)
names_from names [] = names
names_from names (c ∷ cs) = names_from (with_name names c.name) cs

abbrev pub names_of : List WrittenChoice → List (List ℕ)
names_of cs = names_from [] cs

-- the head's numbers are the text's, within the limits; 'm is one more than the names'
pub record TextRules (L : Limits) (h : Head) (cs : List WrittenChoice) : Type 0 where
  pub some_state : 1 ≤ h.states
  pub states : h.states ≤ L.states
  pub choices : length cs ≡ h.choices
  pub most_choices : h.choices ≤ L.transitions
  pub lines : sum_over (λ (c : WrittenChoice). length c.targets) cs ≡ h.transitions
  pub most_lines : h.transitions ≤ L.entries
  pub names : length (names_of cs) < L.actions
  pub each : Each (ChoiceRules h.states) cs
  pub order : Along NextChoice cs
  pub first : FirstChoice cs

unfoldable pub probability_bytes : Probability → List ℕ
probability_bytes one = 0x31 ∷ []
probability_bytes (point ds) = 0x30 ∷ 0x2E ∷ ds

-- 'an optional action name'
unfoldable pub name_bytes : List ℕ → List ℕ
name_bytes [] = []
name_bytes (b ∷ bs) = 0x20 ∷ b ∷ bs

-- 'lines of source, choice, target, probability and an optional action name, parted by single spaces, each line ended by 0A'
unfoldable pub line_bytes : WrittenChoice → Target → List ℕ
line_bytes c x =
    decimal c.source ++ (0x20 ∷ (decimal c.number ++ (0x20 ∷ (decimal x.state ++ (0x20 ∷ (probability_bytes x.probability ++ (name_bytes c.name ++ (0x0A ∷ []))))))))

unfoldable pub lines_bytes : WrittenChoice → List Target → List ℕ
lines_bytes c [] = []
lines_bytes c (x ∷ xs) = line_bytes c x ++ lines_bytes c xs

unfoldable pub choices_bytes : List WrittenChoice → List ℕ
choices_bytes [] = []
choices_bytes (c ∷ cs) = lines_bytes c c.targets ++ choices_bytes cs

-- 'a head line with states, choices and transitions'
unfoldable pub head_line : Head → List ℕ
head_line h = decimal h.states ++ (0x20 ∷ (decimal h.choices ++ (0x20 ∷ (decimal h.transitions ++ (0x0A ∷ [])))))

unfoldable pub text_bytes : Head → List WrittenChoice → List ℕ
text_bytes h cs = head_line h ++ choices_bytes cs

-- a choice as reading has it, but for its place, which the model does not have
unfoldable pub read_choice : (names : List (List ℕ)) → WrittenChoice → Choice
read_choice names c =
    record {
      place = 0;
      source = c.source;
      number = c.number;
      action = action_of names c.name;
      entries = map (λ (x : Target). record { state = x.state; weight = parts_of x.probability }) c.targets;
    }

-- the text is one that K9 allows, and holds the model M
pub record AllowedText (L : Limits) (text : List ℕ) (M : Model) : Type 0 where
  pub head : Head
  pub choices : List WrittenChoice
  pub rules : TextRules L head choices
  pub bytes : text ≡ text_bytes head choices
  pub model : M ≡ held_model head (names_of choices) (map (read_choice (names_of choices)) choices)
