-- Document 02, K9, the other way round: a model written as a text.
use Rattle.std.specs.Prelude.{ℕ, ◌+◌, ◌*◌, ◌/◌, ◌%◌, ◌≤◌, max, ◌≡◌, List, [], ◌∷◌, map, length}
use Rattle.bisimulation.specs.definitions.Choice.{if_same}
use Rattle.numbers.specs.definitions.Decimal.{decimal}
use Rattle.numbers.specs.definitions.Divisor.{Divides}
use Rattle.rules.specs.definitions.Limits.{Limits}
use Rattle.rules.specs.definitions.Model.{Entry, Transition, Model}
use Rattle.rules.specs.definitions.SoundModel.{Each, SoundModel, entry_count, LowestTerms}
use Rattle.prism.specs.definitions.Lines.{Head}
use Rattle.prism.specs.definitions.AllowedText.{Probability, one, point, Target, WrittenChoice, text_bytes}

-- ten-thousandths, 'written 1 or as 0, a point and one to four digits': here four
unfoldable pub four_digits : ℕ → List ℕ
four_digits p = (0x30 + p / 1000) ∷ (0x30 + p / 100 % 10) ∷ (0x30 + p / 10 % 10) ∷ (0x30 + p % 10) ∷ []

unfoldable pub probability_of : (parts : ℕ) → Probability
probability_of p = if_same p 10000 one (point (four_digits p))

-- an entry whose denominator goes g times into 10,000
unfoldable pub target_of : (g : ℕ) → Entry → Target
target_of g e = record { state = e.state; probability = probability_of (e.weight * g) }

-- 'an optional action name': an action's number in decimal; internal has none
unfoldable pub name_of : (action : ℕ) → List ℕ
name_of action = if_same action 0 [] (decimal action)

-- a transition as the choice with a number
unfoldable pub choice_of : (number : ℕ) → Transition → WrittenChoice
choice_of number t =
    record {
      source = t.source;
      number = number;
      name = name_of t.action;
      targets = map (target_of (10000 / t.denominator)) t.entries;
    }

-- 'choices of a source count up from 0': `next` is the number of the next choice of the source `last`
unfoldable pub choices_from : (last next : ℕ) → List Transition → List WrittenChoice
choices_from last next [] = []
choices_from last next (t ∷ ts) =
    choice_of (if_same t.source last next 0) t ∷ choices_from t.source (if_same t.source last next 0 + 1) ts

unfoldable pub head_of : Model → Head
head_of M = record { states = length M.labels; choices = length M.transitions; transitions = entry_count M }

-- the text of a model
unfoldable pub text_of : Model → List ℕ
text_of M = text_bytes (head_of M) (choices_from 0 0 M.transitions)

-- actions are numbered 'from 1 by first sight', after so many that were seen, and all m but internal are seen
unfoldable pub BySight : (seen m : ℕ) → List Transition → Type 0
BySight seen m [] = m ≡ seen + 1
BySight seen m (t ∷ ts) = (t.action ≤ seen + 1) × BySight (max seen t.action) m ts

-- models that a text can hold: 'all labels are 0', each denominator one of fractions with four decimals
pub record Writable (L : Limits) (M : Model) : Type 0 where
  pub sound : SoundModel L M
  pub labels : Each (λ (l : ℕ). l ≡ 0) M.labels
  pub decimals : Each (λ (t : Transition). Divides t.denominator 10000) M.transitions
  pub lowest : Each LowestTerms M.transitions
  pub actions : BySight 0 M.actions M.transitions
