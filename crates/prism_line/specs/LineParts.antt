-- What the parts of the reading of a line come to.
use Rattle.std.specs.Prelude.{ℕ, ◌+◌, ◌-◌, ◌≤◌, ◌<◌, ◌≡◌, List, ◌∷◌, Option, MatchOption, length, take, drop}
use Rattle.prism.specs.definitions.Lines as prism
use Rattle.prism.specs.definitions.Lines.{pieces, ten_thousandths, line_by, fields_line}
use Rattle.text_fields.specs.Fields.{number_below, IsBelow}
use Rattle.prism_line.specs.declared.Rest.{Rest}

-- the two first fields of a line end at these places
pub record TwoFields (s : List ℕ) (first second : ℕ) : Type 0 where
  pub order : first < second
  pub within : second < length s
  pub fields : pieces 0x20 s ≡ take first s ∷ take (second - (first + 1)) (drop (first + 1) s) ∷ pieces 0x20 (drop (second + 1) s)

-- these fields of a line behind its two first
pub record RestIs (fields : List (List ℕ)) (s : List ℕ) (r : Rest) : Type 0 where
  pub third : List ℕ
  pub fourth : List ℕ
  pub line : (a b : List ℕ) → fields_line (a ∷ b ∷ fields) ≡ line_by a b third fourth (drop r.name s)
  pub target : IsBelow 65536 (number_below 65536 third) r.target
  pub parts : r.parts ≡ ten_thousandths fourth
  pub some : 1 ≤ r.parts
  pub most : r.parts ≤ 10000
  pub inside : r.name ≤ length s

-- none where they break the form
abbrev pub RestRead : (fields : List (List ℕ)) (s : List ℕ) → Option Rest → Type 0
RestRead fields s r =
    MatchOption r ((a b : List ℕ) → fields_line (a ∷ b ∷ fields) ≡ prism.broken) (RestIs fields s)
