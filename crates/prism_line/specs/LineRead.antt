-- What the code knows of a line and of the head.
use Rattle.std.specs.Prelude.{ℕ, ◌≤◌, ◌<◌, ◌≡◌, ◌⊎◌, Bool, false, List, Option, None, Some, MatchOption, eqb, length, drop}
use Rattle.bisimulation.specs.definitions.Choice.{both}
use Rattle.rules.specs.definitions.Limits.{limits}
use Rattle.prism.specs.definitions.Lines as prism
use Rattle.prism.specs.definitions.Lines.{read_line, read_head}
use Rattle.prism.specs.definitions.Reading.{Choice, begun, goes_on}
use Rattle.prism_line.specs.declared.Line.{Line}
use Rattle.prism_line.specs.declared.Rest.{Rest}
use Rattle.prism_line.specs.declared.Whole.{Whole}
use Rattle.prism_line.specs.declared.Head.{Head}

-- the line, where its numbers are all below 65,536
abbrev pub with_target : (source choice : ℕ) → Rest → Option ℕ → Option Whole
with_target a b r None = None
with_target a b r (Some t) =
    Some (record { source = a; choice = b; target = t; parts = r.parts; name = r.name })

abbrev pub with_numbers : (source choice : Option ℕ) → Option Rest → Option Whole
with_numbers None b r = None
with_numbers (Some a) None r = None
with_numbers (Some a) (Some b) None = None
with_numbers (Some a) (Some b) (Some r) = with_target a b r r.target

abbrev pub whole_in : Line → Option Whole
whole_in l = with_numbers l.source l.choice l.rest

-- the line of the definition
abbrev pub line_in : (s : List ℕ) → Whole → prism.Line
line_in s w =
    record { source = w.source; choice = w.choice; target = w.target; parts = w.parts; name = drop w.name s }

-- a line that has the form was read
pub record WholeRead (s : List ℕ) (w : Whole) : Type 0 where
  pub good : read_line s ≡ prism.good (line_in s w)
  pub some : 1 ≤ w.parts
  pub most : w.parts ≤ 10000
  pub inside : w.name ≤ length s

-- it breaks the form, or all that it is read as has this
abbrev pub OnlyLines : (s : List ℕ) → (prism.Line → Type 0) → Type 0
OnlyLines s P = (x : prism.Line) → read_line s ≡ prism.good x → P x

-- no limit is as high as 65,536
abbrev pub Beyond : (source choice : Option ℕ) → prism.Line → Type 0
Beyond None b x = (65536 ≤ x.source) ⊎ (65536 ≤ x.choice)
Beyond (Some a) None x = (65536 ≤ x.source) ⊎ (65536 ≤ x.choice)
Beyond (Some a) (Some b) x = 65536 ≤ x.target

abbrev pub FormRead : (s : List ℕ) → Line → Type 0
FormRead s l = MatchOption (whole_in l) (OnlyLines s (Beyond l.source l.choice)) (WholeRead s)

-- its first two fields are these numbers
abbrev pub are_both : Option ℕ → Option ℕ → (source choice : ℕ) → Bool
are_both None b source choice = false
are_both (Some a) None source choice = false
are_both (Some a) (Some b) source choice = both (eqb a source) (eqb b choice)

abbrev pub begins_so : Line → (source choice : ℕ) → Bool
begins_so l source choice = are_both l.source l.choice source choice

pub record LineRead (s : List ℕ) (l : Line) : Type 0 where
  pub prefix : (c : Choice) → c.source < 65536 → c.number < 65536 → goes_on (begun c) s ≡ begins_so l c.source c.number
  pub form : FormRead s l

-- a number below 65,536 stands for itself, none for every other
abbrev pub NumberTold : ℕ → Option ℕ → Type 0
NumberTold n r = MatchOption r (65536 ≤ n) (λ v. (v ≡ n) × (v < 65536))

-- its values are those of the line, whichever of the numbers are too high
pub record SameLine (s : List ℕ) (l : Line) (r : Rest) (x : prism.Line) : Type 0 where
  pub source : NumberTold x.source l.source
  pub choice : NumberTold x.choice l.choice
  pub target : NumberTold x.target r.target
  pub parts : r.parts ≡ x.parts
  pub name : drop r.name s ≡ x.name

pub record RestTold (s : List ℕ) (l : Line) (r : Rest) : Type 0 where
  pub same : OnlyLines s (SameLine s l r)
  pub some : 1 ≤ r.parts
  pub most : r.parts ≤ 10000
  pub inside : r.name ≤ length s

-- no rest where it breaks the form
abbrev pub LineTold : (s : List ℕ) → Line → Type 0
LineTold s l = MatchOption l.rest (read_line s ≡ prism.broken) (RestTold s l)

-- a head whose numbers keep the limits was read
pub record HeadIs (s : List ℕ) (h : Head) : Type 0 where
  pub good : read_head limits s ≡ prism.head (record { states = h.states; choices = h.choices; transitions = h.transitions })
  pub some : 1 ≤ h.states
  pub states : h.states ≤ limits.states
  pub choices : h.choices ≤ limits.transitions
  pub transitions : h.transitions ≤ limits.entries

-- none where the head is at fault
abbrev pub HeadRead : List ℕ → Option Head → Type 0
HeadRead s r = MatchOption r (read_head limits s ≡ prism.no_head) (HeadIs s)
