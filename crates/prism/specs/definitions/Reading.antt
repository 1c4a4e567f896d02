-- Document 02, K9: the lines of a text in their order, as choices; 31 and 32, and where each is judged.
use Rattle.std.specs.Prelude.{ℕ, ◌+◌, Bool, true, false, List, [], ◌∷◌, ◌++◌, length}
use Rattle.bisimulation.specs.definitions.Choice.{if_less, if_same, if_true, unless_less, unless_same, unless_true}
use Rattle.numbers.specs.definitions.Decimal.{decimal}
use Rattle.rules.specs.definitions.Limits.{Limits}
use Rattle.rules.specs.definitions.Model.{Entry}
use Rattle.rules.specs.definitions.SoundModel.{sum_over}
use Rattle.prism.specs.definitions.Lines.{pieces, Line, ReadLine, good, broken, read_line, Head, ReadHead, head, no_head, read_head}

-- two runs of bytes are the same
unfoldable pub same_bytes : List ℕ → List ℕ → Bool
same_bytes [] [] = true
same_bytes [] (c ∷ cs) = false
same_bytes (b ∷ bs) [] = false
same_bytes (b ∷ bs) (c ∷ cs) = if_same b c (same_bytes bs cs) false

-- the second begins with the first
unfoldable pub begins_with : List ℕ → List ℕ → Bool
begins_with [] bs = true
begins_with (a ∷ rest) [] = false
begins_with (a ∷ rest) (b ∷ bs) = if_same a b (begins_with rest bs) false

-- where a name stands among those seen, counted from 1; one more than they are where it is new
unfoldable pub place_among : (names : List (List ℕ)) → (name : List ℕ) → ℕ
place_among [] name = 1
place_among (x ∷ xs) name = if_true (same_bytes x name) 1 (1 + place_among xs name)

-- 'Names become action numbers from 1 by first sight, a line without one is internal'
unfoldable pub action_of : (names : List (List ℕ)) → (name : List ℕ) → ℕ
action_of names [] = 0
action_of names (b ∷ bs) = place_among names (b ∷ bs)

-- the names seen, with one more where it is new
unfoldable pub with_name : (names : List (List ℕ)) → (name : List ℕ) → List (List ℕ)
with_name names name = if_less (length names) (action_of names name) (names ++ (name ∷ [])) names

-- a choice: the place of its first line, its source, its number among the choices of this source, its action, and its targets with
-- ten-thousandths
pub record Choice : Type 0 where
  pub place : ℕ
  pub source : ℕ
  pub number : ℕ
  pub action : ℕ
  pub entries : List Entry

-- what its probabilities add up to, in ten-thousandths
unfoldable pub total_of : Choice → ℕ
total_of c = sum_over (λ (e : Entry). e.weight) c.entries

-- the target of its last line
unfoldable pub last_target : List Entry → ℕ
last_target [] = 0
last_target (e ∷ []) = e.state
last_target (e ∷ f ∷ es) = last_target (f ∷ es)

pub data Pending : Type 0 where
  none : Pending
  begun : Choice → Pending

-- what was read so far: how many lines, the names by first sight, the choices that ended, and the one that has begun
pub record Progress : Type 0 where
  pub lines : ℕ
  pub names : List (List ℕ)
  pub ended : List Choice
  pub pending : Pending

abbrev pub nothing_read : Progress
nothing_read = record { lines = 0; names = []; ended = []; pending = none }

-- all choices
unfoldable pub choices_with : List Choice → Pending → List Choice
choices_with ended none = ended
choices_with ended (begun c) = ended ++ (c ∷ [])

unfoldable pub choices_of : Progress → List Choice
choices_of r = choices_with r.ended r.pending

-- 'begin with its source and choice, each followed by a space'
unfoldable pub goes_on : Pending → List ℕ → Bool
goes_on none bytes = false
goes_on (begun c) bytes = begins_with (decimal c.source ++ (0x20 ∷ (decimal c.number ++ (0x20 ∷ [])))) bytes

-- 'Sources never descend; choices of a source count up from 0': the line begins the next choice
unfoldable pub follows : Pending → Line → Bool
follows none x = if_same x.choice 0 true false
follows (begun c) x =
    if_same x.source c.source
    (if_same x.choice (c.number + 1) true false)
    (if_less c.source x.source (if_same x.choice 0 true false) false)

-- 'states lie below the head's count'; and a limit: the line is one of the entries
unfoldable pub fits : Limits → Head → Progress → Line → Bool
fits L h r x =
    unless_less x.source h.states false
    (unless_less x.target h.states false
    (if_less r.lines L.entries true false))

-- a line that begins a choice; limits: the choice is one of the transitions, its name one of the actions
unfoldable pub begins : Limits → Head → Progress → Line → Bool
begins L h r x =
    unless_true (fits L h r x) false
    (unless_true (follows r.pending x) false
    (unless_less (length (choices_of r)) L.transitions false
    (if_less (length (with_name r.names x.name)) L.actions true false)))

-- one that goes on with it: 'targets strictly ascend within a choice, and one choice has one name or none'; its name is among those seen, so the
-- action tells it
unfoldable pub extends : Limits → Head → Progress → Choice → Line → Bool
extends L h r c x =
    unless_true (fits L h r x) false
    (unless_less (last_target c.entries) x.target false
    (if_same (action_of r.names x.name) c.action true false))

abbrev pub entry_of : Line → Entry
entry_of x = record { state = x.target; weight = x.parts }

-- what has been read with it
unfoldable pub with_begun : Progress → (place : ℕ) → Line → Progress
with_begun r place x =
    record {
      lines = r.lines + 1;
      names = with_name r.names x.name;
      ended = choices_of r;
      pending = begun (record { place = place; source = x.source; number = x.choice; action = action_of r.names x.name; entries = entry_of x ∷ [] });
    }

unfoldable pub with_extended : Progress → Choice → Line → Progress
with_extended r c x =
    record {
      lines = r.lines + 1;
      names = r.names;
      ended = r.ended;
      pending = begun (record { place = c.place; source = c.source; number = c.number; action = c.action; entries = c.entries ++ (entry_of x ∷ []) });
    }

-- what a text holds: the head and its choices, with the names; or a refusal and its place
pub data ReadText : Type 0 where
  holds : Head → (names : List (List ℕ)) → List Choice → ReadText
  refused_at : (number place : ℕ) → ReadText

-- '32, a choice does not add up to 1, at its first line, judged at the text's end or before a line that does not begin with its source and choice,
-- each followed by a space, ahead of 31 there'; else what follows
unfoldable pub unless_total : Pending → List ℕ → ReadText → ReadText
unless_total none bytes next = next
unless_total (begun c) bytes next = if_true (goes_on (begun c) bytes) next (unless_same (total_of c) 10000 (refused_at 32 c.place) next)

-- '31 .. at the text's end where choices or transitions differ from the head'
unfoldable pub at_end : Head → Progress → (place : ℕ) → ReadText
at_end h r place =
    unless_same (length (choices_of r)) h.choices (refused_at 31 place)
    (unless_same r.lines h.transitions (refused_at 31 place)
    (holds h r.names (choices_of r)))

-- what is behind the last 0A: nothing, or a line that is not ended
unfoldable pub last_piece : Head → Progress → (place : ℕ) → List ℕ → ReadText
last_piece h r place [] = at_end h r place
last_piece h r place (b ∷ bs) = refused_at 31 place

-- whether a line may stand here, and what has been read with it
pub data Step : Type 0 where
  read : Progress → Step
  fault : Step

unfoldable pub step_on : Limits → Head → Progress → Choice → Line → Step
step_on L h r c x = unless_true (extends L h r c x) fault (read (with_extended r c x))

unfoldable pub step_begins : Limits → Head → Progress → (place : ℕ) → Line → Step
step_begins L h r place x = unless_true (begins L h r x) fault (read (with_begun r place x))

-- a line that begins with the pending choice's source and number goes on with it, every other begins a choice
unfoldable pub step_by : Limits → Head → Progress → (place : ℕ) → List ℕ → Pending → Line → Step
step_by L h r place bytes none x = step_begins L h r place x
step_by L h r place bytes (begun c) x = if_true (goes_on (begun c) bytes) (step_on L h r c x) (step_begins L h r place x)

unfoldable pub step_read : Limits → Head → Progress → (place : ℕ) → List ℕ → ReadLine → Step
step_read L h r place bytes broken = fault
step_read L h r place bytes (good x) = step_by L h r place bytes r.pending x

unfoldable pub step : Limits → Head → Progress → (place : ℕ) → List ℕ → Step
step L h r place bytes = step_read L h r place bytes (read_line bytes)

-- '31, a line breaks this form or a limit, at its first byte'; else what follows is read
unfoldable pub after_step : Step → (place : ℕ) → (Progress → ReadText) → ReadText
after_step fault place next = refused_at 31 place
after_step (read r) place next = next r

-- the line at a place, and the pieces behind it
unfoldable pub read_lines : Limits → Head → Progress → (place : ℕ) → List ℕ → List (List ℕ) → ReadText
read_lines L h r place bytes [] = unless_total r.pending bytes (last_piece h r place bytes)
read_lines L h r place bytes (following ∷ more) =
    unless_total r.pending bytes
    (after_step (step L h r place bytes) place (λ next. read_lines L h next (place + length bytes + 1) following more))

unfoldable pub read_headed : Limits → ReadHead → (next : ℕ) → List ℕ → List (List ℕ) → ReadText
read_headed L no_head next bytes more = refused_at 31 0
read_headed L (head h) next bytes more = read_lines L h nothing_read next bytes more

-- the head line, which must be ended too, and the lines behind it
unfoldable pub read_pieces : Limits → List (List ℕ) → ReadText
read_pieces L [] = refused_at 31 0
read_pieces L (first ∷ []) = refused_at 31 0
read_pieces L (first ∷ bytes ∷ more) = read_headed L (read_head L first) (length first + 1) bytes more

-- 'each line ended by 0A'
unfoldable pub read_prism : Limits → List ℕ → ReadText
read_prism L text = read_pieces L (pieces 0x0A text)
