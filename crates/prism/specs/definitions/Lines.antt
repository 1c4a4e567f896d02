-- Document 02, K9: 'Read its text: a head line with states, choices and transitions, then lines of source, choice, target, probability and an
-- optional action name, parted by single spaces, each line ended by 0A.' The lines as values.
use Rattle.std.specs.Prelude.{ℕ, ◌*◌, ◌-◌, ◌^◌, Bool, true, false, List, [], ◌∷◌, length}
use Rattle.bisimulation.specs.definitions.Choice.{if_less, if_same, if_true, unless_true}
use Rattle.numbers.specs.definitions.Decimal.{all_digits, value_of, is_number}
use Rattle.rules.specs.definitions.Limits.{Limits}

-- a byte in front of the first piece
unfoldable pub start_with : ℕ → List (List ℕ) → List (List ℕ)
start_with b [] = (b ∷ []) ∷ []
start_with b (p ∷ ps) = (b ∷ p) ∷ ps

-- the pieces between the bytes that part them: one more than there are such bytes, so the last is empty where the bytes end with one
unfoldable pub pieces : (parting : ℕ) → List ℕ → List (List ℕ)
pieces parting [] = [] ∷ []
pieces parting (b ∷ bs) = if_same b parting ([] ∷ pieces parting bs) (start_with b (pieces parting bs))

-- 'one to four digits' behind the point, in ten-thousandths; 0 where they are not
unfoldable pub fraction : List ℕ → ℕ
fraction ds = if_less 4 (length ds) 0 (if_true (all_digits ds) (value_of ds * 10 ^ (4 - length ds)) 0)

-- 'Probabilities are written 1 or as 0, a point and one to four digits, not all zero', in ten-thousandths; 0 for all else
unfoldable pub ten_thousandths : List ℕ → ℕ
ten_thousandths [] = 0
ten_thousandths (b ∷ []) = if_same b 0x31 10000 0
ten_thousandths (b ∷ c ∷ ds) = if_same b 0x30 (if_same c 0x2E (fraction ds) 0) 0

-- bytes '21 to 7E hexadecimal'
unfoldable pub all_shown : List ℕ → Bool
all_shown [] = true
all_shown (b ∷ bs) = if_less b 0x21 false (if_less 0x7E b false (all_shown bs))

-- 'Names are one or more bytes 21 to 7E hexadecimal'
unfoldable pub is_name : List ℕ → Bool
is_name [] = false
is_name (b ∷ bs) = all_shown (b ∷ bs)

-- a line: 'source, choice, target, probability' in ten-thousandths, 'and an optional action name', empty where there is none
pub record Line : Type 0 where
  pub source : ℕ
  pub choice : ℕ
  pub target : ℕ
  pub parts : ℕ
  pub name : List ℕ

pub data ReadLine : Type 0 where
  good : Line → ReadLine
  broken : ReadLine

-- its four first fields, with a name or none
unfoldable pub line_by : (source choice target probability name : List ℕ) → ReadLine
line_by s c t p name =
    unless_true (is_number s) broken
    (unless_true (is_number c) broken
    (unless_true (is_number t) broken
    (if_same (ten_thousandths p) 0 broken
    (good (record { source = value_of s; choice = value_of c; target = value_of t; parts = ten_thousandths p; name = name })))))

unfoldable pub fields_line : List (List ℕ) → ReadLine
fields_line (s ∷ c ∷ t ∷ p ∷ []) = line_by s c t p []
fields_line (s ∷ c ∷ t ∷ p ∷ name ∷ []) = unless_true (is_name name) broken (line_by s c t p name)
fields_line (s ∷ c ∷ t ∷ p ∷ name ∷ more ∷ fields) = broken
fields_line (s ∷ c ∷ t ∷ []) = broken
fields_line (s ∷ c ∷ []) = broken
fields_line (s ∷ []) = broken
fields_line [] = broken

-- 'parted by single spaces'
unfoldable pub read_line : List ℕ → ReadLine
read_line bytes = fields_line (pieces 0x20 bytes)

-- 'a head line with states, choices and transitions'
pub record Head : Type 0 where
  pub states : ℕ
  pub choices : ℕ
  pub transitions : ℕ

pub data ReadHead : Type 0 where
  head : Head → ReadHead
  no_head : ReadHead

-- 'A head whose states, choices or transitions pass the model's limits for states, transitions or entries, or with 0 states, is itself the line at
-- fault'
unfoldable pub head_by : Limits → (states choices transitions : List ℕ) → ReadHead
head_by L n c t =
    unless_true (is_number n) no_head
    (unless_true (is_number c) no_head
    (unless_true (is_number t) no_head
    (if_same (value_of n) 0 no_head
    (if_less L.states (value_of n) no_head
    (if_less L.transitions (value_of c) no_head
    (if_less L.entries (value_of t) no_head
    (head (record { states = value_of n; choices = value_of c; transitions = value_of t }))))))))

unfoldable pub fields_head : Limits → List (List ℕ) → ReadHead
fields_head L (n ∷ c ∷ t ∷ []) = head_by L n c t
fields_head L (n ∷ c ∷ t ∷ more ∷ fields) = no_head
fields_head L (n ∷ c ∷ []) = no_head
fields_head L (n ∷ []) = no_head
fields_head L [] = no_head

unfoldable pub read_head : Limits → List ℕ → ReadHead
read_head L bytes = fields_head L (pieces 0x20 bytes)
