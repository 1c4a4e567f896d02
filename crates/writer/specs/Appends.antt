-- Bytes appended to what stands in a buffer before a place.
use Rattle.std.specs.Prelude.{ℕ, ◌+◌, ◌≤◌, ◌<◌, ◌≡◌, List, [], ◌∷◌, ◌++◌, length, take, drop}
use Rattle.rules.specs.definitions.Bytes.{two_bytes}
use Rattle.rules.specs.definitions.Model.{Transition, Model, transitions_bytes, model_bytes}

-- the bytes stand from a place on, what was before them and what is behind them is as it was; and the place after them
pub record Appends (bytes : List ℕ) (at : ℕ) (before after : List ℕ) (next : ℕ) : Type 0 where
  pub place : next ≡ at + length bytes
  pub room : next ≤ length before
  pub size : length after ≡ length before
  pub written : after ≡ take at before ++ (bytes ++ drop next before)

-- a mark, two fields of one byte and one of two
abbrev pub start_bytes : (mark first second third : ℕ) → List ℕ
start_bytes mark first second third = two_bytes mark ++ (first ∷ second ∷ two_bytes third)

-- 'transition, 54 52, source 1, action 1, d 2, entry count c 1'
abbrev pub fixed_bytes : (source action denominator count : ℕ) → List ℕ
fixed_bytes source action denominator count = 0x54 ∷ 0x52 ∷ source ∷ action ∷ (two_bytes denominator ++ (count ∷ []))

-- 'head, 50 41, n, m, transition count', and the mark of the labels, 4C 42
abbrev pub head_bytes_of : (n m count : ℕ) → List ℕ
head_bytes_of n m count = 0x50 ∷ 0x41 ∷ n ∷ m ∷ (two_bytes count ++ (0x4C ∷ 0x42 ∷ []))

-- the fields fit, and there is room
pub record CanWriteModel (m : ℕ) (labels : List ℕ) (count : ℕ) (records out : List ℕ) : Type 0 where
  pub states : length labels < 256
  pub actions : m < 256
  pub transitions : count < 65536
  pub room : 8 + length labels + length records ≤ length out

-- the file of the model whose transitions these records are stands at the start of the buffer
pub record WritesModel (m : ℕ) (labels : List ℕ) (count : ℕ) (records before after : List ℕ) (next : ℕ) : Type 0 where
  pub file : (ts : List Transition) → records ≡ transitions_bytes ts → count ≡ length ts → Appends (model_bytes (record { actions = m; labels = labels; transitions = ts })) 0 before after next
