-- What the writer of a block's lines writes.
use Rattle.std.specs.Prelude.{ℕ, ◌-◌, ◌≤◌, ◌≡◌, Bool, List, [], ◌∷◌, ◌++◌, drop}
use Rattle.rules.specs.definitions.Limits.{limits}
use Rattle.block_sheet.specs.definitions.Sheet.{first_cell, cells, ascending}
use Rattle.writer.specs.Appends.{Appends}
use Rattle.sheet_lines.specs.declared.Written.{Written}

-- the states from one on of which f holds
abbrev pub members_from : (ℕ → Bool) → ℕ → List ℕ
members_from f from = ascending f (limits.states - from) from

-- so many members were taken, and these bytes written for them
pub record Taken (f : ℕ → Bool) (from count : ℕ) (bytes : List ℕ) (at : ℕ) (before after : List ℕ) (r : Written) : Type 0 where
  pub inside : r.from ≤ limits.states
  pub left : members_from f r.from ≡ drop count (members_from f from)
  pub written : Appends bytes at before after r.next

-- the cell of the first member from a state on
abbrev pub CellTaken : (ℕ → Bool) → (from at : ℕ) (before after : List ℕ) → Written → Type 0
CellTaken f from = Taken f from 1 (first_cell (members_from f from))

-- the cells of a line, and its end
abbrev pub LineTaken : (ℕ → Bool) → (from at : ℕ) (before after : List ℕ) → Written → Type 0
LineTaken f from = Taken f from 16 (cells 16 (members_from f from) ++ (0x0A ∷ []))
