-- Document 02, K4: 'Project folders want the blocks on paper.' The sheet of blocks and of the pairs that are still related, byte by byte.
use Rattle.std.specs.Prelude.{ℕ, zero, suc, ◌+◌, ◌/◌, ◌%◌, Bool, List, [], ◌∷◌, ◌++◌, eqb, length, drop, get_or}
use Rattle.bisimulation.specs.definitions.Choice.{if_less, if_true, count_below}
use Rattle.bisimulation.specs.definitions.Pairs.{Pairs}
use Rattle.rules.specs.definitions.BlockCount.{block_count}

-- 'All are right-aligned': a number's column of the place value p, its digit, or a space where the number is below p
unfoldable pub column : (p x : ℕ) → ℕ
column p x = if_less x p 0x20 (0x30 + x / p % 10)

-- a number in 4 columns; the last digit always stands
unfoldable pub cell : ℕ → List ℕ
cell x = column 1000 x ∷ column 100 x ∷ column 10 x ∷ (0x30 + x % 10) ∷ []

-- 4 spaces
unfoldable pub blank : List ℕ
blank = 0x20 ∷ 0x20 ∷ 0x20 ∷ 0x20 ∷ []

-- the cell of the first of the members left: 'unused cells are spaces'
unfoldable pub first_cell : List ℕ → List ℕ
first_cell [] = blank
first_cell (v ∷ vs) = cell v

-- 'up to 16 member states in 4 each', for the cells left in a line
unfoldable pub cells : (left : ℕ) → (members : List ℕ) → List ℕ
cells zero members = []
cells (suc left) members = first_cell members ++ cells left (drop 1 members)

-- 'Each line has 72 characters and a newline (byte 0A)': the first 8, and the members left in 16 cells
unfoldable pub line : (front members : List ℕ) → List ℕ
line front members = front ++ (cells 16 members ++ (0x0A ∷ []))

-- the lines left of a block: 'Further lines of a block leave the first 8 columns blank'
unfoldable pub lines : (left : ℕ) → (front members : List ℕ) → List ℕ
lines zero front members = []
lines (suc left) front members = line front members ++ lines left (blank ++ blank) (drop 16 members)

-- how many lines so many members take
unfoldable pub line_count : ℕ → ℕ
line_count size = (size + 15) / 16

-- the numbers of which f holds, of those left from v on, in ascending order
unfoldable pub ascending : (ℕ → Bool) → (left v : ℕ) → List ℕ
ascending f zero v = []
ascending f (suc left) v = if_true (f v) (v ∷ []) [] ++ ascending f left (v + 1)

-- 'members ascend': the states of a block
unfoldable pub members : List ℕ → ℕ → List ℕ
members blocks b = ascending (λ v. eqb (get_or blocks v 0) b) (length blocks) 0

-- 'The size column is the count of states still related to the block's first member'
unfoldable pub size_column : Pairs → List ℕ → ℕ → ℕ
size_column related blocks b = count_below (length blocks) (related (get_or (members blocks b) 0 0))

-- a block: 'block number in 4 columns, then its size in 4', then its members
unfoldable pub block_lines : Pairs → List ℕ → ℕ → List ℕ
block_lines related blocks b =
    lines (line_count (length (members blocks b))) (cell b ++ cell (size_column related blocks b)) (members blocks b)

-- 'blocks ascend': the blocks left from b on
unfoldable pub sheet_from : Pairs → List ℕ → (left b : ℕ) → List ℕ
sheet_from related blocks zero b = []
sheet_from related blocks (suc left) b = block_lines related blocks b ++ sheet_from related blocks left (b + 1)

-- the sheet
unfoldable pub sheet : Pairs → List ℕ → List ℕ
sheet related blocks = sheet_from related blocks (block_count blocks) 0
