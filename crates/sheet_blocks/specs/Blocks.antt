-- What the writer of the sheet needs and promises.
use Rattle.std.specs.Prelude.{ℕ, ◌+◌, ◌*◌, ◌-◌, ◌≤◌, ◌<◌, ◌≡◌, List, ◌++◌, length, get_or}
use Rattle.bisimulation.specs.definitions.Sum.{sum}
use Rattle.rules.specs.definitions.Limits.{limits}
use Rattle.rules.specs.definitions.Certificate.{same_block}
use Rattle.rules.specs.definitions.BlockCount.{block_count}
use Rattle.rules.proofs.argument.LargestBlocks.{Numbered}
use Rattle.pairs.specs.Rows.{HoldsPairs}
use Rattle.classes.specs.Classes.{same_labels}
use Rattle.block_sheet.specs.definitions.Sheet.{sheet_from}
use Rattle.block_sheet.specs.definitions.Sheet as paper
use Rattle.block_sheet.proofs.argument.SheetLaws.{lines_of}
use Rattle.writer.specs.Appends.{Appends}
use Rattle.sheet_blocks.specs.declared.Counted.{Counted}
use Rattle.sheet_blocks.specs.declared.Put.{Put}

-- the sheet of blocks, the states of a block being those still related
abbrev pub sheet_of : List ℕ → List ℕ
sheet_of blocks = paper.sheet (same_block blocks) blocks

-- its lines for the blocks from one on
abbrev pub lines_from : List ℕ → ℕ → List ℕ
lines_from blocks seen = sheet_from (same_block blocks) blocks (block_count blocks - seen) seen

-- blocks of a model, numbered by first appearance
pub record ModelBlocks (blocks : List ℕ) : Type 0 where
  pub some : 1 ≤ length blocks
  pub few : length blocks ≤ limits.states
  pub numbered : Numbered (length blocks) blocks

-- and the rows of the states that share one
pub record BlocksInRows (blocks rows : List ℕ) : Type 0 where
  pub model : ModelBlocks blocks
  pub holds : HoldsPairs (length blocks) (same_labels blocks) rows

-- the blocks of the first v states are those below seen
pub record Seen (blocks : List ℕ) (v seen : ℕ) : Type 0 where
  pub below : (u : ℕ) → u < v → get_or blocks u 0 < seen
  pub each : (b : ℕ) → b < seen → (u : ℕ) × (u < v) × (get_or blocks u 0 ≡ b)

-- at the state v
pub record AtState (blocks rows : List ℕ) (v seen : ℕ) : Type 0 where
  pub in_rows : BlocksInRows blocks rows
  pub inside : v < length blocks
  pub known : Seen blocks v seen

-- the bytes of the block that is new there
pub record CountedAt (blocks : List ℕ) (v seen : ℕ) (r : Counted) : Type 0 where
  pub known : Seen blocks (v + 1) r.seen
  pub bytes : 73 * sum r.seen (lines_of blocks) ≡ 73 * sum seen (lines_of blocks) + r.bytes
  pub few : r.bytes ≤ 10000

-- the lines of the block that is new there are written
pub record PutAt (blocks : List ℕ) (v seen at : ℕ) (before after : List ℕ) (r : Put) : Type 0 where
  pub known : Seen blocks (v + 1) r.seen
  pub lines : List ℕ
  pub left : lines_from blocks seen ≡ lines ++ lines_from blocks r.seen
  pub written : Appends lines at before after r.next
