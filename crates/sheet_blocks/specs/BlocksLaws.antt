-- Laws of the walk over the states: a state whose block is new is the first member of the next block.
use Prim.Native.Nat.{ℕ, suc, ◌+◌, ◌*◌, ◌-◌, ◌≤◌, ◌<◌}
use Rattle.std.specs.Prelude.{◌≡◌, get_or}
use Rattle.std.proofs.Math.Path.{refl, ap, ap₂}
use Rattle.std.proofs.Common.{sym, ◌∙◌, subst, length-append, below_more}
use mathlib.Core.List.{List, [], ◌++◌}
use Rattle.std.proofs.Math.Dec.{eqb}
use Rattle.std.proofs.Math.ListN.{length}
use native.Mathlib.Omega.{arith}
use Rattle.std.proofs.Math.Decide.{ℕ_discrete, dec_lt}
use Rattle.bisimulation.specs.definitions.Choice.{count_below}
use Rattle.bisimulation.proofs.argument.ChoiceLaws.{count_below_cong}
use Rattle.bisimulation.specs.definitions.Sum.{sum}
use Rattle.rules.specs.definitions.Limits.{limits}
use Rattle.rules.specs.definitions.Certificate.{same_block}
use Rattle.rules.specs.definitions.BlockCount.{block_count}
use Rattle.rules.proofs.argument.LargestBlocks.{Numbered}
use Rattle.rules.proofs.argument.NumberedBlocks.{block-below, each-block, count_most}
use Rattle.pairs.specs.Rows.{row_bits, row_bit}
use Rattle.pairs.specs.RowsLaws.{count_held}
use Rattle.classes.specs.Classes.{same_labels, SmallBytes}
use Rattle.block_sheet.specs.definitions.Sheet.{cell, lines, line_count, ascending, members, block_lines, sheet_from}
use Rattle.block_sheet.specs.definitions.Sheet as paper
use Rattle.block_sheet.proofs.argument.SheetLaws.{lines_of, block-length, sheet-length, ascending-ends, ascending-cong, members-few, shared-member, shared-count, size-members, some-member}
use Rattle.sheet_lines.specs.Lines.{members_from}
use Rattle.writer.specs.Appends.{Appends}
use Rattle.writer.specs.AppendsLaws.{append-none, Ahead, ahead-start, ahead-turn, ahead-end}
use Rattle.sheet_blocks.specs.declared.Counted.{Counted}
use Rattle.sheet_blocks.specs.declared.Put.{Put}
use Rattle.sheet_blocks.specs.Blocks.{sheet_of, lines_from, ModelBlocks, BlocksInRows, Seen, AtState, CountedAt, PutAt}

-- block numbers are numbers of rows
pub small-blocks : (blocks : List ℕ) → ModelBlocks blocks → SmallBytes (length blocks) blocks
small-blocks blocks m =
    record { small = λ u h. omega (arith, block-below blocks u h, count_most blocks m.numbered m.some, m.few) }

-- the blocks seen: none, one more, no more, all
pub seen_none : (blocks : List ℕ) → Seen blocks 0 0
seen_none blocks = record { below = λ u h. absurd (omega arith); each = λ b h. absurd (omega arith) }

module _ {blocks : List ℕ} {v seen : ℕ} (s : Seen blocks v seen) where
  seen-new : get_or blocks v 0 ≡ seen → Seen blocks (v + 1) (seen + 1)
  seen-new e =
      record {
        below = below_more (λ (u : ℕ). get_or blocks u 0 < seen + 1) v (λ u h. omega (arith, s.below u h)) (omega arith);
        each = λ b h. go b h (ℕ_discrete b seen);
      }
    where
      go : (b : ℕ) → b < seen + 1 → Dec (b ≡ seen) → (u : ℕ) × (u < v + 1) × (get_or blocks u 0 ≡ b)
      go b h (yes q) = (v, omega arith, e ∙ sym q)
      go b h (no n) = let f = s.each b (omega arith) in (f.0, omega (arith, f.1), f.2)

  seen-old : Numbered (length blocks) blocks → v < length blocks → (get_or blocks v 0 ≡ seen → ⊥) → Seen blocks (v + 1) seen
  seen-old numbered inside n =
      record {
        below = below_more (λ (u : ℕ). get_or blocks u 0 < seen) v s.below (go (dec_lt seen (get_or blocks v 0)));
        each = λ b h. let f = s.each b h in (f.0, omega (arith, f.1), f.2);
      }
    where
      go : Dec (seen < get_or blocks v 0) → get_or blocks v 0 < seen
      go (no l) = omega (arith, n)
      go (yes l) = let a = numbered.appears v inside seen l in absurd (omega (arith, a.2, s.below a.0 a.1))

pub seen_all : {blocks : List ℕ} {seen : ℕ} → ModelBlocks blocks → Seen blocks (length blocks) seen → seen ≡ block_count blocks
seen_all {blocks} {seen} m s = go (dec_lt seen (block_count blocks)) (dec_lt (block_count blocks) seen)
  where
    go : Dec (seen < block_count blocks) → Dec (block_count blocks < seen) → seen ≡ block_count blocks
    go (yes l) d = let a = each-block blocks m.numbered m.some seen l in absurd (omega (arith, a.2, s.below a.0 a.1))
    go (no n) (yes l) = let a = s.each (block_count blocks) l in absurd (omega (arith, a.2, block-below blocks a.0 a.1))
    go (no n) (no l) = omega arith

-- rows hold no bit beyond the states
module _ {blocks rows : List ℕ} (r : BlocksInRows blocks rows) (v b : ℕ) (inside : v < length blocks) (home : get_or blocks v 0 ≡ b) where
  as-block : (u : ℕ) → same_labels blocks v u ≡ same_block blocks v u
  unfolding same_labels same_block
  as-block u = refl

  -- so the members in a row are those of the block
  row-members : members_from (row_bit rows v) 0 ≡ members blocks b
  unfolding members
  row-members =
      let few = r.model.few in
      let e : limits.states - 0 ≡ length blocks + (limits.states - length blocks) = omega arith in
      ap (λ (k : ℕ). ascending (row_bit rows v) k 0) e
      ∙ ascending-ends (row_bit rows v) (length blocks) (limits.states - length blocks) 0 (λ u above. r.holds.rest v u inside (omega arith))
      ∙ ascending-cong (row_bit rows v) (λ u. eqb (get_or blocks u 0) b) (length blocks) 0
      (λ u low high. r.holds.bits v u inside (omega arith) ∙ as-block u ∙ shared-member blocks v u home)

  -- and its bits are counted by them
  pub row-size : count_below row_bits (row_bit rows v) ≡ length (members blocks b)
  row-size =
      count_held r.holds r.model.few v inside
      ∙ count_below_cong (length blocks) (same_labels blocks v) (same_block blocks v) (λ u below. as-block u)
      ∙ shared-count blocks v b home

  below-count : b < block_count blocks
  below-count = subst (λ (x : ℕ). x < block_count blocks) home (block-below blocks v inside)

  size-some : 0 < length (members blocks b)
  size-some = some-member blocks r.model.numbered r.model.some b below-count

  pub size_fits : (0 < length (members blocks b)) × (length (members blocks b) ≤ limits.states)
  size_fits = (size-some, omega (arith, members-few blocks b, r.model.few))

  -- the lines of the block, from its row
  pub row-lines : (size : ℕ) → size ≡ length (members blocks b) → lines (line_count size) (cell b ++ cell size) (members_from (row_bit rows v) 0) ≡ block_lines (same_block blocks) blocks b
  unfolding block_lines
  row-lines size e =
      ap₂ (λ (k : ℕ) (l : List ℕ). lines (line_count k) (cell b ++ cell k) l) e row-members
      ∙ ap (λ (k : ℕ). lines (lines_of blocks b) (cell b ++ cell k) (members blocks b)) (sym (size-members (same_block blocks) blocks (record { pair = λ w u h l. refl }) b size-some))

-- the lines for the blocks from one on: its own, and those behind it
lines-from : (blocks : List ℕ) (b : ℕ) → b < block_count blocks → lines_from blocks b ≡ block_lines (same_block blocks) blocks b ++ lines_from blocks (b + 1)
unfolding sheet_from
lines-from blocks b h =
    let e : block_count blocks - b ≡ suc (block_count blocks - (b + 1)) = omega arith in
    ap (λ (k : ℕ). sheet_from (same_block blocks) blocks k b) e

-- at a state whose block was seen, nothing is counted and nothing written
module _ {blocks rows : List ℕ} {v seen : ℕ} (a : AtState blocks rows v seen) where
  module _ (old : get_or blocks v 0 ≡ seen → ⊥) where
    pub counted_none : CountedAt blocks v seen (record { bytes = 0; seen = seen })
    counted_none = record { known = seen-old a.known a.in_rows.model.numbered a.inside old; bytes = omega arith; few = omega arith }

    pub put-none : (at : ℕ) (out : List ℕ) → at ≤ length out → PutAt blocks v seen at out out (record { next = at; seen = seen })
    put-none at out h =
        record {
          known = seen-old a.known a.in_rows.model.numbered a.inside old;
          lines = [];
          left = refl;
          written = append-none out at h;
        }

  -- at one whose block is new, that block
  pub new-few : get_or blocks v 0 ≡ seen → seen < limits.states
  new-few new = omega (arith, (small-blocks blocks a.in_rows.model).small v a.inside, new)

  module _ (new : get_or blocks v 0 ≡ seen) {size : ℕ} (counts : size ≡ count_below row_bits (row_bit rows v)) where
    is-size : size ≡ length (members blocks seen)
    is-size = counts ∙ row-size a.in_rows v seen a.inside new

    pub new-size : (0 < size) × (size ≤ limits.states)
    new-size = let f = size_fits a.in_rows v seen a.inside new in (omega (arith, f.0, is-size), omega (arith, f.1, is-size))

    pub counted-new : (bytes : ℕ) → bytes ≡ 73 * line_count size → CountedAt blocks v seen (record { bytes = bytes; seen = seen + 1 })
    unfolding sum line_count
    counted-new bytes e =
        let next : seen + 1 ≡ suc seen = omega arith in
        record {
          known = seen-new a.known new;
          bytes = omega (arith, ap (λ (k : ℕ). sum k (lines_of blocks)) next, e, ap line_count is-size);
          few = omega (arith, e, new-size.1);
        }

    own-lines : length (block_lines (same_block blocks) blocks seen) ≡ 73 * line_count size
    own-lines = block-length (same_block blocks) blocks seen ∙ ap (λ (k : ℕ). 73 * line_count k) (sym is-size)

    is-next : lines_from blocks seen ≡ block_lines (same_block blocks) blocks seen ++ lines_from blocks (seen + 1)
    is-next = lines-from blocks seen (below-count a.in_rows v seen a.inside new)

    pub new-room : (at room : ℕ) → at + length (lines_from blocks seen) ≤ room → at + 73 * line_count size ≤ room
    new-room at room h =
        omega (arith, h, ap length is-next, length-append (block_lines (same_block blocks) blocks seen) (lines_from blocks (seen + 1)), own-lines)

    pub put-new : {at next : ℕ} {before after : List ℕ} → Appends (lines (line_count size) (cell seen ++ cell size) (members_from (row_bit rows v) 0)) at before after next → PutAt blocks v seen at before after (record { next = next; seen = seen + 1 })
    put-new {at} {next} {before} {after} p =
        record {
          known = seen-new a.known new;
          lines = block_lines (same_block blocks) blocks seen;
          left = is-next;
          written = subst (λ (l : List ℕ). Appends l at before after next) (row-lines a.in_rows v seen a.inside new size is-size) p;
        }

-- what is known before each state whose block is counted
pub record Counting (blocks : List ℕ) (total seen v : ℕ) : Type 0 where
  pub inside : v ≤ length blocks
  pub known : Seen blocks v seen
  pub is : total ≡ 73 * sum seen (lines_of blocks)
  pub few : total ≤ 10000 * v

pub counting-start : (blocks : List ℕ) → Counting blocks 0 0 0
unfolding sum
counting-start blocks = record { inside = omega arith; known = seen_none blocks; is = refl; few = omega arith }

pub counting-turn : {blocks : List ℕ} {total seen v : ℕ} {r : Counted} → Counting blocks total seen v → v < length blocks → CountedAt blocks v seen r → Counting blocks (total + r.bytes) r.seen (v + 1)
counting-turn h inside c =
    record {
      inside = omega arith;
      known = c.known;
      is = omega (arith, h.is, c.bytes);
      few = omega (arith, h.few, c.few);
    }

pub counting-end : {blocks : List ℕ} {total seen v : ℕ} → ModelBlocks blocks → Counting blocks total seen v → length blocks ≤ v → total ≡ length (sheet_of blocks)
counting-end {blocks} {total} {seen} {v} m h past =
    let all : v ≡ length blocks = omega (arith, h.inside) in
    let e = seen_all m (subst (λ (k : ℕ). Seen blocks k seen) all h.known) in
    h.is ∙ ap (λ (k : ℕ). 73 * sum k (lines_of blocks)) e ∙ sym (sheet-length (same_block blocks) blocks)

-- what is known before each state whose block is written
pub record Writing (blocks before : List ℕ) (next seen v : ℕ) (out : List ℕ) : Type 0 where
  pub inside : v ≤ length blocks
  pub known : Seen blocks v seen
  pub room : next + length (lines_from blocks seen) ≤ length out
  pub ahead : Ahead (sheet_of blocks) 0 before (lines_from blocks seen) next out

pub writing_start : (blocks out : List ℕ) → length (sheet_of blocks) ≤ length out → Writing blocks out 0 0 0 out
unfolding paper.sheet
writing_start blocks out h =
    let e : block_count blocks ≡ block_count blocks - 0 = omega arith in
    let all : sheet_of blocks ≡ lines_from blocks 0 = ap (λ (k : ℕ). sheet_from (same_block blocks) blocks k 0) e in
    record {
      inside = omega arith;
      known = seen_none blocks;
      room = omega (arith, ap length all);
      ahead = subst (λ (l : List ℕ). Ahead (sheet_of blocks) 0 out l 0 out) all (ahead-start (omega arith));
    }

pub writing-turn : {blocks before : List ℕ} {next seen v : ℕ} {out more : List ℕ} {r : Put} → Writing blocks before next seen v out → v < length blocks → PutAt blocks v seen next out more r → Writing blocks before r.next r.seen (v + 1) more
writing-turn {blocks} {r = r} h inside p =
    record {
      inside = omega arith;
      known = p.known;
      room = omega (arith, h.room, ap length p.left, length-append p.lines (lines_from blocks r.seen), p.written.place, p.written.size);
      ahead = ahead-turn h.ahead p.left p.written;
    }

pub writing-end : {blocks before : List ℕ} {next seen v : ℕ} {out : List ℕ} → ModelBlocks blocks → Writing blocks before next seen v out → length blocks ≤ v → Appends (sheet_of blocks) 0 before out next
unfolding sheet_from
writing-end {blocks} {before} {next} {seen} {v} m h past =
    let all : v ≡ length blocks = omega (arith, h.inside) in
    let e = seen_all m (subst (λ (k : ℕ). Seen blocks k seen) all h.known) in
    let none : block_count blocks - seen ≡ 0 = omega arith in
    ahead-end h.ahead (ap (λ (k : ℕ). sheet_from (same_block blocks) blocks k seen) none)
