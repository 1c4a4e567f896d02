-- Laws of the sheet: its length, its members and its size column.
use Prim.Native.Nat.{ℕ, zero, suc, ◌+◌, ◌*◌, ◌≤◌, ◌<◌}
use Rattle.std.specs.Prelude.{◌≡◌, Bool, drop}
use Rattle.std.proofs.Math.Path.{refl, ap}
use Rattle.std.proofs.Common.{sym, ◌∙◌, ap₂, eqb-true, eq-eqb, ne_eqb}
use Rattle.std.proofs.Math.Bool.{true, false}
use mathlib.Core.List.{List, [], ◌∷◌, ◌++◌}
use Rattle.std.proofs.Math.Dec.{eqb}
use Rattle.std.proofs.Math.ListN.{length, get_or, length-append}
use native.Mathlib.Omega.{arith}
use Rattle.std.proofs.Math.Decide.{ℕ_discrete}
use Rattle.bisimulation.specs.definitions.Choice.{if_same, if_true, count_below}
use Rattle.bisimulation.proofs.argument.ChoiceLaws.{same, not_same, is_true, is_false, false-not, count_below_cong}
use Rattle.bisimulation.specs.definitions.Sum.{sum}
use Rattle.bisimulation.proofs.argument.SumLaws.{sum_add, sum_mono, sum_zero}
use Rattle.bisimulation.specs.definitions.Pairs.{Pairs}
use Rattle.rules.specs.definitions.Certificate.{same_block}
use Rattle.rules.specs.definitions.BlockCount.{block_count}
use Rattle.rules.proofs.argument.LargestBlocks.{Numbered}
use Rattle.rules.proofs.argument.NumberedBlocks.{each-block}
use Rattle.block_sheet.specs.definitions.Sheet.{column, cell, blank, first_cell, cells, line, lines, line_count, ascending, members, size_column, block_lines, sheet_from, sheet}

-- how long each part is
pub cell-length : (x : ℕ) → length (cell x) ≡ 4
unfolding cell
cell-length x = refl

pub blank-length : length blank ≡ 4
unfolding blank
blank-length = refl

pub first-length : (ms : List ℕ) → length (first_cell ms) ≡ 4
unfolding first_cell
first-length [] = blank-length
first-length (v ∷ vs) = cell-length v

pub cells-length : (left : ℕ) (ms : List ℕ) → length (cells left ms) ≡ 4 * left
unfolding cells
cells-length zero ms = refl
cells-length (suc left) ms = omega (arith, length-append (first_cell ms) (cells left (drop 1 ms)), first-length ms, cells-length left (drop 1 ms))

pub line-length : (front ms : List ℕ) → length front ≡ 8 → length (line front ms) ≡ 73
unfolding line
line-length front ms h = omega (arith, length-append front (cells 16 ms ++ (0x0A ∷ [])), length-append (cells 16 ms) (0x0A ∷ []), cells-length 16 ms)

pub front_length : (b size : ℕ) → length (cell b ++ cell size) ≡ 8
front_length b size = omega (arith, length-append (cell b) (cell size), cell-length b, cell-length size)

pub blank-front : length (blank ++ blank) ≡ 8
blank-front = omega (arith, length-append blank blank, blank-length)

pub lines-length : (left : ℕ) (front ms : List ℕ) → length front ≡ 8 → length (lines left front ms) ≡ 73 * left
unfolding lines
lines-length zero front ms h = refl
lines-length (suc left) front ms h =
    omega (arith, length-append (line front ms) (lines left (blank ++ blank) (drop 16 ms)), line-length front ms h, lines-length left (blank ++ blank) (drop 16 ms) blank-front)

-- 16 members fill a line
pub line-count : (size : ℕ) → (size ≤ 16 * line_count size) × (16 * line_count size < size + 16)
unfolding line_count
line-count size = omega arith

-- how many lines a block has
abbrev pub lines_of : List ℕ → ℕ → ℕ
lines_of blocks b = line_count (length (members blocks b))

module _ (related : Pairs) (blocks : List ℕ) where
  pub block-length : (b : ℕ) → length (block_lines related blocks b) ≡ 73 * lines_of blocks b
  unfolding block_lines
  block-length b = lines-length (lines_of blocks b) _ (members blocks b) (front_length b (size_column related blocks b))

  pub from-length : (left b : ℕ) → 73 * sum b (lines_of blocks) + length (sheet_from related blocks left b) ≡ 73 * sum (b + left) (lines_of blocks)
  unfolding sheet_from sum
  from-length zero b = let e : b ≡ b + 0 = omega arith in omega (arith, ap (λ (n : ℕ). sum n (lines_of blocks)) e)
  from-length (suc left) b =
      let e : b + 1 ≡ suc b = omega arith in
      let f : b + 1 + left ≡ b + suc left = omega arith in
      omega (arith, length-append (block_lines related blocks b) (sheet_from related blocks left (b + 1)), block-length b, from-length left (b + 1), ap (λ (n : ℕ). sum n (lines_of blocks)) e, ap (λ (n : ℕ). sum n (lines_of blocks)) f)

  -- 73 bytes a line, and a line for each 16 members of each block
  pub sheet-length : length (sheet related blocks) ≡ 73 * sum (block_count blocks) (lines_of blocks)
  unfolding sheet sum
  sheet-length = let e : 0 + block_count blocks ≡ block_count blocks = omega arith in omega (arith, from-length (block_count blocks) 0, ap (λ (n : ℕ). sum n (lines_of blocks)) e)

-- the numbers of which a test holds
module _ (f : ℕ → Bool) where
  pub ascending-here : (left v : ℕ) → f v ≡ true → ascending f (suc left) v ≡ v ∷ ascending f left (v + 1)
  unfolding ascending
  ascending-here left v h = ap (λ (l : List ℕ). l ++ ascending f left (v + 1)) (sym (is_true _ h refl))

  pub ascending-not : (left v : ℕ) → f v ≡ false → ascending f (suc left) v ≡ ascending f left (v + 1)
  unfolding ascending
  ascending-not left v h = ap (λ (l : List ℕ). l ++ ascending f left (v + 1)) (sym (is_false _ h refl))

  -- there are as many as it holds of
  pub ascending-count : (left v : ℕ) → count_below v f + length (ascending f left v) ≡ count_below (v + left) f
  unfolding count_below ascending if_true
  ascending-count zero v = let e : v ≡ v + 0 = omega arith in omega (arith, ap (λ (n : ℕ). count_below n f) e)
  ascending-count (suc left) v = go (f v) refl (ascending-count left (v + 1))
    where
      next : (b : Bool) → f v ≡ b → count_below (v + 1) f ≡ count_below v f + if_true b 1 0
      next b q = let e : v + 1 ≡ suc v = omega arith in ap (λ (n : ℕ). count_below n f) e ∙ ap (λ (t : Bool). count_below v f + if_true t 1 0) q

      go : (b : Bool) → f v ≡ b → count_below (v + 1) f + length (ascending f left (v + 1)) ≡ count_below (v + 1 + left) f → count_below v f + length (if_true b (v ∷ []) [] ++ ascending f left (v + 1)) ≡ count_below (v + suc left) f
      go true q h = let e : v + 1 + left ≡ v + suc left = omega arith in omega (arith, h, next true q, ap (λ (n : ℕ). count_below n f) e)
      go false q h = let e : v + 1 + left ≡ v + suc left = omega arith in omega (arith, h, next false q, ap (λ (n : ℕ). count_below n f) e)

  -- and no more than are left
  pub ascending-few : (left v : ℕ) → length (ascending f left v) ≤ left
  unfolding ascending if_true
  ascending-few zero v = omega arith
  ascending-few (suc left) v = go (f v) (ascending-few left (v + 1))
    where
      go : (b : Bool) → length (ascending f left (v + 1)) ≤ left → length (if_true b (v ∷ []) [] ++ ascending f left (v + 1)) ≤ suc left
      go true h = omega arith
      go false h = omega arith

  -- the first of them
  pub record FirstOf (left v u : ℕ) : Type 0 where
    pub from : v ≤ u
    pub among : u < v + left
    pub holds : f u ≡ true

  pub ascending-first : (left v : ℕ) → 0 < length (ascending f left v) → FirstOf left v (get_or (ascending f left v) 0 0)
  unfolding ascending if_true
  ascending-first zero v h = absurd (omega arith)
  ascending-first (suc left) v h = go (f v) refl h (ascending-first left (v + 1))
    where
      go : (b : Bool) → f v ≡ b → 0 < length (if_true b (v ∷ []) [] ++ ascending f left (v + 1)) → (0 < length (ascending f left (v + 1)) → FirstOf left (v + 1) (get_or (ascending f left (v + 1)) 0 0)) → FirstOf (suc left) v (get_or (if_true b (v ∷ []) [] ++ ascending f left (v + 1)) 0 0)
      go true q h rest = record { from = omega arith; among = omega arith; holds = q }
      go false q h rest = let r = rest h in record { from = omega (arith, r.from); among = omega (arith, r.among); holds = r.holds }

-- numbers of which f does not hold are passed over
pub skipped : (f : ℕ → Bool) (gap left v : ℕ) → ((i : ℕ) → v ≤ i → i < v + gap → f i ≡ false) → ascending f (gap + left) v ≡ ascending f left (v + gap)
skipped f zero left v none =
    let e : 0 + left ≡ left = omega arith in let g : v ≡ v + 0 = omega arith in ap₂ (λ (k w : ℕ). ascending f k w) e g
skipped f (suc gap) left v none =
    let e : suc gap + left ≡ suc (gap + left) = omega arith in
    let g : v + 1 + gap ≡ v + suc gap = omega arith in
    ap (λ (k : ℕ). ascending f k v) e
    ∙ ascending-not f (gap + left) v (none v (omega arith) (omega arith))
    ∙ skipped f gap left (v + 1) (λ i low high. none i (omega arith) (omega arith))
    ∙ ap (λ (w : ℕ). ascending f left w) g

-- and those behind the last are none
pub ascending-ends : (f : ℕ → Bool) (n more v : ℕ) → ((u : ℕ) → v + n ≤ u → f u ≡ false) → ascending f (n + more) v ≡ ascending f n v
unfolding ascending
ascending-ends f zero more v none =
    let e : 0 + more ≡ more + 0 = omega arith in
    ap (λ (k : ℕ). ascending f k v) e ∙ skipped f more 0 v (λ u low high. none u (omega arith))
ascending-ends f (suc n) more v none =
    let e : suc n + more ≡ suc (n + more) = omega arith in
    ap (λ (k : ℕ). ascending f k v) e
    ∙ ap (λ (l : List ℕ). if_true (f v) (v ∷ []) [] ++ l) (ascending-ends f n more (v + 1) (λ u above. none u (omega arith)))

-- tests that agree give the same numbers
pub ascending-cong : (f g : ℕ → Bool) (left v : ℕ) → ((u : ℕ) → v ≤ u → u < v + left → f u ≡ g u) → ascending f left v ≡ ascending g left v
unfolding ascending
ascending-cong f g zero v h = refl
ascending-cong f g (suc left) v h =
    ap₂ (λ (b : Bool) (l : List ℕ). if_true b (v ∷ []) [] ++ l) (h v (omega arith) (omega arith)) (ascending-cong f g left (v + 1) (λ u low high. h u (omega arith) (omega arith)))

-- one number counted in another's place
pub counts-one : (v u : ℕ) → v ≡ u → ◌≡◌ {A = ℕ} (if_same v u 1 0) 1
counts-one v u e = sym (same _ e refl)

pub counts-not : (v u : ℕ) → (v ≡ u → ⊥) → ◌≡◌ {A = ℕ} (if_same v u 1 0) 0
counts-not v u n = sym (not_same _ n refl)

-- how often a number stands in a list
unfoldable pub times_in : ℕ → List ℕ → ℕ
times_in u [] = 0
times_in u (x ∷ xs) = if_same x u 1 0 + times_in u xs

pub times-append : (u : ℕ) (xs ys : List ℕ) → times_in u (xs ++ ys) ≡ times_in u xs + times_in u ys
unfolding times_in
times-append u [] ys = omega arith
times-append u (x ∷ xs) ys = omega (arith, times-append u xs ys)

module _ (f : ℕ → Bool) (u : ℕ) where
  -- a number below those left, or of which the test does not hold, stands nowhere among them; any other of them once
  times-before : (left v : ℕ) → u < v → times_in u (ascending f left v) ≡ 0
  unfolding times_in ascending if_true
  times-before zero v h = refl
  times-before (suc left) v h = go (f v) (times-before left (v + 1) (omega arith))
    where
      go : (b : Bool) → times_in u (ascending f left (v + 1)) ≡ 0 → times_in u (if_true b (v ∷ []) [] ++ ascending f left (v + 1)) ≡ 0
      go true rest = omega (arith, rest, counts-not v u (λ e. omega arith))
      go false rest = rest

  pub times-not : (left v : ℕ) → f u ≡ false → times_in u (ascending f left v) ≡ 0
  unfolding times_in ascending if_true
  times-not zero v h = refl
  times-not (suc left) v h = go (f v) refl (times-not left (v + 1) h)
    where
      go : (b : Bool) → f v ≡ b → times_in u (ascending f left (v + 1)) ≡ 0 → times_in u (if_true b (v ∷ []) [] ++ ascending f left (v + 1)) ≡ 0
      go true q rest = omega (arith, rest, counts-not v u (λ e. false-not (sym h ∙ ap f (sym e) ∙ q)))
      go false q rest = rest

  pub times-once : (left v : ℕ) → v ≤ u → u < v + left → f u ≡ true → times_in u (ascending f left v) ≡ 1
  unfolding times_in ascending if_true
  times-once zero v low high h = absurd (omega arith)
  times-once (suc left) v low high h = go (f v) refl (ℕ_discrete v u) (λ l. times-once left (v + 1) l (omega arith) h)
    where
      go : (b : Bool) → f v ≡ b → Dec (v ≡ u) → (v + 1 ≤ u → times_in u (ascending f left (v + 1)) ≡ 1) → times_in u (if_true b (v ∷ []) [] ++ ascending f left (v + 1)) ≡ 1
      go true q (yes e) rest = omega (arith, counts-one v u e, times-before left (v + 1) (omega arith))
      go true q (no n) rest = omega (arith, counts-not v u n, rest (omega arith))
      go false q (yes e) rest = absurd (false-not (sym q ∙ ap f e ∙ h))
      go false q (no n) rest = rest (omega arith)

turned : (a b : ℕ) → eqb a b ≡ eqb b a
turned a b = go (ℕ_discrete a b)
  where
    go : Dec (a ≡ b) → eqb a b ≡ eqb b a
    go (yes e) = eq-eqb a b e ∙ sym (eq-eqb b a (sym e))
    go (no n) = ne_eqb a b n ∙ sym (ne_eqb b a (λ e. n (sym e)))

-- the states that share a block with v are the members of its block
module _ (blocks : List ℕ) where
  pub members-few : (b : ℕ) → length (members blocks b) ≤ length blocks
  unfolding members
  members-few b = ascending-few _ (length blocks) 0

  pub shared-member : (v u : ℕ) {b : ℕ} → get_or blocks v 0 ≡ b → same_block blocks v u ≡ eqb (get_or blocks u 0) b
  unfolding same_block
  shared-member v u {b} home = ap (λ (x : ℕ). eqb x (get_or blocks u 0)) home ∙ turned b (get_or blocks u 0)

  pub shared-count : (v b : ℕ) → get_or blocks v 0 ≡ b → count_below (length blocks) (same_block blocks v) ≡ length (members blocks b)
  unfolding members count_below
  shared-count v b home =
      count_below_cong (length blocks) (same_block blocks v) (λ u. eqb (get_or blocks u 0) b) (λ u below. shared-member v u home)
      ∙ omega (arith, ascending-count (λ u. eqb (get_or blocks u 0) b) (length blocks) 0, ap (λ (k : ℕ). count_below k (λ u. eqb (get_or blocks u 0) b)) (zero-plus (length blocks)))
    where
      zero-plus : (n : ℕ) → 0 + n ≡ n
      zero-plus n = omega arith

-- where the pairs still related are those that share a block
pub record SharedAsRelated (related : Pairs) (blocks : List ℕ) : Type 0 where
  pub pair : (v u : ℕ) → v < length blocks → u < length blocks → related v u ≡ same_block blocks v u

module _ (related : Pairs) (blocks : List ℕ) (shared : SharedAsRelated related blocks) where
  -- the size column of a block is the number of its members
  pub size-members : (b : ℕ) → 0 < length (members blocks b) → size_column related blocks b ≡ length (members blocks b)
  unfolding size_column members
  size-members b some =
      let f = ascending-first (λ v. eqb (get_or blocks v 0) b) (length blocks) 0 some in
      let v = get_or (members blocks b) 0 0 in
      let inside : v < length blocks = omega (arith, f.among) in
      count_below_cong (length blocks) (related v) (same_block blocks v) (λ u below. shared.pair v u inside below) ∙ shared-count blocks v b (eqb-true _ _ f.holds)

-- a block of numbered blocks has a member
pub some-member : (blocks : List ℕ) → Numbered (length blocks) blocks → 1 ≤ length blocks → (b : ℕ) → b < block_count blocks → 0 < length (members blocks b)
unfolding members
some-member blocks numbered some b below = let e = each-block blocks numbered some b below in go e.0 e.1 e.2
  where
    positive : (xs : List ℕ) (u : ℕ) → times_in u xs ≡ 1 → 0 < length xs
    positive [] u e = unfold times_in in absurd (omega (arith, e))
    positive (x ∷ xs) u e = omega arith

    go : (v : ℕ) → v < length blocks → get_or blocks v 0 ≡ b → 0 < length (ascending (λ v. eqb (get_or blocks v 0) b) (length blocks) 0)
    go v inside home = positive _ v (times-once (λ v. eqb (get_or blocks v 0) b) v (length blocks) 0 (omega arith) (omega arith) (eq-eqb (get_or blocks v 0) b home))

-- so the sheet can be made from the blocks alone
from-same : (related other : Pairs) (blocks : List ℕ) (left b : ℕ) → ((c : ℕ) → b ≤ c → c < b + left → size_column related blocks c ≡ size_column other blocks c) → sheet_from related blocks left b ≡ sheet_from other blocks left b
unfolding sheet_from block_lines
from-same related other blocks zero b h = refl
from-same related other blocks (suc left) b h =
    ap₂ (λ (size : ℕ) (l : List ℕ). lines (line_count (length (members blocks b))) (cell b ++ cell size) (members blocks b) ++ l)
    (h b (omega arith) (omega arith)) (from-same related other blocks left (b + 1) (λ c low high. h c (omega arith) (omega arith)))

pub sheet-same : (related : Pairs) (blocks : List ℕ) → SharedAsRelated related blocks → Numbered (length blocks) blocks → 1 ≤ length blocks → sheet related blocks ≡ sheet (same_block blocks) blocks
unfolding sheet
sheet-same related blocks shared numbered some =
    from-same related (same_block blocks) blocks (block_count blocks) 0
    (λ c low high.
    let member = some-member blocks numbered some c (omega arith) in
    size-members related blocks shared c member ∙ sym (size-members (same_block blocks) blocks (record { pair = λ v u h l. refl }) c member))

-- all blocks together have no more members than there are states
one-most : (k x : ℕ) → sum k (λ b. if_true (eqb x b) 1 0) ≤ 1
unfolding sum
one-most zero x = omega arith
one-most (suc k) x = go (ℕ_discrete x k) (one-most k x)
  where
    apart : (b : ℕ) → (x ≡ b → ⊥) → ◌≡◌ {A = ℕ} (if_true (eqb x b) 1 0) 0
    apart b n = sym (is_false 1 (ne_eqb x b n) refl)

    go : Dec (x ≡ k) → sum k (λ b. if_true (eqb x b) 1 0) ≤ 1 → sum k (λ b. if_true (eqb x b) 1 0) + if_true (eqb x k) 1 0 ≤ 1
    go (yes e) ih =
        let last : ◌≡◌ {A = ℕ} 1 (if_true (eqb x k) 1 0) = is_true 0 (eq-eqb x k e) refl in
        omega (arith, sum_zero k (λ b. if_true (eqb x b) 1 0) (λ b l. apart b (omega arith)), last)
    go (no n) ih = omega (arith, ih, apart k n)

counted : (blocks : List ℕ) (k n : ℕ) → sum k (λ b. count_below n (λ v. eqb (get_or blocks v 0) b)) ≤ n
unfolding count_below
counted blocks k zero = omega (arith, sum_zero k (λ b. 0) (λ b l. refl))
counted blocks k (suc n) =
    omega (arith, sum_add k (λ b. count_below n (λ v. eqb (get_or blocks v 0) b)) (λ b. if_true (eqb (get_or blocks n 0) b) 1 0), counted blocks k n, one-most k (get_or blocks n 0))

-- so a sheet has no more lines than there are states
pub sheet-most : (related : Pairs) (blocks : List ℕ) → length (sheet related blocks) ≤ 73 * length blocks
unfolding members count_below
sheet-most related blocks =
    let n = length blocks in
    omega (arith, sheet-length related blocks, sum_mono (block_count blocks) (lines_of blocks) (λ b. count_below n (λ v. eqb (get_or blocks v 0) b)) (λ b l. few b), counted blocks (block_count blocks) n)
  where
    few : (b : ℕ) → lines_of blocks b ≤ count_below (length blocks) (λ v. eqb (get_or blocks v 0) b)
    few b =
        let f : ℕ → Bool = λ v. eqb (get_or blocks v 0) b in
        let all : 0 + length blocks ≡ length blocks = omega arith in
        omega (arith, line-count (length (members blocks b)), ascending-count f (length blocks) 0, ap (λ (k : ℕ). count_below k f) all)
