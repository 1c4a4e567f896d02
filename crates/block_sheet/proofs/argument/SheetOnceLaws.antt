-- Every state stands on the sheet exactly once: read back from its bytes.
use Prim.Native.Nat.{ℕ, zero, suc, ◌+◌, ◌*◌, ◌-◌, ◌/◌, ◌%◌, ◌≤◌, ◌<◌}
use Rattle.std.specs.Prelude.{◌≡◌, Bool, true, false, get_or}
use Rattle.std.proofs.Math.Path.{refl, ap, ap₂}
use Rattle.std.proofs.Common.{sym, ◌∙◌, take_all, eq-eqb, ne_eqb}
use mathlib.Core.List.{List, [], ◌∷◌, ◌++◌, append_assoc}
use Rattle.std.proofs.Math.Dec.{eqb}
use Rattle.std.proofs.Math.ListN.{length, take, drop, length-append}
use Rattle.std.proofs.Math.Seq.{drop-append_seam}
use native.Mathlib.Omega.{arith}
use Rattle.std.proofs.Math.Decide.{ℕ_discrete, dec_lt}
use Rattle.bisimulation.specs.definitions.Choice.{if_less, if_same, if_true}
use Rattle.bisimulation.proofs.argument.ChoiceLaws.{less, not_less}
use Rattle.bisimulation.specs.definitions.Pairs.{Pairs}
use Rattle.rules.specs.definitions.SoundModel.{Each}
use Rattle.rules.specs.definitions.BlockCount.{block_count}
use Rattle.rules.proofs.argument.NumberedBlocks.{block-below}
use Rattle.block_sheet.specs.definitions.Sheet.{column, cell, blank, first_cell, cells, line, lines, line_count, ascending, members, size_column, block_lines, sheet_from, sheet}
use Rattle.block_sheet.proofs.argument.SheetLaws.{cell-length, blank-length, front_length, blank-front, line-length, block-length, sheet-length, counts-one, counts-not, times_in, times-append, times-not, times-once}

-- the states on the sheet, in the order of its cells: those of the blocks left from b on
unfoldable pub states_from : List ℕ → (left b : ℕ) → List ℕ
states_from blocks zero b = []
states_from blocks (suc left) b = members blocks b ++ states_from blocks left (b + 1)

module _ (blocks : List ℕ) (u : ℕ) (inside : u < length blocks) where
  abbrev home : ℕ
  home = get_or blocks u 0

  elsewhere : (left b : ℕ) → home < b → times_in u (states_from blocks left b) ≡ 0
  unfolding times_in states_from members
  elsewhere zero b h = refl
  elsewhere (suc left) b h =
      omega (arith, times-append u (members blocks b) (states_from blocks left (b + 1)), times-not (λ v. eqb (get_or blocks v 0) b) u (length blocks) 0 (ne_eqb home b (λ e. omega arith)), elsewhere left (b + 1) (omega arith))

  once-from : (left b : ℕ) → b ≤ home → home < b + left → times_in u (states_from blocks left b) ≡ 1
  unfolding states_from members
  once-from zero b low high = absurd (omega arith)
  once-from (suc left) b low high = go (ℕ_discrete b home) (λ l. once-from left (b + 1) l (omega arith))
    where
      go : Dec (b ≡ home) → (b + 1 ≤ home → times_in u (states_from blocks left (b + 1)) ≡ 1) → times_in u (members blocks b ++ states_from blocks left (b + 1)) ≡ 1
      go (yes e) rest =
          omega (arith, times-append u (members blocks b) (states_from blocks left (b + 1)), times-once (λ v. eqb (get_or blocks v 0) b) u (length blocks) 0 (omega arith) (omega arith) (eq-eqb home b (sym e)), elsewhere left (b + 1) (omega arith))
      go (no n) rest =
          omega (arith, times-append u (members blocks b) (states_from blocks left (b + 1)), times-not (λ v. eqb (get_or blocks v 0) b) u (length blocks) 0 (ne_eqb home b (λ e. n (sym e))), rest (omega arith))

  -- every state stands among the members of the blocks exactly once
  pub each-once : times_in u (states_from blocks (block_count blocks) 0) ≡ 1
  each-once = once-from (block_count blocks) 0 (omega arith) (omega (arith, block-below blocks u inside))

-- what the cell at the front of some bytes shows: one more than its number, 0 where it is blank
unfoldable pub shown : List ℕ → ℕ
shown s =
    if_less (get_or s 3 0) 0x30 0
    (1000 * (get_or s 0 0 - 0x30) + 100 * (get_or s 1 0 - 0x30) + 10 * (get_or s 2 0 - 0x30) + (get_or s 3 0 - 0x30) + 1)

-- what the next cells show
unfoldable pub numbers_in : (left : ℕ) → List ℕ → List ℕ
numbers_in zero s = []
numbers_in (suc left) s = shown s ∷ numbers_in left (drop 4 s)

-- what the 16 cells behind the first 8 columns of each of the next lines show
unfoldable pub numbers_on : (left : ℕ) → List ℕ → List ℕ
numbers_on zero s = []
numbers_on (suc left) s = numbers_in 16 (drop 8 s) ++ numbers_on left (drop 73 s)

-- a cell reads back
digit : (p x : ℕ) → (x < p → x / p % 10 ≡ 0) → column p x - 0x30 ≡ x / p % 10
unfolding column
digit p x none = go (dec_lt x p)
  where
    go : Dec (x < p) → if_less x p 0x20 (0x30 + x / p % 10) - 0x30 ≡ x / p % 10
    go (yes h) = ap (λ (d : ℕ). d - 0x30) (sym (less _ h refl)) ∙ sym (none h)
    go (no n) = ap (λ (d : ℕ). d - 0x30) (sym (not_less _ (omega arith) refl)) ∙ omega arith

digits : (x : ℕ) → x < 10000 → 1000 * (x / 1000 % 10) + 100 * (x / 100 % 10) + 10 * (x / 10 % 10) + x % 10 ≡ x
digits x h =
    let a : x / 100 ≡ x / 10 / 10 = omega arith in
    let b : x / 1000 ≡ x / 100 / 10 = omega arith in
    let c : 10 * (x / 10) + x % 10 ≡ x = omega arith in
    let d : 10 * (x / 100) + x / 10 % 10 ≡ x / 10 = omega arith in
    let e : 10 * (x / 1000) + x / 100 % 10 ≡ x / 100 = omega arith in
    let f : x / 1000 % 10 ≡ x / 1000 = omega arith in
    omega (arith, c, d, e, f)

shown-cell : (x : ℕ) (rest : List ℕ) → x < 10000 → shown (cell x ++ rest) ≡ x + 1
unfolding shown cell
shown-cell x rest h =
    sym (not_less _ (omega arith) (omega (arith, digit 1000 x (λ l. omega arith), digit 100 x (λ l. omega arith), digit 10 x (λ l. omega arith), digits x h)))

shown-blank : (rest : List ℕ) → shown (blank ++ rest) ≡ 0
unfolding shown blank
shown-blank rest = sym (less _ (omega arith) refl)

-- bytes before others
drop-first : (k : ℕ) (xs ys : List ℕ) → length xs ≡ k → drop k (xs ++ ys) ≡ ys
drop-first k xs ys e = ap (λ (n : ℕ). drop n (xs ++ ys)) (sym e) ∙ drop-append_seam xs ys

module _ (u : ℕ) where
  -- a cell shows u where its number is u
  counts : (v : ℕ) → ◌≡◌ {A = ℕ} (if_same (v + 1) (u + 1) 1 0) (if_same v u 1 0)
  counts v = go (ℕ_discrete v u)
    where
      go : Dec (v ≡ u) → ◌≡◌ {A = ℕ} (if_same (v + 1) (u + 1) 1 0) (if_same v u 1 0)
      go (yes e) = counts-one (v + 1) (u + 1) (omega arith) ∙ sym (counts-one v u e)
      go (no n) = counts-not (v + 1) (u + 1) (λ e. n (omega arith)) ∙ sym (counts-not v u n)

  -- the cells of a line show its members
  cells-show : (left : ℕ) (ms rest : List ℕ) → Each (λ (v : ℕ). v < 10000) ms → times_in (u + 1) (numbers_in left (cells left ms ++ rest)) ≡ times_in u (take left ms)
  unfolding cells numbers_in first_cell times_in Each
  cells-show zero ms rest small = refl
  cells-show (suc left) [] rest small =
      let e = append_assoc blank (cells left []) rest in
      let s = ap (λ (l : List ℕ). shown l) e ∙ shown-blank (cells left [] ++ rest) in
      let d = ap (λ (l : List ℕ). drop 4 l) e ∙ drop-first 4 blank (cells left [] ++ rest) blank-length in
      ap₂ (λ (x : ℕ) (l : List ℕ). if_same x (u + 1) 1 0 + times_in (u + 1) (numbers_in left l)) s d
      ∙ omega (arith, counts-not 0 (u + 1) (λ z. omega arith), cells-show left [] rest small, ap (λ (l : List ℕ). times_in u l) (take_none left))
    where
      take_none : (k : ℕ) → take {A = ℕ} k [] ≡ []
      take_none zero = refl
      take_none (suc k) = refl
  cells-show (suc left) (v ∷ vs) rest small =
      let e = append_assoc (cell v) (cells left vs) rest in
      let s = ap (λ (l : List ℕ). shown l) e ∙ shown-cell v (cells left vs ++ rest) small.0 in
      let d = ap (λ (l : List ℕ). drop 4 l) e ∙ drop-first 4 (cell v) (cells left vs ++ rest) (cell-length v) in
      ap₂ (λ (x : ℕ) (l : List ℕ). if_same x (u + 1) 1 0 + times_in (u + 1) (numbers_in left l)) s d
      ∙ omega (arith, counts v, cells-show left vs rest small.1)

  times-split : (a b : ℕ) (xs : List ℕ) → times_in u (take (a + b) xs) ≡ times_in u (take a xs) + times_in u (take b (drop a xs))
  unfolding times_in
  times-split zero b xs = let e : 0 + b ≡ b = omega arith in omega (arith, ap (λ (k : ℕ). times_in u (take k xs)) e)
  times-split (suc a) b [] = let e : suc a + b ≡ suc (a + b) = omega arith in omega (arith, ap (λ (k : ℕ). times_in u (take {A = ℕ} k [])) e, none b)
    where
      none : (k : ℕ) → times_in u (take {A = ℕ} k []) ≡ 0
      none zero = unfold times_in in refl
      none (suc k) = unfold times_in in refl
  times-split (suc a) b (x ∷ xs) = let e : suc a + b ≡ suc (a + b) = omega arith in omega (arith, ap (λ (k : ℕ). times_in u (take k (x ∷ xs))) e, times-split a b xs)

  each-drop : (P : ℕ → Type 0) (k : ℕ) (xs : List ℕ) → Each P xs → Each P (drop k xs)
  unfolding Each
  each-drop P zero xs h = h
  each-drop P (suc k) [] h = tt
  each-drop P (suc k) (x ∷ xs) h = each-drop P k xs h.1

  -- the lines of a block show its members, and those behind them theirs
  lines-show : (k j : ℕ) (front ms rest : List ℕ) → length front ≡ 8 → Each (λ (v : ℕ). v < 10000) ms → times_in (u + 1) (numbers_on (k + j) (lines k front ms ++ rest)) ≡ times_in u (take (16 * k) ms) + times_in (u + 1) (numbers_on j rest)
  unfolding lines line numbers_on times_in
  lines-show zero j front ms rest h small = let e : 0 + j ≡ j = omega arith in ap (λ (n : ℕ). times_in (u + 1) (numbers_on n rest)) e ∙ omega arith
  lines-show (suc k) j front ms rest h small =
      let more = lines k (blank ++ blank) (drop 16 ms) ++ rest in
      let row = cells 16 ms ++ (0x0A ∷ []) in
      let whole : (front ++ row) ++ lines k (blank ++ blank) (drop 16 ms) ++ rest ≡ (front ++ row) ++ more = append_assoc (front ++ row) (lines k (blank ++ blank) (drop 16 ms)) rest in
      let first : (front ++ row) ++ more ≡ front ++ (cells 16 ms ++ ((0x0A ∷ []) ++ more)) =
      append_assoc front row more ∙ ap (λ (l : List ℕ). front ++ l) (append_assoc (cells 16 ms) (0x0A ∷ []) more) in
      let n : suc k + j ≡ suc (k + j) = omega arith in
      let t : 16 * suc k ≡ 16 + 16 * k = omega arith in
      ap (λ (i : ℕ). times_in (u + 1) (numbers_on i ((front ++ row) ++ lines k (blank ++ blank) (drop 16 ms) ++ rest))) n
      ∙ ap₂ (λ (l r : List ℕ). times_in (u + 1) (numbers_in 16 l ++ numbers_on (k + j) r))
      (ap (λ (l : List ℕ). drop 8 l) (whole ∙ first) ∙ drop-first 8 front _ h)
      (ap (λ (l : List ℕ). drop 73 l) whole ∙ drop-first 73 (front ++ row) more (line-length front ms h))
      ∙ omega (
        arith,
        times-append (u + 1) (numbers_in 16 (cells 16 ms ++ ((0x0A ∷ []) ++ more))) (numbers_on (k + j) more),
        cells-show 16 ms ((0x0A ∷ []) ++ more) small,
        lines-show k j (blank ++ blank) (drop 16 ms) rest blank-front (each-drop (λ (v : ℕ). v < 10000) 16 ms small),
        times-split 16 (16 * k) ms,
        ap (λ (i : ℕ). times_in u (take i ms)) t,
      )

-- the members of a block are states
ascending-below : (f : ℕ → Bool) (most left v : ℕ) → v + left ≤ most → Each (λ (u : ℕ). u < most) (ascending f left v)
unfolding ascending Each if_true
ascending-below f most zero v h = tt
ascending-below f most (suc left) v h = go (f v) (ascending-below f most left (v + 1) (omega arith))
  where
    go : (b : Bool) → Each (λ (u : ℕ). u < most) (ascending f left (v + 1)) → Each (λ (u : ℕ). u < most) (if_true b (v ∷ []) [] ++ ascending f left (v + 1))
    go true rest = (omega arith, rest)
    go false rest = rest

module _ (related : Pairs) (blocks : List ℕ) (few : length blocks ≤ 10000) (u : ℕ) where
  small : (b : ℕ) → Each (λ (v : ℕ). v < 10000) (members blocks b)
  unfolding members
  small b = ascending-below _ 10000 (length blocks) 0 (omega arith)

  from-shows : (left b j : ℕ) → 73 * j ≡ length (sheet_from related blocks left b) → times_in (u + 1) (numbers_on j (sheet_from related blocks left b)) ≡ times_in u (states_from blocks left b)
  unfolding sheet_from states_from block_lines line_count numbers_on times_in
  from-shows zero b j h = let e : j ≡ 0 = omega arith in ap (λ (n : ℕ). times_in (u + 1) (numbers_on n [])) e
  from-shows (suc left) b j h =
      let ms = members blocks b in
      let k = (length ms + 15) / 16 in
      let rest = sheet_from related blocks left (b + 1) in
      let front = cell b ++ cell (size_column related blocks b) in
      let size = length-append (lines k front ms) rest in
      let own : length (lines k front ms) ≡ 73 * k = block-length related blocks b in
      let split : j ≡ k + (j - k) = omega arith in
      ap (λ (n : ℕ). times_in (u + 1) (numbers_on n (lines k front ms ++ rest))) split
      ∙ lines-show u k (j - k) front ms rest (front_length b (size_column related blocks b)) (small b)
      ∙ omega (arith, ap (times_in u) (take_all (16 * k) ms (omega arith)), from-shows left (b + 1) (j - k) (omega arith), times-append u ms (states_from blocks left (b + 1)))

  -- every state stands on the sheet exactly once: one cell behind the first 8 columns of one of its lines shows it
  pub stands-once : u < length blocks → times_in (u + 1) (numbers_on (length (sheet related blocks) / 73) (sheet related blocks)) ≡ 1
  unfolding sheet
  stands-once inside = from-shows (block_count blocks) 0 _ (omega (arith, sheet-length related blocks)) ∙ each-once blocks u inside
