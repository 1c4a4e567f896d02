-- The laws of the rows.
use Prim.Native.Nat.{ℕ, zero, suc, ◌+◌, ◌-◌, ◌*◌, ◌/◌, ◌%◌, ◌^◌, ◌≤◌, ◌<◌}
use Rattle.std.specs.Prelude.{◌≡◌, Bool, Option, None, Some, List, length, set, replicate}
use Rattle.std.specs.Option.{unwrap_or}
use Rattle.std.proofs.Math.Path.{refl, sym, ap, ap₂}
use Rattle.std.proofs.Common.{◌∙◌, subst, arith, add-zero, add-suc}
use Rattle.std.proofs.Math.Bool.{true, false, cond}
use Rattle.std.proofs.Math.Decide.{ℕ_discrete, dec_lt}
use Rattle.std.proofs.Math.Dec.{eqb}
use Rattle.std.proofs.Math.ListN.{get_or, length-set}
use Rattle.std.proofs.lemmas.List.{length-replicate, get_or-replicate}
use Rattle.std.proofs.Math.Seq.{get_or-set_same, get_or-set_other}
use borrow.Author.Tests.{eqb-true, eqb-false}
use Rattle.bisimulation.specs.definitions.Choice.{both, if_true, count_below}
use Rattle.bisimulation.proofs.argument.ChoiceLaws.{less, not_less, false-not, count_below_cong, count-above}
use Rattle.bisimulation.specs.definitions.Pairs.{Pairs, is_pair, removed}
use Rattle.rules.specs.definitions.Limits.{limits}
use Rattle.limits.specs.Sizes.{row_words}
use Rattle.word.specs.Bits.{word_bits, bit_of, put_bit, AreSame, IsNextBelow}
use Rattle.word.specs.BitsLaws.{bit_of-none, bit_of-put, bit_of-other}
use Rattle.pairs.specs.Rows.{row_bits, word_of, bit_in, row_bit, word_at, IsPart, NoRows, HoldsPairs, put_rows, cleared_rows, related_rows, removed_rows, copied_rows, IsNext, IsNextState}

-- the bit of u stands in the first word of a row, or in the second
in-first : (v u : ℕ) → u < word_bits → (word_of v u ≡ 2 * v + 0) × (bit_in u ≡ u)
unfolding word_of bit_in
in-first v u h = (omega (arith, less {X = ℕ} {z = 0} 1 h refl), sym (less (u - word_bits) h refl))

in-second : (v u : ℕ) → word_bits ≤ u → (word_of v u ≡ 2 * v + 1) × (bit_in u ≡ u - word_bits)
unfolding word_of bit_in
in-second v u h = (omega (arith, not_less {X = ℕ} {z = 1} 0 h refl), sym (not_less u h refl))

-- the machine's `u % w` and `2 * v + u / w`, with w the bits of a word
pub bit-place : (u : ℕ) → u < row_bits → u % word_bits ≡ bit_in u
bit-place u h = go (dec_lt u word_bits)
  where
    go : Dec (u < word_bits) → u % word_bits ≡ bit_in u
    go (yes l) = omega (arith, (in-first 0 u l).1)
    go (no l) = omega (arith, (in-second 0 u (omega arith)).1)

module _ (v u : ℕ) where
  pub word-place : u < row_bits → 2 * v + u / word_bits ≡ word_of v u
  word-place h = go (dec_lt u word_bits)
    where
      go : Dec (u < word_bits) → 2 * v + u / word_bits ≡ word_of v u
      go (yes l) = omega (arith, (in-first v u l).0)
      go (no l) = omega (arith, (in-second v u (omega arith)).0)

  -- the words of a row are among those of all rows
  word-inside : v < limits.states → word_of v u < row_words
  word-inside h = go (dec_lt u word_bits)
    where
      go : Dec (u < word_bits) → word_of v u < row_words
      go (yes l) = omega (arith, (in-first v u l).0)
      go (no l) = omega (arith, (in-second v u (omega arith)).0)

-- the word and the place in it tell the pair
one_place : (v u s t : ℕ) → word_of v u ≡ word_of s t → bit_in u ≡ bit_in t → (v ≡ s) × (u ≡ t)
one_place v u s t e f = go (dec_lt u word_bits) (dec_lt t word_bits)
  where
    go : Dec (u < word_bits) → Dec (t < word_bits) → (v ≡ s) × (u ≡ t)
    go (yes l) (yes k) = let (a, b) = in-first v u l in let (c, d) = in-first s t k in (omega arith, omega arith)
    go (yes l) (no k) = let a = (in-first v u l).0 in let c = (in-second s t (omega arith)).0 in absurd (omega arith)
    go (no l) (yes k) = let a = (in-second v u (omega arith)).0 in let c = (in-first s t k).0 in absurd (omega arith)
    go (no l) (no k) =
        let (a, b) = in-second v u (omega arith) in
        let (c, d) = in-second s t (omega arith) in
        (omega arith, omega arith)

-- the bits of a row, by its words
module _ (rows : List ℕ) (v : ℕ) where
  first-is : {x : ℕ} → x ≡ word_at rows v 0 → (i : ℕ) → i < word_bits → row_bit rows v i ≡ bit_of x i
  unfolding row_bit word_at
  first-is e i h = ap₂ (λ (k j : ℕ). bit_of (get_or rows k 0) j) (in-first v i h).0 (in-first v i h).1 ∙ ap (λ (z : ℕ). bit_of z i) (sym e)

  second_is : {x : ℕ} → x ≡ word_at rows v 1 → (i : ℕ) → word_bits ≤ i → row_bit rows v i ≡ bit_of x (i - word_bits)
  unfolding row_bit word_at
  second_is e i h = ap₂ (λ (k j : ℕ). bit_of (get_or rows k 0) j) (in-second v i h).0 (in-second v i h).1 ∙ ap (λ (z : ℕ). bit_of z (i - word_bits)) (sym e)

  on-is : {x : ℕ} → x ≡ word_at rows v 1 → (i : ℕ) → row_bit rows v (word_bits + i) ≡ bit_of x i
  on-is {x} e i = let f : (word_bits + i) - word_bits ≡ i = omega arith in second_is e (word_bits + i) (omega arith) ∙ ap (bit_of x) f

  pub part-is : (k : ℕ) {x : ℕ} → k < 2 → x ≡ word_at rows v k → IsPart rows v (k * word_bits) x
  part-is k {x} h e = go (ℕ_discrete k 0)
    where
      go : Dec (k ≡ 0) → IsPart rows v (k * word_bits) x
      go (yes p) =
          record { bits = λ i l. let j : i ≡ k * word_bits + i = omega arith in sym (first-is (e ∙ ap (word_at rows v) p) i l) ∙ ap (row_bit rows v) j }
      go (no o) =
          let one : k ≡ 1 = omega arith in
          record { bits = λ i l. let j : word_bits + i ≡ k * word_bits + i = omega arith in sym (on-is (e ∙ ap (word_at rows v) one) i) ∙ ap (row_bit rows v) j }

-- no pair is related where every word is 0
pub none-related : NoRows (replicate row_words 0)
unfolding row_bit
none-related =
    record {
      whole = length-replicate {A = ℕ} row_words 0;
      bits = λ v u h. ap (λ (x : ℕ). bit_of x (bit_in u)) (get_or-replicate {A = ℕ} row_words (word_of v u) 0 0 (word-inside v u h)) ∙ bit_of-none (bit_in u);
    }

-- the bit that is read
pub bit-read : (rows : List ℕ) (v u : ℕ) {i k : ℕ} {r : Bool} → i ≡ word_of v u → k ≡ bit_in u → r ≡ bit_of (get_or rows i 0) k → r ≡ row_bit rows v u
unfolding row_bit
bit-read rows v u p q e = rw (e, p, q) refl

-- the store that puts a bit
pub put-stored : (d v u : ℕ) (rows : List ℕ) {i k x : ℕ} → i ≡ word_of v u → k ≡ bit_in u → x ≡ put_bit d (get_or rows i 0) k → set rows i x ≡ put_rows d v u rows
unfolding put_rows
put-stored d v u rows p q e = rw (e, p, q) refl

-- one bit is put, and no other
module _ (d s t : ℕ) (rows : List ℕ) (bit : d < 2) (inside : word_of s t < length rows) where
  put-here : row_bit (put_rows d s t rows) s t ≡ eqb d 1
  unfolding row_bit put_rows
  put-here =
      ap (λ (x : ℕ). bit_of x (bit_in t)) (get_or-set_same rows (word_of s t) (put_bit d (get_or rows (word_of s t) 0) (bit_in t)) 0 inside)
      ∙ bit_of-put d (get_or rows (word_of s t) 0) (bit_in t) bit

  put_other : (v u : ℕ) → ((v ≡ s) × (u ≡ t) → ⊥) → row_bit (put_rows d s t rows) v u ≡ row_bit rows v u
  unfolding row_bit put_rows
  put_other v u o = go (ℕ_discrete (word_of v u) (word_of s t))
    where
      word : ℕ
      word = put_bit d (get_or rows (word_of s t) 0) (bit_in t)

      go : Dec (word_of v u ≡ word_of s t) → bit_of (get_or (set rows (word_of s t) word) (word_of v u) 0) (bit_in u) ≡ bit_of (get_or rows (word_of v u) 0) (bit_in u)
      go (yes p) =
          ap (λ (k : ℕ). bit_of (get_or (set rows (word_of s t) word) k 0) (bit_in u)) p
          ∙ ap (λ (x : ℕ). bit_of x (bit_in u)) (get_or-set_same rows (word_of s t) word 0 inside)
          ∙ bit_of-other d (get_or rows (word_of s t) 0) (bit_in t) (bit_in u) bit (λ e. o (one_place v u s t p e))
          ∙ ap (λ (k : ℕ). bit_of (get_or rows k 0) (bit_in u)) (sym p)
      go (no q) = ap (λ (x : ℕ). bit_of x (bit_in u)) (get_or-set_other rows (word_of s t) (word_of v u) word 0 q)

  put-bits : (v u : ℕ) → row_bit (put_rows d s t rows) v u ≡ cond (is_pair s t v u) (eqb d 1) (row_bit rows v u)
  unfolding is_pair both
  put-bits v u = go (eqb v s) (eqb u t) refl refl
    where
      go : (a b : Bool) → eqb v s ≡ a → eqb u t ≡ b → row_bit (put_rows d s t rows) v u ≡ cond (cond a b false) (eqb d 1) (row_bit rows v u)
      go true true p q = ap₂ (row_bit (put_rows d s t rows)) (eqb-true v s p) (eqb-true u t q) ∙ put-here
      go true false p q = put_other v u (λ e. eqb-false u t q e.1)
      go false b p q = put_other v u (λ e. eqb-false v s p e.0)

put-length : (d s t : ℕ) (rows : List ℕ) → length (put_rows d s t rows) ≡ length rows
unfolding put_rows
put-length d s t rows = length-set rows (word_of s t) (put_bit d (get_or rows (word_of s t) 0) (bit_in t))

-- a bit is set
pub related-here : (v u : ℕ) (rows : List ℕ) → length rows ≡ row_words → v < limits.states → row_bit (related_rows v u rows) v u ≡ true
related-here v u rows e h = put-here 1 v u rows (omega arith) (omega (arith, word-inside v u h))

pub related-other : (v u : ℕ) (rows : List ℕ) → length rows ≡ row_words → v < limits.states → (w i : ℕ) → ((w ≡ v) × (i ≡ u) → ⊥) → row_bit (related_rows v u rows) w i ≡ row_bit rows w i
related-other v u rows e h = put_other 1 v u rows (omega arith) (omega (arith, word-inside v u h))

pub related-length : (v u : ℕ) (rows : List ℕ) → length (related_rows v u rows) ≡ length rows
related-length = put-length 1

-- the stores that copy a row
pub copied-stored : (from : List ℕ) (u v : ℕ) (rows : List ℕ) {x y : ℕ} → x ≡ word_at from u 0 → y ≡ word_at from u 1 → set (set rows (2 * v) x) (2 * v + 1) y ≡ copied_rows from u v rows
unfolding copied_rows
copied-stored from u v rows e f = rw (e, f) refl

-- where the words of a row stand
at_zero : (rows : List ℕ) (v : ℕ) → word_at rows v 0 ≡ get_or rows (2 * v) 0
unfolding word_at
at_zero rows v = let e : 2 * v + 0 ≡ 2 * v = omega arith in ap (λ (k : ℕ). get_or rows k 0) e

at_one : (rows : List ℕ) (v : ℕ) → word_at rows v 1 ≡ get_or rows (2 * v + 1) 0
unfolding word_at
at_one rows v = refl

-- one row is copied, and no other
module _ (from : List ℕ) (u v : ℕ) (rows : List ℕ) where
  abbrev first : List ℕ
  first = set rows (2 * v) (word_at from u 0)

  pub copied-length : length (copied_rows from u v rows) ≡ length rows
  unfolding copied_rows
  copied-length = length-set first (2 * v + 1) (word_at from u 1) ∙ length-set rows (2 * v) (word_at from u 0)

  pub copied-here : length rows ≡ row_words → v < limits.states → (i : ℕ) → row_bit (copied_rows from u v rows) v i ≡ row_bit from u i
  unfolding copied_rows
  copied-here e h i = go (dec_lt i word_bits)
    where
      go : Dec (i < word_bits) → row_bit (copied_rows from u v rows) v i ≡ row_bit from u i
      go (yes l) =
          first-is (copied_rows from u v rows) v (sym (at_zero (copied_rows from u v rows) v ∙ get_or-set_other first (2 * v + 1) (2 * v) (word_at from u 1) 0 (λ p. omega arith) ∙ get_or-set_same rows (2 * v) (word_at from u 0) 0 (omega arith))) i l
          ∙ sym (first-is from u refl i l)
      go (no l) =
          second_is (copied_rows from u v rows) v (sym (at_one (copied_rows from u v rows) v ∙ get_or-set_same first (2 * v + 1) (word_at from u 1) 0 (omega (arith, length-set rows (2 * v) (word_at from u 0))))) i (omega arith)
          ∙ sym (second_is from u refl i (omega arith))

  pub copied-other : (w i : ℕ) → (w ≡ v → ⊥) → row_bit (copied_rows from u v rows) w i ≡ row_bit rows w i
  unfolding copied_rows
  copied-other w i o = go (dec_lt i word_bits)
    where
      kept : (k : ℕ) → (k ≡ 2 * v → ⊥) → (k ≡ 2 * v + 1 → ⊥) → get_or (copied_rows from u v rows) k 0 ≡ get_or rows k 0
      kept k p q = get_or-set_other first (2 * v + 1) k (word_at from u 1) 0 q ∙ get_or-set_other rows (2 * v) k (word_at from u 0) 0 p

      go : Dec (i < word_bits) → row_bit (copied_rows from u v rows) w i ≡ row_bit rows w i
      go (yes l) =
          first-is (copied_rows from u v rows) w (sym (at_zero (copied_rows from u v rows) w ∙ kept (2 * w) (λ p. o (omega arith)) (λ p. omega arith) ∙ sym (at_zero rows w))) i l
          ∙ sym (first-is rows w refl i l)
      go (no l) =
          second_is (copied_rows from u v rows) w (sym (at_one (copied_rows from u v rows) w ∙ kept (2 * w + 1) (λ p. omega arith) (λ p. o (omega arith)) ∙ sym (at_one rows w))) i (omega arith)
          ∙ sym (second_is rows w refl i (omega arith))

-- the rows after a removal
pub holds-removed : {n : ℕ} {R : Pairs} {before after : List ℕ} → HoldsPairs n R before → (s t : ℕ) → after ≡ removed_rows s t before → s < limits.states → t < limits.states → HoldsPairs n (removed s t R) after
unfolding removed_rows removed
holds-removed {before = before} h s t e less below =
    rw e (record {
      whole = put-length 0 s t (cleared_rows t s before) ∙ put-length 0 t s before ∙ h.whole;
      bits = λ v u vn un. twice v u (h.bits v u vn un);
      rest = λ v u vn un. twice v u (h.rest v u vn un) ∙ none (is_pair s t v u) (is_pair t s v u);
    })
  where
    twice : (v u : ℕ) {b : Bool} → row_bit before v u ≡ b → row_bit (cleared_rows s t (cleared_rows t s before)) v u ≡ cond (is_pair s t v u) false (cond (is_pair t s v u) false b)
    twice v u p =
        put-bits 0 s t (cleared_rows t s before) (omega arith) (omega (arith, word-inside s t less, put-length 0 t s before, h.whole)) v u
        ∙ ap (cond (is_pair s t v u) false) (put-bits 0 t s before (omega arith) (omega (arith, word-inside t s below, h.whole)) v u ∙ ap (cond (is_pair t s v u) false) p)

    none : (x y : Bool) → cond x false (cond y false false) ≡ false
    none true y = refl
    none false true = refl
    none false false = refl

-- the first state from u on, found in the first word, in the second, or in neither
module _ (rows : List ℕ) (v : ℕ) where
  pub next-first : {x u r : ℕ} → x ≡ word_at rows v 0 → IsNextBelow word_bits (bit_of x) u r → r < word_bits → IsNext (row_bit rows v) u r
  next-first {r = r} e h l =
      record {
        from = h.from;
        none = λ i above below. first-is rows v e i (omega arith) ∙ h.none i above below;
        some = λ below. first-is rows v e r l ∙ h.some l;
      }

  pub next-second : {x u r : ℕ} → x ≡ word_at rows v 1 → IsNextBelow word_bits (bit_of x) (u - word_bits) r → word_bits ≤ u → IsNext (row_bit rows v) u (word_bits + r)
  next-second {r = r} e h low =
      record {
        from = omega (arith, h.from);
        none = λ i above below. second_is rows v e i (omega arith) ∙ h.none (i - word_bits) (omega arith) (omega arith);
        some = λ below. on-is rows v e r ∙ h.some (omega arith);
      }

  pub next-later : {x u k r : ℕ} → x ≡ word_at rows v 0 → IsNextBelow word_bits (bit_of x) u k → word_bits ≤ k → u < word_bits → IsNext (row_bit rows v) word_bits r → IsNext (row_bit rows v) u r
  next-later {u = u} {k} {r} e h l low next =
      record {
        from = omega (arith, next.from);
        none = λ i above below. go i above below (dec_lt i word_bits);
        some = next.some;
      }
    where
      go : (i : ℕ) → u ≤ i → i < r → Dec (i < word_bits) → row_bit rows v i ≡ false
      go i above below (yes p) = first-is rows v e i p ∙ h.none i above (omega arith)
      go i above below (no p) = next.none i (omega arith) below

  pub later-state : {x u k : ℕ} (r : Option ℕ) → x ≡ word_at rows v 0 → IsNextBelow word_bits (bit_of x) u k → word_bits ≤ k → u < word_bits → IsNextState (row_bit rows v) word_bits r → IsNextState (row_bit rows v) u r
  later-state None e h l low next = next-later e h l low next
  later-state (Some r) e h l low next = (next.0, next-later e h l low next.1)

-- no state is the next one
pub no-state : {f : ℕ → Bool} {u r : ℕ} → IsNext f u r → u ≤ limits.states → limits.states ≤ r → IsNext f u limits.states
no-state n inside h = record { from = inside; none = λ i above below. n.none i above (omega arith); some = λ l. absurd (omega arith) }

pub none-left : (f : ℕ → Bool) {u : ℕ} → u ≤ limits.states → limits.states ≤ u → IsNext f u limits.states
none-left f inside h = record { from = inside; none = λ i above below. absurd (omega arith); some = λ l. absurd (omega arith) }

-- the next state as a number, which is no state where there is none
pub as-number : {f : ℕ → Bool} {u x : ℕ} (r : Option ℕ) → x ≡ unwrap_or r limits.states → IsNextState f u r → IsNext f u x
as-number {f} {u} None e next = subst (IsNext f u) (sym e) next
as-number {f} {u} (Some r) e next = subst (IsNext f u) (sym e) next.1

-- two rows have the same bits where their words have: x and y are the first words, p and q the second
module _ (a b : List ℕ) (v u : ℕ) {x y : ℕ} (xe : x ≡ word_at a v 0) (ye : y ≡ word_at b u 0) where
  pub first-differs : {t : Bool} → AreSame word_bits (bit_of x) (bit_of y) t → t ≡ false → AreSame row_bits (row_bit a v) (row_bit b u) t
  first-differs h e =
      record {
        alike = λ f. absurd (false-not (sym e ∙ f));
        differ = λ f all. h.differ f (λ i l. sym (first-is a v xe i l) ∙ all i (omega arith) ∙ first-is b u ye i l);
      }

  pub words_same : {t r : Bool} {p q : ℕ} → AreSame word_bits (bit_of x) (bit_of y) t → t ≡ true → p ≡ word_at a v 1 → q ≡ word_at b u 1 → AreSame word_bits (bit_of p) (bit_of q) r → AreSame row_bits (row_bit a v) (row_bit b u) r
  words_same {r = r} h e pe qe k =
      record {
        alike = λ f i. go f i (dec_lt i word_bits);
        differ = λ f all. k.differ f (λ i l. sym (on-is a v pe i) ∙ all (word_bits + i) (omega arith) ∙ on-is b u qe i);
      }
    where
      go : r ≡ true → (i : ℕ) → Dec (i < word_bits) → row_bit a v i ≡ row_bit b u i
      go f i (yes l) = first-is a v xe i l ∙ h.alike e i ∙ sym (first-is b u ye i l)
      go f i (no l) = second_is a v pe i (omega arith) ∙ k.alike f (i - word_bits) ∙ sym (second_is b u qe i (omega arith))

-- numbers are counted from 0, and on
count-on : (n more : ℕ) (f : ℕ → Bool) → count_below (n + more) f ≡ count_below n f + count_below more (λ i. f (n + i))
unfolding count_below
count-on n zero f = ap (λ (k : ℕ). count_below k f) (add-zero n) ∙ omega arith
count-on n (suc more) f = ap (λ (k : ℕ). count_below k f) (add-suc n more) ∙ omega (arith, count-on n more f)

-- a row has the bits of its words
pub count-words : (rows : List ℕ) (v : ℕ) {x y a b : ℕ} → x ≡ word_at rows v 0 → y ≡ word_at rows v 1 → a ≡ count_below word_bits (bit_of x) → b ≡ count_below word_bits (bit_of y) → a + b ≡ count_below row_bits (row_bit rows v)
count-words rows v e f p q =
    ap₂ (λ (m n : ℕ). m + n)
    (p ∙ count_below_cong word_bits _ _ (λ i l. sym (first-is rows v e i l)))
    (q ∙ count_below_cong word_bits _ (λ i. row_bit rows v (word_bits + i)) (λ i l. sym (on-is rows v f i)))
    ∙ sym (count-on word_bits word_bits (row_bit rows v))

count-few : (n : ℕ) (f : ℕ → Bool) → count_below n f ≤ n
unfolding count_below if_true
count-few zero f = omega arith
count-few (suc n) f = go (f n) (count-few n f)
  where
    go : (b : Bool) → count_below n f ≤ n → count_below n f + cond b 1 0 ≤ suc n
    go true h = omega arith
    go false h = omega arith

pub counts-fit : {a b : ℕ} (f g : ℕ → Bool) → a ≡ count_below word_bits f → b ≡ count_below word_bits g → a + b < 2 ^ word_bits
counts-fit f g p q = omega (arith, count-few word_bits f, count-few word_bits g, p, q)

-- the bits of a row are those of the related states
pub count_held : {n : ℕ} {R : Pairs} {rows : List ℕ} → HoldsPairs n R rows → n ≤ limits.states → (v : ℕ) → v < n → count_below row_bits (row_bit rows v) ≡ count_below n (R v)
count_held {n} {R} {rows} h few v below =
    let e : row_bits ≡ (row_bits - n) + n = omega arith in
    ap (λ (k : ℕ). count_below k (row_bit rows v)) e
    ∙ count-above (row_bits - n) n (row_bit rows v) (λ u above. h.rest v u below above)
    ∙ count_below_cong n (row_bit rows v) (R v) (λ u less. h.bits v u below less)
