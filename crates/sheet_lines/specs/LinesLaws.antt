-- Laws of a block's lines as they are written: bytes of a cell, the members left, and the loops over cells and lines.
use Rattle.std.specs.Prelude.{ℕ, zero, suc, ◌+◌, ◌*◌, ◌-◌, ◌%◌, ◌≤◌, ◌<◌, ◌≡◌, refl, Bool, List, [], ◌∷◌, ◌++◌, length}
use Rattle.std.proofs.Common.{sym, ◌∙◌, ap₂, subst, length-append, drop-drop}
use Rattle.std.proofs.Math.Path.{ap}
use Rattle.std.proofs.Math.ListN.{drop}
use native.Mathlib.Omega.{arith}
use Rattle.rules.specs.definitions.Limits.{limits}
use Rattle.pairs.specs.Rows.{IsNext}
use Rattle.block_sheet.specs.definitions.Sheet.{column, cell, blank, first_cell, cells, line, lines, line_count, ascending}
use Rattle.block_sheet.proofs.argument.SheetLaws.{cell-length, blank-length, first-length, cells-length, ascending-here, skipped}
use Rattle.writer.specs.Appends.{Appends}
use Rattle.writer.specs.AppendsLaws.{append-more, Ahead, ahead-start, ahead-turn, ahead-end}
use Rattle.sheet_lines.specs.declared.Written.{Written}
use Rattle.sheet_lines.specs.Lines.{members_from, CellTaken, LineTaken}

-- bytes known by another name
append-as : {xs ys : List ℕ} {at next : ℕ} {before after : List ℕ} → xs ≡ ys → Appends xs at before after next → Appends ys at before after next
append-as {at = at} {next} {before} {after} e p = subst (λ (l : List ℕ). Appends l at before after next) e p

-- four bytes, one after the other
module _ {a b c d at second third last next : ℕ} {s t u v w : List ℕ} (p : Appends (a ∷ []) at s t second) (q : Appends (b ∷ []) second t u third) (r : Appends (c ∷ []) third u v last) (l : Appends (d ∷ []) last v w next) where
  four : Appends (a ∷ b ∷ c ∷ d ∷ []) at s w next
  four = append-more p (append-more q (append-more r l))

  pub cell-written : (x : ℕ) → a ≡ column 1000 x → b ≡ column 100 x → c ≡ column 10 x → d ≡ 0x30 + x % 10 → Appends (cell x) at s w next
  unfolding cell
  cell-written x e f g h = append-as (λ i. e i ∷ f i ∷ g i ∷ h i ∷ []) four

-- the members from a state on, by the next of them
module _ {f : ℕ → Bool} {from member : ℕ} (next : IsNext f from member) where
  pub next-member : member < limits.states → members_from f from ≡ member ∷ members_from f (member + 1)
  next-member h =
      let low = next.from in
      let e : limits.states - from ≡ (member - from) + suc (limits.states - (member + 1)) = omega arith in
      let g : from + (member - from) ≡ member = omega arith in
      ap (λ (k : ℕ). ascending f k from) e
      ∙ skipped f (member - from) (suc (limits.states - (member + 1))) from (λ i above below. next.none i above (omega arith))
      ∙ ap (λ (w : ℕ). ascending f (suc (limits.states - (member + 1))) w) g
      ∙ ascending-here f (limits.states - (member + 1)) member (next.some h)

  pub no_member : from ≤ limits.states → limits.states ≤ member → members_from f from ≡ []
  unfolding ascending
  no_member inside h =
      let e : limits.states - from ≡ (limits.states - from) + 0 = omega arith in
      ap (λ (k : ℕ). ascending f k from) e
      ∙ skipped f (limits.states - from) 0 from (λ i above below. next.none i above (omega arith))

  -- a cell is written for it, or left blank
  module _ {at place : ℕ} {before after : List ℕ} where
    pub cell-taken : member < limits.states → Appends (cell member) at before after place → CellTaken f from at before after (record { next = place; from = member + 1 })
    unfolding first_cell
    cell-taken h p =
        let e = next-member h in
        record {
          inside = omega arith;
          left = ap (drop 1) (sym e);
          written = append-as (ap first_cell (sym e)) p;
        }

    pub none-taken : from ≤ limits.states → limits.states ≤ member → Appends blank at before after place → CellTaken f from at before after (record { next = place; from = limits.states })
    unfolding first_cell ascending
    none-taken inside h p =
        let e = no_member inside h in
        record {
          inside = omega arith;
          left = ap (drop 1) (sym e);
          written = append-as (ap first_cell (sym e)) p;
        }

-- what is known before each cell of a line
pub record Filling (f : ℕ → Bool) (first at : ℕ) (before : List ℕ) (left from next : ℕ) (out : List ℕ) : Type 0 where
  pub inside : from ≤ limits.states
  pub room : next + 4 * left + 1 ≤ length out
  pub rest : drop left (members_from f from) ≡ drop 16 (members_from f first)
  pub ahead : Ahead (cells 16 (members_from f first)) at before (cells left (members_from f from)) next out

pub filling-start : {f : ℕ → Bool} {from at : ℕ} {out : List ℕ} → from ≤ limits.states → at + 65 ≤ length out → Filling f from at out 16 from at out
filling-start h room = record { inside = h; room = omega arith; rest = refl; ahead = ahead-start (omega arith) }

module _ {f : ℕ → Bool} {first at : ℕ} {before : List ℕ} {left from next : ℕ} {out : List ℕ} (h : Filling f first at before left from next out) where
  pub filling-turn : {fewer : ℕ} → left ≡ suc fewer → {more : List ℕ} {r : Written} → CellTaken f from next out more r → Filling f first at before fewer r.from r.next more
  unfolding cells
  filling-turn {fewer} e {more} {r} t =
      let ms = members_from f from in
      let size = first-length ms in
      let one : 1 + fewer ≡ left = omega arith in
      record {
        inside = t.inside;
        room = omega (arith, h.room, t.written.place, t.written.size, size);
        rest = ap (drop fewer) t.left ∙ drop-drop fewer 1 ms ∙ ap (λ (k : ℕ). drop k ms) one ∙ h.rest;
        ahead = ahead-turn h.ahead (ap (λ (k : ℕ). cells k ms) e ∙ ap (λ (l : List ℕ). first_cell ms ++ cells fewer l) (sym t.left)) t.written;
      }

  -- and after the last of them the line's end
  pub filling-end : left ≡ 0 → {after : List ℕ} {end byte : ℕ} → byte ≡ 0x0A → Appends (byte ∷ []) next out after end → LineTaken f first at before after (record { next = end; from = from })
  unfolding cells
  filling-end z e p =
      record {
        inside = h.inside;
        left = ap (λ (k : ℕ). drop k (members_from f from)) (sym z) ∙ h.rest;
        written = append-more (ahead-end h.ahead (ap (λ (k : ℕ). cells k (members_from f from)) z)) (append-as (ap (λ (b : ℕ). b ∷ []) e) p);
      }

-- a line, behind its first columns
line-written : {f : ℕ → Bool} {from at middle : ℕ} {front s t u : List ℕ} {r : Written} → Appends front at s t middle → LineTaken f from middle t u r → Appends (line front (members_from f from)) at s u r.next
unfolding line
line-written p t = append-more p t.written

taken-length : (ms : List ℕ) → length (cells 16 ms ++ (0x0A ∷ [])) ≡ 65
taken-length ms = omega (arith, length-append (cells 16 ms) (0x0A ∷ []), cells-length 16 ms)

-- the first of the lines left
lines-first : (left : ℕ) (front ms : List ℕ) → 0 < left → lines left front ms ≡ line front ms ++ lines (left - 1) (blank ++ blank) (drop 16 ms)
unfolding lines
lines-first zero front ms h = absurd (omega arith)
lines-first (suc left) front ms h = let e : left ≡ suc left - 1 = omega arith in ap (λ (k : ℕ). line front ms ++ lines k (blank ++ blank) (drop 16 ms)) e

-- what is known before each further line
pub record Going (f : ℕ → Bool) (all : List ℕ) (at : ℕ) (before : List ℕ) (left from next : ℕ) (out : List ℕ) : Type 0 where
  pub inside : from ≤ limits.states
  pub room : next + 73 * left ≤ length out
  pub ahead : Ahead all at before (lines left (blank ++ blank) (members_from f from)) next out

pub going_start : {f : ℕ → Bool} {count left from at : ℕ} {out : List ℕ} → count ≡ left → from ≤ limits.states → at + 73 * count ≤ length out → Going f (lines count (blank ++ blank) (members_from f from)) at out left from at out
going_start {f} {count} {from = from} {at} {out} e h room =
    subst (λ (k : ℕ). Going f (lines count (blank ++ blank) (members_from f from)) at out k from at out) e
    (record { inside = h; room = room; ahead = ahead-start (omega arith) })

module _ {f : ℕ → Bool} {all : List ℕ} {at : ℕ} {before : List ℕ} {left from next : ℕ} {out : List ℕ} (h : Going f all at before left from next out) where
  pub going-turn : {fewer : ℕ} → left ≡ suc fewer → {a b c : List ℕ} {front start : ℕ} {r : Written} → Appends blank next out a front → Appends blank front a b start → LineTaken f from start b c r → Going f all at before fewer r.from r.next c
  unfolding lines
  going-turn {fewer} e p q t =
      let ms = members_from f from in
      record {
        inside = t.inside;
        room = omega (arith, h.room, p.place, p.size, q.place, q.size, t.written.place, t.written.size, blank-length, taken-length ms);
        ahead = ahead-turn h.ahead (ap (λ (k : ℕ). lines k (blank ++ blank) ms) e ∙ ap (λ (l : List ℕ). line (blank ++ blank) ms ++ lines fewer (blank ++ blank) l) (sym t.left)) (line-written (append-more p q) t);
      }

  pub going_end : left ≡ 0 → Appends all at before out next
  unfolding lines
  going_end z = ahead-end h.ahead (ap (λ (k : ℕ). lines k (blank ++ blank) (members_from f from)) z)

-- a block: its first line, and the further ones
module _ (number size : ℕ) {f : ℕ → Bool} {at front start : ℕ} {a b c d : List ℕ} {r : Written} (p : Appends (cell number) at a b front) (q : Appends (cell size) front b c start) (t : LineTaken f 0 start c d r) where
  pub further-room : (count : ℕ) → 0 < line_count size → count ≡ line_count size - 1 → at + 73 * line_count size ≤ length a → r.next + 73 * count ≤ length d
  further-room count some e room =
      omega (arith, p.place, p.size, q.place, q.size, t.written.place, t.written.size, cell-length number, cell-length size, taken-length (members_from f 0))

  pub block_written : (count : ℕ) → 0 < line_count size → count ≡ line_count size - 1 → {after : List ℕ} {end : ℕ} → Appends (lines count (blank ++ blank) (members_from f r.from)) r.next d after end → Appends (lines (line_count size) (cell number ++ cell size) (members_from f 0)) at a after end
  block_written count some e {after} {end} s =
      append-as
      (ap₂ (λ (k : ℕ) (l : List ℕ). line (cell number ++ cell size) (members_from f 0) ++ lines k (blank ++ blank) l) e t.left
      ∙ sym (lines-first (line_count size) (cell number ++ cell size) (members_from f 0) some))
      (append-more (line-written (append-more p q) t) s)
