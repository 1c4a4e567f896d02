-- Laws of the rows by classes.
use Rattle.std.specs.Prelude.{ℕ, ◌+◌, ◌<◌, ◌≡◌, Bool, true, false, not, List, eqb, length, get_or}
use Rattle.std.proofs.Math.Path.{refl, sym}
use Rattle.std.proofs.Common.{ap, ap₂, ◌∙◌, subst, zero-add, arith, below_more, MatchBool, eq-eqb, ne_eqb}
use Rattle.std.specs.List.{range_with_len, AllWithin, HoldsAt}
use Rattle.std.proofs.lemmas.List.FromFn.{get_or-range_with_len, length-range_with_len}
use Rattle.std.proofs.Math.Decide.{ℕ_discrete, dec_lt}
use Rattle.bisimulation.proofs.argument.ChoiceLaws.{false-not, all-below, below_all}
use Rattle.bisimulation.specs.definitions.Automaton.{Automaton}
use Rattle.bisimulation.specs.definitions.Pairs.{Pairs, equal_labels}
use Rattle.rules.specs.definitions.Certificate.{agree, same_block}
use Rattle.rules.specs.definitions.Limits.{limits}
use Rattle.limits.specs.Sizes.{row_words}
use Rattle.word.specs.Bits.{AreSame}
use Rattle.pairs.specs.Rows.{row_bits, row_bit, NoRows, HoldsRows, HoldsPairs, related_rows, copied_rows}
use Rattle.pairs.specs.RowsLaws.{related-here, related-other, related-length, copied-length, copied-here, copied-other}
use Rattle.classes.specs.Classes.{same_labels, IsRow, SmallBytes, AreClasses, Agrees, shared_as_related}

-- the rows after the start
pub holds-start : (A : Automaton) (labels : List ℕ) {n : ℕ} {rows : List ℕ} → HoldsPairs n (same_labels labels) rows → ((v : ℕ) → v < n → get_or labels v 0 ≡ A.label v) → HoldsPairs n (equal_labels A) rows
unfolding same_labels equal_labels
holds-start A labels h e =
    record { whole = h.whole; bits = λ v u less below. h.bits v u less below ∙ ap₂ eqb (e v less) (e u below); rest = h.rest }

-- the row of one state more
module _ (bytes : List ℕ) (byte : ℕ) where
  more : (u : ℕ) (row next : ℕ → Bool) → IsRow bytes byte u row → ((k : ℕ) → (k ≡ u → ⊥) → next k ≡ row k) → next u ≡ eqb byte (get_or bytes u 0) → IsRow bytes byte (u + 1) next
  more u row next r other here =
      record {
        bits = below_more (λ (k : ℕ). next k ≡ eqb byte (get_or bytes k 0)) u (λ k less. other k (λ e. omega arith) ∙ r.bits k less) here;
        rest = λ k h. other k (λ e. omega arith) ∙ r.rest k (omega arith);
      }

  row-with : (u : ℕ) (row next : ℕ → Bool) → IsRow bytes byte u row → get_or bytes u 0 ≡ byte → ((k : ℕ) → (k ≡ u → ⊥) → next k ≡ row k) → next u ≡ true → IsRow bytes byte (u + 1) next
  row-with u row next r e other here = more u row next r other (here ∙ sym (eq-eqb byte (get_or bytes u 0) (sym e)))

  row_kept : (u : ℕ) (row next : ℕ → Bool) → IsRow bytes byte u row → (get_or bytes u 0 ≡ byte → ⊥) → ((k : ℕ) → next k ≡ row k) → IsRow bytes byte (u + 1) next
  row_kept u row next r o same = more u row next r (λ k o. same k) (same u ∙ r.rest u (omega arith) ∙ sym (ne_eqb byte (get_or bytes u 0) (λ e. o (sym e))))

-- the classes of no state, and of one state more
module _ (bytes : List ℕ) where
  pub classes-none : (rows : List ℕ) → NoRows rows → AreClasses bytes 0 rows
  classes-none rows z =
      record { whole = z.whole; row = λ b h. record { bits = λ u less. absurd (omega arith); rest = λ u l. z.bits b u h } }

  pub classes-more : (u b : ℕ) (rows : List ℕ) → AreClasses bytes u rows → get_or bytes u 0 ≡ b → b < limits.states → AreClasses bytes (u + 1) (related_rows b u rows)
  classes-more u b rows c e small =
      record {
        whole = related-length b u rows ∙ c.whole;
        row = λ k h. go k h (ℕ_discrete k b);
      }
    where
      other : (w i : ℕ) → ((w ≡ b) × (i ≡ u) → ⊥) → row_bit (related_rows b u rows) w i ≡ row_bit rows w i
      other = related-other b u rows c.whole small

      go : (k : ℕ) → k < limits.states → Dec (k ≡ b) → IsRow bytes k (u + 1) (row_bit (related_rows b u rows) k)
      go k h (yes p) =
          rw p (row-with bytes b u (row_bit rows b) (row_bit (related_rows b u rows) b) (c.row b small) e (λ i o. other b i (λ q. o q.1)) (related-here b u rows c.whole small))
      go k h (no o) =
          row_kept bytes k u (row_bit rows k) (row_bit (related_rows b u rows) k) (c.row k h) (λ f. o (sym f ∙ e)) (λ i. other k i (λ q. o q.0))

-- no row, and one row more
pub rows_none : (n : ℕ) (R : Pairs) (rows : List ℕ) → length rows ≡ row_words → HoldsRows 0 n R rows
rows_none n R rows e = record { whole = e; bits = λ v u less below. absurd (omega arith); rest = λ v u less h. absurd (omega arith) }

pub rows_more : (n v byte : ℕ) (labels members rows : List ℕ) → HoldsRows v n (same_labels labels) rows → v < limits.states → byte ≡ get_or labels v 0 → IsRow labels byte n (row_bit members byte) → HoldsRows (v + 1) n (same_labels labels) (copied_rows members byte v rows)
unfolding same_labels
rows_more n v byte labels members rows h small e r =
    record {
      whole = copied-length members byte v rows ∙ h.whole;
      bits = λ w u less below. below_more (λ (w : ℕ). row_bit after w u ≡ eqb (get_or labels w 0) (get_or labels u 0)) v (λ w l. kept w u l ∙ h.bits w u l below) (here u ∙ r.bits u below ∙ ap (λ (b : ℕ). eqb b (get_or labels u 0)) e) w less;
      rest = λ w u less above. below_more (λ (w : ℕ). row_bit after w u ≡ false) v (λ w l. kept w u l ∙ h.rest w u l above) (here u ∙ r.rest u above) w less;
    }
  where
    after : List ℕ
    after = copied_rows members byte v rows

    here : (u : ℕ) → row_bit after v u ≡ row_bit members byte u
    here = copied-here members byte v rows h.whole small

    kept : (w u : ℕ) → w < v → row_bit after w u ≡ row_bit rows w u
    kept w u l = copied-other members byte v rows w u (λ p. omega arith)

-- tests that agree are equal
agree_same : (a b : Bool) → agree a b ≡ true → a ≡ b
unfolding agree
agree_same true b e = sym e
agree_same false true e = absurd (false-not e)
agree_same false false e = refl

same-agree : (a b : Bool) → a ≡ b → agree a b ≡ true
unfolding agree
same-agree true b e = sym e
same-agree false b e = ap not (sym e)

-- what is said of item v of `0..n` is said of v
from-range : (P : ℕ → Type 0) {n : ℕ} (v : ℕ) → v < n → P (get_or (range_with_len 0 n) v 0) → P v
from-range P {n} v less = subst P (get_or-range_with_len 0 n v 0 less ∙ zero-add v)

-- whether the row of a state has the bits of its block's
abbrev pub RowTold : (blocks members rows : List ℕ) → Bool → ℕ → Type 0
RowTold blocks members rows told v = AreSame row_bits (row_bit rows v) (row_bit members (get_or blocks v 0)) told

-- the rows are compared: every row is that of its state's block, or one is not
module _ {blocks members rows : List ℕ} {n : ℕ} (c : AreClasses blocks n members) (k : SmallBytes n blocks) where
  pub agrees-all : ((v : ℕ) → v < n → (u : ℕ) → row_bit rows v u ≡ row_bit members (get_or blocks v 0) u) → Agrees blocks n rows true
  unfolding same_block
  agrees-all e =
      record {
        tells = λ R h. sym (below_all n _ (λ v less. below_all n _ (λ u below.
            same-agree _ _ (sym ((c.row (get_or blocks v 0) (k.small v less)).bits u below) ∙ sym (e v less u) ∙ h.bits v u less below))));
      }

  pub agrees-not : (v : ℕ) → v < n → (((u : ℕ) → row_bit rows v u ≡ row_bit members (get_or blocks v 0) u) → ⊥) → Agrees blocks n rows false
  unfolding same_block
  agrees-not v less o = record { tells = λ R h. go R h (shared_as_related n blocks R) refl }
    where
      row : IsRow blocks (get_or blocks v 0) n (row_bit members (get_or blocks v 0))
      row = c.row (get_or blocks v 0) (k.small v less)

      bit : (R : Pairs) → HoldsPairs n R rows → shared_as_related n blocks R ≡ true → (u : ℕ) → Dec (u < n) → row_bit rows v u ≡ row_bit members (get_or blocks v 0) u
      bit R h a u (yes below) =
          h.bits v u less below ∙ sym (agree_same _ _ (all-below n _ (all-below n _ a v less) u below)) ∙ sym (row.bits u below)
      bit R h a u (no above) = h.rest v u less (omega arith) ∙ sym (row.rest u (omega arith))

      go : (R : Pairs) → HoldsPairs n R rows → (t : Bool) → shared_as_related n blocks R ≡ t → false ≡ t
      go R h true a = absurd (o (λ u. bit R h a u (dec_lt u n)))
      go R h false a = refl

  pub agrees-told : {r : Bool} → MatchBool r (AllWithin (RowTold blocks members rows true) (range_with_len 0 n) 0 (length (range_with_len 0 n))) ((i : ℕ) × (i < length (range_with_len 0 n)) × HoldsAt (RowTold blocks members rows false) (range_with_len 0 n) i) → Agrees blocks n rows r
  agrees-told {r = true} all =
      agrees-all (λ v less. (from-range (RowTold blocks members rows true) v less (all v 0 (omega arith) (omega (arith, length-range_with_len 0 n)))).alike refl)
  agrees-told {r = false} (v, small, told) =
      let less : v < n = omega (arith, length-range_with_len 0 n) in
      agrees-not v less (λ all. (from-range (RowTold blocks members rows false) v less (told 0)).differ refl (λ i l. all i))
