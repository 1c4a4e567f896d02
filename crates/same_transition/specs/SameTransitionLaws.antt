-- Laws of records in a buffer: they are the same bytes exactly when their transitions are the same, and they are walked one after the other.
use Rattle.std.specs.Prelude.{ℕ, zero, suc, ◌+◌, ◌*◌, ◌-◌, ◌≤◌, ◌<◌, ◌≡◌, Bool, false, length, get_or, take}
use Rattle.std.proofs.Math.Path.{refl, sym, ap, ap₂}
use Rattle.std.proofs.Common.{◌∙◌, subst, length-drop, take-append-drop, length-take-le, drop-drop, get_or-drop}
use Rattle.std.proofs.Math.Bool.{true}
use mathlib.Core.List.{List, [], ◌∷◌, ◌++◌, append_assoc}
use Rattle.std.proofs.Math.ListN.{drop, length-append, get_or-append}
use borrow.Author.Tests.{eqb-true, eq-eqb, ne_eqb}
use Rattle.std.proofs.Math.Decide.{ℕ_discrete}
use native.Mathlib.Omega.{arith}
use Rattle.bisimulation.specs.definitions.Choice.{if_true}
use Rattle.bisimulation.proofs.argument.ChoiceLaws.{is_true, is_false, one-test, all-below, below_all, not-all}
use Rattle.rules.specs.definitions.Bytes.{byte_at, two_at, two_bytes}
use Rattle.rules.proofs.argument.BytesLaws.{past, past_all, first_byte, first_two}
use Rattle.rules.specs.definitions.Model.{Entry, Transition, entries_bytes, transition_bytes, transitions_bytes}
use Rattle.rules.specs.definitions.Reading.{source_at, action_at, denominator_at, entry_count_at, after_transition, entries_at, transition_at}
use Rattle.rules.specs.definitions.SoundModel.{Each, sum_over, TransitionRules, LowestTerms}
use Rattle.rules.proofs.argument.SoundModelLaws.{each_map}
use Rattle.quotient.specs.definitions.Quotient.{same_transition, is_among}
use Rattle.quotient.proofs.argument.MergedTerms.{SameFields, same-fields}
use Rattle.rules.proofs.argument.ReadBack.{transition_bytes-length}
use Rattle.same_transition.specs.SameTransition.{StandAs, Stand, IsRepeated, CanPass, Passed, same_bytes, same_record}

-- what holds from a number on, and at the number before it, holds from there on
pub from_more : {P : ℕ → Type 0} (left size i : ℕ) → i + 1 ≡ left → ((j : ℕ) → left ≤ j → j < size → P j) → P i → (j : ℕ) → i ≤ j → j < size → P j
from_more {P} left size i e h p j from less = go (ℕ_discrete j i)
  where
    go : Dec (j ≡ i) → P j
    go (yes q) = subst P (sym q) p
    go (no q) = h j (omega arith) less

-- bytes are compared until two differ
module _ (s : List ℕ) (first second count : ℕ) where
  abbrev pub ByteAgrees : ℕ → Type 0
  ByteAgrees i = byte_at s (first + i) ≡ byte_at s (second + i)

  pub bytes_same : ((i : ℕ) → i < count → ByteAgrees i) → same_bytes s first second count ≡ true
  unfolding same_bytes
  bytes_same h = below_all count _ (λ i less. eq-eqb _ _ (h i less))

  pub same_bytes_lem : same_bytes s first second count ≡ true → (i : ℕ) → i < count → ByteAgrees i
  unfolding same_bytes
  same_bytes_lem e i less = eqb-true _ _ (all-below count _ e i less)

  pub bytes-not : (i : ℕ) → i < count → (ByteAgrees i → ⊥) → false ≡ same_bytes s first second count
  unfolding same_bytes
  bytes-not i less n = not-all count _ i less (ne_eqb _ _ n)

-- entries of the same bytes are one
entries-agree : (s : List ℕ) (count a b : ℕ) → ((i : ℕ) → i < 3 * count → byte_at s (a + i) ≡ byte_at s (b + i)) → entries_at s count a ≡ entries_at s count b
unfolding entries_at two_at
entries-agree s zero a b h = refl
entries-agree s (suc count) a b h = go (entries-agree s count (a + 3) (b + 3) (λ i less. sym (at a (3 + i) _ (omega arith)) ∙ h (3 + i) (omega arith) ∙ at b (3 + i) _ (omega arith)))
  where
    at : (x j y : ℕ) → x + j ≡ y → byte_at s (x + j) ≡ byte_at s y
    at x j y e = ap (byte_at s) e

    state : byte_at s a ≡ byte_at s b
    state = sym (at a 0 a (omega arith)) ∙ h 0 (omega arith) ∙ at b 0 b (omega arith)

    low : byte_at s (a + 1 + 1) ≡ byte_at s (b + 1 + 1)
    low = sym (at a 2 (a + 1 + 1) (omega arith)) ∙ h 2 (omega arith) ∙ at b 2 (b + 1 + 1) (omega arith)

    go : entries_at s count (a + 3) ≡ entries_at s count (b + 3) → entries_at s (suc count) a ≡ entries_at s (suc count) b
    go later = unfold entries_at two_at in λ i. record { state = state i; weight = h 1 (omega arith) i * 256 + low i } ∷ later i

-- records of the same bytes from the action on have the same fields
module _ (s : List ℕ) (first second : ℕ) (agree : same_record s first second ≡ true) where
  byte-agrees : (j : ℕ) → 3 ≤ j → j < 7 + 3 * entry_count_at s first → byte_at s (first + j) ≡ byte_at s (second + j)
  unfolding same_record
  byte-agrees j from less =
      let a : first + 3 + (j - 3) ≡ first + j = omega arith in
      let b : second + 3 + (j - 3) ≡ second + j = omega arith in
      sym (ap (byte_at s) a) ∙ same_bytes_lem s (first + 3) (second + 3) (4 + 3 * entry_count_at s first) agree (j - 3) (omega arith) ∙ ap (byte_at s) b

  pub fields-agree : SameFields (transition_at s first) (transition_at s second)
  unfolding transition_at action_at denominator_at entry_count_at two_at
  fields-agree =
      let a : first + 5 ≡ first + 4 + 1 = omega arith in
      let b : second + 5 ≡ second + 4 + 1 = omega arith in
      record {
        action = byte-agrees 3 (omega arith) (omega arith);
        denominator =
            ap₂ (λ (x y : ℕ). x * 256 + y) (byte-agrees 4 (omega arith) (omega arith))
            (sym (ap (byte_at s) a) ∙ byte-agrees 5 (omega arith) (omega arith) ∙ ap (byte_at s) b);
        entries =
            entries-agree s (entry_count_at s first) (first + 7) (second + 7)
            (λ i less.
            let p : first + (7 + i) ≡ first + 7 + i = omega arith in
            let q : second + (7 + i) ≡ second + 7 + i = omega arith in
            sym (ap (byte_at s) p) ∙ byte-agrees (7 + i) (omega arith) (omega arith) ∙ ap (byte_at s) q)
            ∙ ap (λ (n : ℕ). entries_at s n (second + 7)) (byte-agrees 6 (omega arith) (omega arith));
      }

-- what a record is passed with
module _ {s : List ℕ} {at count place : ℕ} (h : CanPass s at count place) where
  -- another entry count
  pub pass-longer : {x next : ℕ} → x ≡ byte_at s (place + 6) → (x ≡ count → ⊥) → next ≡ after_transition s place → Passed s at place next
  unfolding same_record entry_count_at after_transition
  pass-longer {x} {next} read n e =
      let a : at + 3 + 3 ≡ at + 6 = omega arith in
      let b : place + 3 + 3 ≡ place + 6 = omega arith in
      record {
        same = λ q. absurd (omega (arith, e, q));
        other = λ q. (e, sym (bytes-not s (at + 3) (place + 3) _ 3 (omega arith) (λ z. n (read ∙ sym (ap (byte_at s) b) ∙ sym z ∙ ap (byte_at s) a ∙ sym h.counted))));
      }

  compared-bytes : same_bytes s (at + 3) (place + 3) (4 + 3 * count) ≡ same_record s at place
  unfolding same_record
  compared-bytes = ap (λ (n : ℕ). same_bytes s (at + 3) (place + 3) (4 + 3 * n)) h.counted

  -- the same bytes
  pub pass_same : same_bytes s (at + 3) (place + 3) (4 + 3 * count) ≡ true → Passed s at place place
  pass_same e = record { same = λ q. sym compared-bytes ∙ e; other = λ n. absurd (n refl) }

  -- other bytes
  pub pass-other : {x next : ℕ} → x ≡ byte_at s (place + 6) → x ≡ count → same_bytes s (at + 3) (place + 3) (4 + 3 * count) ≡ false → next ≡ place + 7 + 3 * count → Passed s at place next
  unfolding entry_count_at after_transition
  pass-other {x} {next} read one e f =
      record {
        same = λ q. absurd (omega (arith, f, q));
        other = λ n. (omega (arith, f, read, one), sym compared-bytes ∙ e);
      }

-- a weight is at most the sum
pub part-most : (es : List Entry) → Each (λ (e : Entry). e.weight ≤ sum_over (λ (x : Entry). x.weight) es) es
unfolding Each sum_over
part-most [] = tt
part-most (e ∷ es) = (omega arith, each_map _ _ (λ x l. omega arith) es (part-most es))

small-weights : {k m : ℕ} {t : Transition} → TransitionRules k m t → Each (λ (e : Entry). e.weight < 65536) t.entries
small-weights {t = t} r = each_map _ _ (λ e most. omega (arith, most, r.whole, r.fits)) t.entries (part-most t.entries)

-- the transition whose record stands at a place is the one that is read there
module _ (s : List ℕ) where
  entries-read : (es : List Entry) (place : ℕ) (rest : List ℕ) → drop place s ≡ entries_bytes es ++ rest → Each (λ (e : Entry). e.weight < 65536) es → entries_at s (length es) place ≡ es
  unfolding entries_at entries_bytes two_bytes Each
  entries-read [] place rest stands small = refl
  entries-read (e ∷ es) place rest stands small =
      let state = first_byte s place stands in
      let weight = first_two s (place + 1) e.weight _ (past s place 1 stands) (omega (arith, small.0)) in
      let later = entries-read es (place + 3) rest (past s place 3 stands) small.1 in
      λ i. record { state = state i; weight = weight i } ∷ later i

  count-read : (t : Transition) (place : ℕ) (rest : List ℕ) → drop place s ≡ transition_bytes t ++ rest → entry_count_at s place ≡ length t.entries
  unfolding entry_count_at transition_bytes two_bytes
  count-read t place rest stands = first_byte s (place + 6) (past s place 6 stands)

  after_read : (t : Transition) (place : ℕ) (rest : List ℕ) → drop place s ≡ transition_bytes t ++ rest → place + length (transition_bytes t) ≡ after_transition s place
  unfolding after_transition
  after_read t place rest stands = omega (arith, transition_bytes-length t, count-read t place rest stands)

  transition-read : (k m : ℕ) (t : Transition) (place : ℕ) (rest : List ℕ) → drop place s ≡ transition_bytes t ++ rest → TransitionRules k m t → transition_at s place ≡ t
  unfolding transition_at source_at action_at denominator_at transition_bytes two_bytes
  transition-read k m t place rest stands rules =
      let source = first_byte s (place + 2) (past s place 2 stands) in
      let action = first_byte s (place + 3) (past s place 3 stands) in
      let denominator = first_two s (place + 4) t.denominator _ (past s place 4 stands) (omega (arith, rules.fits)) in
      let count = count-read t place rest stands in
      let entries = entries-read t.entries (place + 7) rest (past s place 7 stands) (small-weights rules) in
      λ i.
      record {
        source = source i;
        action = action i;
        denominator = denominator i;
        entries = (ap (λ (k : ℕ). entries_at s k (place + 7)) count ∙ entries) i;
      }

-- the byte of what stands at a place
stands-byte : (s : List ℕ) (place : ℕ) (xs rest : List ℕ) → drop place s ≡ xs ++ rest → (i : ℕ) → i < length xs → byte_at s (place + i) ≡ get_or xs i 0
unfolding byte_at
stands-byte s place xs rest e i less = sym (get_or-drop place s i 0) ∙ ap (λ (l : List ℕ). get_or l i 0) e ∙ get_or-append xs rest 0 i less

-- a record from the action on
field_bytes : Transition → List ℕ
field_bytes t = t.action ∷ (two_bytes t.denominator ++ (length t.entries ∷ entries_bytes t.entries))

-- records of transitions with the same fields are the same bytes from the action on
agree-fields : (s : List ℕ) (first second : ℕ) (t u : Transition) (rest rest' : List ℕ) → drop first s ≡ transition_bytes t ++ rest → drop second s ≡ transition_bytes u ++ rest' → SameFields t u → same_record s first second ≡ true
unfolding same_record transition_bytes field_bytes
agree-fields s first second t u rest rest' stands stands' f =
    bytes_same s (first + 3) (second + 3) _
    (λ i less.
    let inside : i < length (field_bytes t) = omega (arith, less, size) in
    stands-byte s (first + 3) (field_bytes t) rest (past s first 3 stands) i inside
    ∙ ap (λ (l : List ℕ). get_or l i 0) same
    ∙ sym (stands-byte s (second + 3) (field_bytes u) rest' (past s second 3 stands') i (omega (arith, inside, ap length same))))
  where
    same : field_bytes t ≡ field_bytes u
    same = λ i. f.action i ∷ (two_bytes (f.denominator i) ++ (length (f.entries i) ∷ entries_bytes (f.entries i)))

    size : 4 + 3 * entry_count_at s first ≡ length (field_bytes t)
    size = omega (arith, transition_bytes-length t, count-read s t first rest stands)

-- what a slice holds stands at its place, up to its end
slice-stands : (s : List ℕ) (first end : ℕ) {xs : List ℕ} → first ≤ end → end ≤ length s → take (end - first) (drop first s) ≡ xs → (drop first s ≡ xs ++ drop end s) × (first + length xs ≡ end)
slice-stands s first end {xs} ordered inside e =
    let size : length xs ≡ end - first =
    sym (ap length e) ∙ length-take-le (end - first) (drop first s) (omega (arith, length-drop first s)) in
    let seam : first + (end - first) ≡ end = omega arith in (
      sym (take-append-drop (end - first) (drop first s))
          ∙ (λ i. e i ++ drop-drop (end - first) first s i)
          ∙ ap (λ (k : ℕ). xs ++ drop k s) seam,
      omega arith,
    )

-- the records that are left from a place on, and whether the last is among them
record Left (s : List ℕ) (at place k m : ℕ) (last : Transition) (among : Bool) : Type 0 where
  rest : List Transition
  stands : drop place s ≡ transitions_bytes rest ++ drop at s
  end : place + length (transitions_bytes rest) ≡ at
  alike : Each (TransitionRules k m) rest
  lowest : Each LowestTerms rest
  same : is_among k last rest ≡ among

-- a record is compared, and the others are left
record Compared (s : List ℕ) (at place k m : ℕ) (last : Transition) (among : Bool) : Type 0 where
  later : Bool
  left : Left s at (after_transition s place) k m last later
  same : if_true (same_record s at place) true later ≡ among

module _ {s : List ℕ} {start at next k m : ℕ} {kept : List Transition} {last : Transition} (h : StandAs s start at next k m kept last) where
  last-stands : (drop at s ≡ transition_bytes last ++ drop next s) × (at + length (transition_bytes last) ≡ next)
  last-stands = slice-stands s at next h.second h.inside h.record-bytes

  last-after : after_transition s at ≤ length s
  last-after = omega (arith, after_read s last at (drop next s) last-stands.0, last-stands.1, h.inside)

  -- what is compared agrees exactly when the transitions are the same
  compared_same : (u : Transition) (place : ℕ) (rest : List ℕ) → drop place s ≡ transition_bytes u ++ rest → TransitionRules k m u → LowestTerms u → same_record s at place ≡ same_transition k last u
  compared_same u place rest stands rules low =
      let one = transition-read s k m last at (drop next s) last-stands.0 h.rules in
      let other = transition-read s k m u place rest stands rules in
      let fields = same-fields k m m last u h.rules rules h.lowest low in
      one-test _ _
      (λ e. fields.1 (subst (SameFields last) other (subst (λ (t : Transition). SameFields t (transition_at s place)) one (fields-agree s at place e))))
      (λ e. agree-fields s at place last u (drop next s) rest last-stands.0 stands (fields.0 e))

  compared : (rest : List Transition) (place : ℕ) → drop place s ≡ transitions_bytes rest ++ drop at s → place + length (transitions_bytes rest) ≡ at → Each (TransitionRules k m) rest → Each LowestTerms rest → place < at → Compared s at place k m last (is_among k last rest)
  unfolding transitions_bytes is_among Each
  compared [] place stands end alike low before = absurd (omega arith)
  compared (u ∷ us) place stands end alike low before =
      let here = stands ∙ append_assoc (transition_bytes u) (transitions_bytes us) (drop at s) in
      let after = after_read s u place _ here in
      record {
        later = is_among k last us;
        left =
            record {
              rest = us;
              stands = ap (λ (x : ℕ). drop x s) (sym after) ∙ past_all s place (transition_bytes u) here;
              end = omega (arith, length-append (transition_bytes u) (transitions_bytes us));
              alike = alike.1;
              lowest = low.1;
              same = refl;
            };
        same = ap (λ (b : Bool). if_true b true (is_among k last us)) (compared_same u place _ here alike.0 low.0);
      }

-- the last record lies in the buffer
pub last-inside : {s : List ℕ} {start at : ℕ} → Stand s start at → after_transition s at ≤ length s
last-inside h = last-after h.stands

-- none of the records before the place is the same as the last
pub record Walked (s : List ℕ) (start at place : ℕ) : Type 0 where
  left : (next k m : ℕ) (kept : List Transition) (last : Transition) → StandAs s start at next k m kept last → Left s at place k m last (is_among k last kept)

module _ {s : List ℕ} {start at : ℕ} where
  pub walk_start : Walked s start at start
  walk_start =
      record {
        left = λ next k m kept last h.
            let stands = slice-stands s start at h.first (omega (arith, h.second, h.inside)) h.records in
            record { rest = kept; stands = stands.0; end = stands.1; alike = h.alike; lowest = h.all_lowest; same = refl };
      }

  module _ {place : ℕ} (w : Walked s start at place) (before : place < at) where
    walk-next : (next k m : ℕ) (kept : List Transition) (last : Transition) → StandAs s start at next k m kept last → Compared s at place k m last (is_among k last kept)
    walk-next next k m kept last h =
        let l = w.left next k m kept last h in
        subst (Compared s at place k m last) l.same (compared h l.rest place l.stands l.end l.alike l.lowest before)

    -- the record at the place lies before the last
    pub walk_inside : Stand s start at → after_transition s place ≤ at
    walk_inside h = omega (arith, (walk-next h.next h.states h.actions h.kept h.last h.stands).left.end)

    pub walk-found : same_record s at place ≡ true → IsRepeated s start at true
    walk-found e = record { tells = λ next k m kept last h. let n = walk-next next k m kept last h in is_true n.later e refl ∙ n.same }

    pub walk_turn : same_record s at place ≡ false → Walked s start at (after_transition s place)
    walk_turn e =
        record {
          left = λ next k m kept last h.
              let n = walk-next next k m kept last h in
              subst (Left s at (after_transition s place) k m last) (is_false true e refl ∙ n.same) n.left;
        }

  pub walk_end : {place : ℕ} → Walked s start at place → at ≤ place → IsRepeated s start at false
  walk_end {place} w past = record { tells = λ next k m kept last h. let l = w.left next k m kept last h in none k last l.rest l.end ∙ l.same }
    where
      none : (k : ℕ) (last : Transition) (rest : List Transition) → place + length (transitions_bytes rest) ≡ at → false ≡ is_among k last rest
      none k last [] end = unfold is_among in refl
      none k last (u ∷ us) end =
          unfold transitions_bytes in
          absurd (omega (arith, length-append (transition_bytes u) (transitions_bytes us), transition_bytes-length u))
