-- The run that a fetch answers is the bytes of the transitions that leave the state, in file order, and of no other.
use Prim.Native.Nat.{ℕ, zero, suc, ◌+◌, ◌-◌, ◌≤◌, ◌<◌}
use Rattle.std.proofs.Math.Path.{◌≡◌, refl, sym, ap}
use Rattle.std.proofs.Common.{◌∙◌, drop-drop}
use mathlib.Core.List.{List, [], ◌∷◌, ◌++◌, append_assoc}
use Rattle.std.proofs.Math.ListN.{length, take, drop, length-append}
use Rattle.std.specs.Prelude.{get_or}
use Rattle.std.proofs.Math.Seq.{take-append-add, drop-append_seam, drop_at}
use native.Mathlib.Omega.{arith}
use Rattle.std.proofs.Math.Decide.{dec_lt}
use Rattle.bisimulation.specs.definitions.Choice.{if_same}
use Rattle.bisimulation.proofs.argument.ChoiceLaws.{less, not_less, same, not_same}
use Rattle.rules.specs.definitions.Limits.{Limits}
use Rattle.rules.specs.definitions.Model.{Transition, transition_bytes, transitions_bytes, head_bytes, labels_bytes, model_bytes, no_transition, Model}
use Rattle.rules.specs.definitions.SoundModel.{Along, Bytes, SoundModel}
use Rattle.rules.proofs.argument.ReadBack.{transition_bytes-length}
use Rattle.rules.specs.definitions.Reading.{leaving_state, states_of, count_of, source_at, entry_count_at, after_transition, entries_at, transition_at, transitions_at, model_at, place_of, first_not_below, run_first, run_past, run_start, run_end, Scan, sound, refused, scan_whole, Reading, model, no_model, reading_of, read_whole}
use Rattle.rules.proofs.argument.ReadingLaws.{Tells, whole_tells}
use Rattle.rules.proofs.argument.ReadSound.{read-whole-sound}
use Rattle.rules.specs.definitions.Answers.{answer_without_place, stretch_in, run_answer, fetch_reading, fetch_answer}
use Rattle.rules.specs.definitions.Bytes.{two_bytes}
use Rattle.rules.proofs.argument.AnswerLaws.{labels_length, first_not_below-most}
use Rattle.rules.proofs.argument.ModelAutomaton.{transition-is, length-transitions_at}

-- a file whose records follow each other, with sources that never descend
pub record Follows (s : List ℕ) (count : ℕ) : Type 0 where
  pub record-bytes : (r : ℕ) → r < count → drop (place_of s r) s ≡ transition_bytes (transition_at s (place_of s r)) ++ drop (place_of s (suc r)) s
  pub record-size : (r : ℕ) → r < count → place_of s (suc r) ≡ place_of s r + length (transition_bytes (transition_at s (place_of s r)))
  pub ascends : (r : ℕ) → suc r < count → source_at s (place_of s r) ≤ source_at s (place_of s (suc r))

module _ (s : List ℕ) (count : ℕ) (f : Follows s count) where
  places-ascend : (k r : ℕ) → r + k ≤ count → place_of s r ≤ place_of s (r + k)
  places-ascend zero r h = let e : r + 0 ≡ r = omega arith in omega (arith, ap (place_of s) e)
  places-ascend (suc k) r h =
      let e : suc r + k ≡ r + suc k = omega arith in
      omega (arith, places-ascend k (suc r) (omega arith), ap (place_of s) e, f.record-size r (omega arith))

  -- the bytes from one record up to another
  between : (k r : ℕ) → r + k ≤ count → take (place_of s (r + k) - place_of s r) (drop (place_of s r) s) ≡ transitions_bytes (transitions_at s k (place_of s r))
  unfolding transitions_bytes transitions_at
  between zero r h =
      let e : place_of s (r + 0) - place_of s r ≡ 0 = let z : r + 0 ≡ r = omega arith in omega (arith, ap (place_of s) z) in
      ap (λ (n : ℕ). take n (drop (place_of s r) s)) e
  between (suc k) r h =
      let z : suc r + k ≡ r + suc k = omega arith in
      let tb = transition_bytes (transition_at s (place_of s r)) in
      let size = f.record-size r (omega arith) in
      let up = places-ascend k (suc r) (omega arith) in
      let n : place_of s (r + suc k) - place_of s r ≡ length tb + (place_of s (suc r + k) - place_of s (suc r)) = omega (arith, ap (place_of s) z) in
      ap (λ (m : ℕ). take m (drop (place_of s r) s)) n
      ∙ ap (take (length tb + (place_of s (suc r + k) - place_of s (suc r)))) (f.record-bytes r (omega arith))
      ∙ take-append-add tb (drop (place_of s (suc r)) s) (place_of s (suc r + k) - place_of s (suc r))
      ∙ ap (λ (l : List ℕ). tb ++ l) (rest (between k (suc r) (omega arith)))
    where
      rest : take (place_of s (suc r + k) - place_of s (suc r)) (drop (place_of s (suc r)) s) ≡ transitions_bytes (transitions_at s k (place_of s (suc r))) → take (place_of s (suc r + k) - place_of s (suc r)) (drop (place_of s (suc r)) s) ≡ transitions_bytes (transitions_at s k (after_transition s (place_of s r)))
      rest e = unfold place_of in e

  -- the transitions from r on, when the first leaves a later state
  none-leave : (state left r : ℕ) → r + left ≤ count → (0 < left → state < source_at s (place_of s r)) → leaving_state state (transitions_at s left (place_of s r)) ≡ []
  unfolding leaving_state transitions_at place_of transition_at
  none-leave state zero r h low = refl
  none-leave state (suc left) r h low =
      let here = low (omega arith) in
      ap (λ (l : List Transition). l ++ leaving_state state (transitions_at s left (place_of s (suc r)))) (sym (not_same _ (λ e. omega arith) refl))
      ∙ none-leave state left (suc r) (omega arith) (λ some. omega (arith, f.ascends r (omega arith)))

  -- those of a state come first
  run-first : (state left r past k : ℕ) → r + left ≤ count → (0 < left → state ≤ source_at s (place_of s r)) → past ≡ first_not_below s (state + 1) left r → past ≡ r + k → leaving_state state (transitions_at s left (place_of s r)) ≡ transitions_at s k (place_of s r)
  unfolding leaving_state transitions_at place_of transition_at first_not_below
  run-first state zero r past k h low e z = let n : 0 ≡ k = omega arith in ap (λ (j : ℕ). transitions_at s j (place_of s r)) n
  run-first state (suc left) r past k h low e z = go (dec_lt (source_at s (place_of s r)) (state + 1)) (λ j d m. run-first state left (suc r) past j (omega arith) (λ some. omega (arith, low (omega arith), f.ascends r (omega arith))) d m)
    where
      go : Dec (source_at s (place_of s r) < state + 1) → ((j : ℕ) → past ≡ first_not_below s (state + 1) left (suc r) → past ≡ suc r + j → leaving_state state (transitions_at s left (place_of s (suc r))) ≡ transitions_at s j (place_of s (suc r))) → if_same (source_at s (place_of s r)) state (transition_at s (place_of s r) ∷ []) [] ++ leaving_state state (transitions_at s left (place_of s (suc r))) ≡ transitions_at s k (place_of s r)
      go (yes small) ih =
          let is_state : source_at s (place_of s r) ≡ state = omega (arith, low (omega arith)) in
          let one : r + 1 ≡ suc r = omega arith in
          let d : past ≡ first_not_below s (state + 1) left (suc r) = e ∙ sym (less r small refl) ∙ ap (first_not_below s (state + 1) left) one in
          let most = first_not_below-most s (state + 1) left (suc r) in
          let m : past ≡ suc r + (k - 1) = omega arith in
          let n : suc (k - 1) ≡ k = omega arith in
          ap (λ (l : List Transition). l ++ leaving_state state (transitions_at s left (place_of s (suc r)))) (sym (same [] is_state refl))
          ∙ ap (λ (l : List Transition). transition_at s (place_of s r) ∷ l) (ih (k - 1) d m)
          ∙ ap (λ (j : ℕ). transitions_at s j (place_of s r)) n
      go (no large) ih =
          let d : past ≡ r = e ∙ sym (not_less (first_not_below s (state + 1) left (r + 1)) (omega arith) refl) in
          let n : 0 ≡ k = omega arith in
          ap (λ (l : List Transition). l ++ leaving_state state (transitions_at s left (place_of s (suc r)))) (sym (not_same (transition_at s (place_of s r) ∷ []) (λ q. omega arith) refl))
          ∙ none-leave state left (suc r) (omega arith) (λ some. omega (arith, f.ascends r (omega arith)))
          ∙ ap (λ (j : ℕ). transitions_at s j (place_of s r)) n

  -- those of lower states come before
  skip-lower : (state left r first k : ℕ) → r + left ≤ count → first ≡ first_not_below s state left r → first + k ≡ r + left → (leaving_state state (transitions_at s left (place_of s r)) ≡ leaving_state state (transitions_at s k (place_of s first))) × (0 < k → state ≤ source_at s (place_of s first))
  unfolding leaving_state transitions_at place_of transition_at first_not_below
  skip-lower state zero r first k h e z =
      let n : 0 ≡ k = omega arith in
      (ap (λ (j : ℕ). leaving_state state (transitions_at s j (place_of s first))) n, λ some. absurd (omega arith))
  skip-lower state (suc left) r first k h e z = go (dec_lt (source_at s (place_of s r)) state) (λ d. skip-lower state left (suc r) first k (omega arith) d (omega arith))
    where
      go : Dec (source_at s (place_of s r) < state) → (first ≡ first_not_below s state left (suc r) → (leaving_state state (transitions_at s left (place_of s (suc r))) ≡ leaving_state state (transitions_at s k (place_of s first))) × (0 < k → state ≤ source_at s (place_of s first))) → (if_same (source_at s (place_of s r)) state (transition_at s (place_of s r) ∷ []) [] ++ leaving_state state (transitions_at s left (place_of s (suc r))) ≡ leaving_state state (transitions_at s k (place_of s first))) × (0 < k → state ≤ source_at s (place_of s first))
      go (yes small) ih =
          let one : r + 1 ≡ suc r = omega arith in
          let i = ih (e ∙ sym (less r small refl) ∙ ap (first_not_below s state left) one) in (
            ap (λ (l : List Transition). l ++ leaving_state state (transitions_at s left (place_of s (suc r)))) (sym (not_same (transition_at s (place_of s r) ∷ []) (λ q. omega arith) refl)) ∙ i.0,
            i.1,
          )
      go (no large) ih =
          let d : first ≡ r = e ∙ sym (not_less (first_not_below s state left (r + 1)) (omega arith) refl) in
          let n : suc left ≡ k = omega arith in
          let p : place_of s r ≡ place_of s first = ap (place_of s) (sym d) in (
            (λ i. leaving_state state (transitions_at s (n i) (p i))),
            λ some. omega (arith, ap (λ (j : ℕ). source_at s (place_of s j)) d),
          )

  -- the run of a state is the bytes of the transitions that leave it
  pub run-bytes : count ≡ count_of s → (state : ℕ) → take (run_end s state - run_start s state) (drop (run_start s state) s) ≡ transitions_bytes (leaving_state state (transitions_at s count (place_of s 0)))
  unfolding run_end run_start run_past run_first
  run-bytes is_count state =
      let first = first_not_below s state (count_of s) 0 in
      let past = first_not_below s (state + 1) (count_of s - first) first in
      let a = first_not_below-most s state (count_of s) 0 in
      let b = first_not_below-most s (state + 1) (count_of s - first) first in
      let is_first : first ≡ first_not_below s state count 0 = ap (λ (n : ℕ). first_not_below s state n 0) (sym is_count) in
      let is_past : past ≡ first_not_below s (state + 1) (count - first) first = ap (λ (n : ℕ). first_not_below s (state + 1) (n - first) first) (sym is_count) in
      let skip = skip-lower state count 0 first (count - first) (omega arith) is_first (omega arith) in
      let run = run-first state (count - first) first past (past - first) (omega arith) skip.1 is_past (omega arith) in
      let z : first + (past - first) ≡ past = omega arith in
      ap (λ (j : ℕ). take (place_of s j - place_of s first) (drop (place_of s first) s)) (sym z)
      ∙ between (past - first) first (omega arith)
      ∙ ap transitions_bytes (sym (skip.0 ∙ run))

-- the records of a file that holds a model follow each other
pub length-entries_at : (s : List ℕ) (left at : ℕ) → length (entries_at s left at) ≡ left
unfolding entries_at
length-entries_at s zero at = refl
length-entries_at s (suc left) at = ap suc (length-entries_at s left (at + 3))

size-of-record : (s : List ℕ) (r : ℕ) → place_of s (suc r) ≡ place_of s r + length (transition_bytes (transition_at s (place_of s r)))
unfolding place_of after_transition transition_at
size-of-record s r =
    omega (
      arith,
      transition_bytes-length (transition_at s (place_of s r)),
      length-entries_at s (entry_count_at s (place_of s r)) (place_of s r + 7),
    )

-- what holds of neighbours holds of those at a position
along-at : {A : Type 0} (R : A → A → Type 0) (xs : List A) (d : A) (i : ℕ) → suc i < length xs → Along R xs → R (get_or xs i d) (get_or xs (suc i) d)
unfolding Along
along-at R [] d i h a = absurd (omega arith)
along-at R (x ∷ []) d i h a = absurd (omega arith)
along-at R (x ∷ y ∷ xs) d zero h a = a.0
along-at R (x ∷ y ∷ xs) d (suc i) h a = along-at R (y ∷ xs) d i (omega arith) a.1

module _ (L : Limits) (s : List ℕ) (rules : SoundModel L (model_at s)) (inside : 8 + states_of s ≤ length s) (bytes : s ≡ model_bytes (model_at s)) where
  size-before : length (head_bytes (model_at s) ++ labels_bytes (model_at s)) ≡ 8 + states_of s
  unfolding head_bytes labels_bytes two_bytes
  size-before = length-append (head_bytes (model_at s)) (labels_bytes (model_at s)) ∙ omega (arith, labels_length s inside)

  pub before-records : drop (8 + states_of s) s ≡ transitions_bytes (transitions_at s (count_of s) (8 + states_of s))
  unfolding model_bytes model_at
  before-records =
      ap (drop (8 + states_of s)) bytes
      ∙ ap (drop (8 + states_of s)) (sym (append_assoc (head_bytes (model_at s)) (labels_bytes (model_at s)) (transitions_bytes (model_at s).transitions)))
      ∙ drop_at (head_bytes (model_at s) ++ labels_bytes (model_at s)) (transitions_bytes (model_at s).transitions) (8 + states_of s) size-before

  -- from a record on, the file is the records left
  records-left : (r left : ℕ) → r + left ≡ count_of s → drop (place_of s r) s ≡ transitions_bytes (transitions_at s left (place_of s r))
  unfolding place_of transitions_at transitions_bytes model_bytes
  records-left zero left e =
      let n : left ≡ count_of s = omega arith in
      before-records ∙ ap (λ (k : ℕ). transitions_bytes (transitions_at s k (8 + states_of s))) (sym n)
  records-left (suc r) left e =
      let tb = transition_bytes (transition_at s (place_of s r)) in
      ap (λ (k : ℕ). drop k s) (size-of-record s r)
      ∙ sym (drop-drop (length tb) (place_of s r) s)
      ∙ ap (drop (length tb)) (records-left r (suc left) (omega arith))
      ∙ drop-append_seam tb (transitions_bytes (transitions_at s left (place_of s (suc r))))

  pub follows : Follows s (count_of s)
  unfolding place_of transitions_at transitions_bytes transition_at model_at
  follows =
      record {
        record-bytes = λ r h.
            let left : ℕ = count_of s - suc r in
            records-left r (suc left) (omega arith) ∙ ap (λ (l : List ℕ). transition_bytes (transition_at s (place_of s r)) ++ l) (sym (records-left (suc r) left (omega arith)));
        record-size = λ r h. size-of-record s r;
        ascends = λ r h.
            let a = along-at (λ (t u : Transition). t.source ≤ u.source) (model_at s).transitions no_transition r (omega (arith, length-transitions_at s (count_of s) (8 + states_of s))) rules.sources in
            omega (arith, a, ap (λ (t : Transition). t.source) (transition-is s r (omega arith)), ap (λ (t : Transition). t.source) (transition-is s (suc r) (omega arith)));
      }

-- the part of the file that a run is
run-part : (s : List ℕ) (start end : ℕ) → stretch_in s (run_answer start end) ≡ take (end - start) (drop start s)
unfolding stretch_in run_answer answer_without_place
run-part s start end = go (dec_lt start end)
  where
    go : Dec (start < end) → stretch_in s (run_answer start end) ≡ take (end - start) (drop start s)
    go (yes l) = ap (stretch_in s) (sym (less (answer_without_place 0) l refl))
    go (no l) =
        let z : 0 ≡ end - start = omega arith in
        ap (stretch_in s) (sym (not_less _ (omega arith) refl))
        ∙ ap (λ (n : ℕ). take n (drop start s)) z

-- a fetch hands back the bytes of the transitions that leave the state
pub fetched-run : (L : Limits) (s : List ℕ) (state : ℕ) (M : Model) (end : ℕ) → Bytes s → read_whole L s ≡ model M end → state < length M.labels → stretch_in s (fetch_answer L s state) ≡ transitions_bytes (leaving_state state M.transitions)
unfolding fetch_answer fetch_reading
fetched-run L s state M end b e l = go (scan_whole L s) refl (whole_tells L s)
  where
    go : (scan : Scan) → scan_whole L s ≡ scan → Tells L s scan → stretch_in s (fetch_answer L s state) ≡ transitions_bytes (leaving_state state M.transitions)
    go (refused number place) q t = let f : read_whole L s ≡ no_model number place = unfold read_whole reading_of in ap (reading_of s) q in let z : ◌≡◌ {A = ℕ} 0 1 = cc in absurd (omega arith)
    go (sound n m count last) q t =
        let f : read_whole L s ≡ model (model_at s) last = unfold read_whole reading_of in ap (reading_of s) q in
        let is_m : M ≡ model_at s = let g = sym e ∙ f in cc in
        let k = read-whole-sound L s (model_at s) last b f in
        let inside : 8 + states_of s ≤ length s = omega (arith, t.states, t.labels) in
        ap (λ (r : Reading). stretch_in s (fetch_reading s state r)) e
        ∙ ap (stretch_in s) (sym (less (answer_without_place 24) l refl))
        ∙ run-part s (run_start s state) (run_end s state)
        ∙ run-bytes s (count_of s) (follows L s k.0 inside k.1) refl state
        ∙ places
        ∙ ap (λ (N : Model). transitions_bytes (leaving_state state N.transitions)) (sym is_m)
      where
        places : transitions_bytes (leaving_state state (transitions_at s (count_of s) (place_of s 0))) ≡ transitions_bytes (leaving_state state (model_at s).transitions)
        places = unfold place_of model_at in refl
