-- Laws of what a fetch answers, and of a call that writes a file or two.
use Rattle.std.specs.Prelude.{ℕ, zero, suc, ◌+◌, ◌-◌, ◌≤◌, ◌<◌, ◌≡◌, List, [], ◌∷◌, pos}
use Rattle.std.proofs.Math.Path.{refl}
use Rattle.std.proofs.Common.{sym, ◌∙◌, ap, subst, inl, inr, length-take, length-drop}
use Rattle.std.proofs.Math.ListN.{length}
use Rattle.std.proofs.Math.Decide.{dec_lt}
use native.Mathlib.Omega.{arith}
use Rattle.bisimulation.proofs.argument.ChoiceLaws.{via, less, not_less, either_less, either_true, is_true, is_false}
use Rattle.rules.specs.definitions.Limits.{Limits}
use Rattle.rules.specs.definitions.Model.{Model}
use Rattle.rules.specs.definitions.Faults.{Fault, fault_by}
use Rattle.rules.proofs.argument.FaultLaws.{Otherwise, Told, told-fault}
use Rattle.rules.specs.definitions.Reading.{model, Scan, sound, refused, scan_whole, states_of, count_of, model_at, reading_of, read_whole, place_of, source_at, first_not_below, run_first, run_past, run_start, run_end}
use Rattle.rules.proofs.argument.ReadingLaws.{read_low, read-otherwise, Sound, Tells, whole_tells}
use Rattle.rules.specs.definitions.Answers.{Answer, refusal_in, answer_without_place, run_answer, fetch_reading, fetch_answer, Outcome, left_in, second_written, unwritten, filled, room_for, files_outcome, FetchNumber}

-- the labels of a sound model are n
pub labels_length : (s : List ℕ) → 8 + states_of s ≤ length s → length (model_at s).labels ≡ states_of s
unfolding model_at
labels_length s h = simp (length-take, length-drop) (omega arith)

-- what a fetch answers, by what the scan of the file is
pub fetch-refused : (L : Limits) (s : List ℕ) (state : ℕ) (f : Fault) (place : ℕ) → refused f place ≡ scan_whole L s → refusal_in f 1 place (length s) ≡ fetch_answer L s state
unfolding fetch_answer fetch_reading read_whole reading_of
fetch-refused L s state f place q = ap (λ (scan : Scan). fetch_reading s state (reading_of s scan)) q

module _ (L : Limits) (s : List ℕ) (state n m count end : ℕ) (q : sound n m count end ≡ scan_whole L s) where
  told : Sound L s n m count end
  told = subst (Tells L s) (sym q) (whole_tells L s)

  states-told : length (model_at s).labels ≡ n
  states-told = labels_length s (omega (arith, told.states, told.labels)) ∙ sym told.states

  pub fetch-no-state : n ≤ state → answer_without_place 24 ≡ fetch_answer L s state
  unfolding fetch_answer fetch_reading read_whole reading_of
  fetch-no-state h =
      via (sym (ap (λ (scan : Scan). fetch_reading s state (reading_of s scan)) q))
      (not_less _ (omega (arith, states-told)) refl)

  pub fetch-runs : state < n → run_answer (run_start s state) (run_end s state) ≡ fetch_answer L s state
  unfolding fetch_answer fetch_reading read_whole reading_of
  fetch-runs h =
      via (sym (ap (λ (scan : Scan). fetch_reading s state (reading_of s scan)) q))
      (less _ (omega (arith, states-told)) refl)

-- the search ends among the transitions it was given
pub first_not_below-most : (s : List ℕ) (state left r : ℕ) → (r ≤ first_not_below s state left r) × (first_not_below s state left r ≤ r + left)
unfolding first_not_below
first_not_below-most s state zero r = (omega arith, omega arith)
first_not_below-most s state (suc left) r =
    either_less (λ (k : ℕ). (r ≤ k) × (k ≤ r + suc left)) (source_at s (place_of s r)) state
    (let h = first_not_below-most s state left (r + 1) in (omega arith, omega arith))
    (omega arith, omega arith)

-- the transitions of a run are among the model's
pub run-most : (s : List ℕ) (state : ℕ) → (run_first s state ≤ run_past s state) × (run_past s state ≤ count_of s)
unfolding run_first run_past
run-most s state =
    let a = first_not_below-most s state (count_of s) 0 in
    let b = first_not_below-most s (state + 1) (count_of s - first_not_below s state (count_of s) 0) (first_not_below s state (count_of s) 0) in
    (omega arith, omega arith)

-- every place of a sound model lies in the file
pub place_inside : (L : Limits) (s : List ℕ) (n m count end : ℕ) → Sound L s n m count end → (r : ℕ) → r ≤ count → place_of s r ≤ length s
unfolding place_of
place_inside L s n m count end t zero h = omega (arith, t.states, t.labels)
place_inside L s n m count end t (suc r) h = t.records r (omega arith)

-- a fetch answers a number of document 01
pub fetch-number : (L : Limits) (s : List ℕ) (state : ℕ) → FetchNumber L.terms (fetch_answer L s state).number
unfolding fetch_answer fetch_reading read_whole reading_of FetchNumber refusal_in run_answer answer_without_place
fetch-number L s state = go (scan_whole L s) (whole_tells L s)
  where
    go : (scan : Scan) → Tells L s scan → FetchNumber L.terms (fetch_reading s state (reading_of s scan)).number
    go (sound n m count end) t =
        either_less (λ (a : Answer). FetchNumber L.terms a.number) state (length (model_at s).labels)
        (either_less (λ (a : Answer). FetchNumber L.terms a.number) (run_start s state) (run_end s state) (inl (read_low L.terms 0 (omega arith))) (inl (read_low L.terms 0 (omega arith))))
        (inr refl)
    go (refused f place) t = inl t.known

-- it names the model or no file
pub fetch-file : (L : Limits) (s : List ℕ) (state : ℕ) → (fetch_answer L s state).file ≤ 1
unfolding fetch_answer fetch_reading read_whole reading_of refusal_in run_answer answer_without_place
fetch-file L s state = go (scan_whole L s)
  where
    go : (scan : Scan) → (fetch_reading s state (reading_of s scan)).file ≤ 1
    go (sound n m count end) =
        either_less (λ (a : Answer). a.file ≤ 1) state (length (model_at s).labels)
        (either_less (λ (a : Answer). a.file ≤ 1) (run_start s state) (run_end s state) (omega arith) (omega arith))
        (omega arith)
    go (refused f place) = omega arith

-- document 02, K2: an answer without a state
abbrev pub NoState : Answer → Type 0
NoState a = (a.state ≡ 0) × (a.remainder ≡ pos 0)

pub fetch-zero : (L : Limits) (s : List ℕ) (state : ℕ) → NoState (fetch_answer L s state)
unfolding fetch_answer fetch_reading read_whole reading_of refusal_in run_answer answer_without_place
fetch-zero L s state = go (scan_whole L s) (whole_tells L s)
  where
    go : (scan : Scan) → Tells L s scan → NoState (fetch_reading s state (reading_of s scan))
    go (sound n m count end) t =
        either_less NoState state (length (model_at s).labels)
        (either_less NoState (run_start s state) (run_end s state) (refl, refl) (refl, refl))
        (refl, refl)
    go (refused f place) t = t.told.otherwise (read-otherwise L.terms _ t.known)

-- its stretch or run lies in the file
pub fetch-inside : (L : Limits) (s : List ℕ) (state : ℕ) → (fetch_answer L s state).stretch_start + (fetch_answer L s state).stretch_length ≤ length s
unfolding fetch_answer fetch_reading read_whole reading_of refusal_in run_answer answer_without_place run_start run_end
fetch-inside L s state = go (scan_whole L s) (whole_tells L s)
  where
    Inside : Answer → Type 0
    Inside a = a.stretch_start + a.stretch_length ≤ length s

    go : (scan : Scan) → Tells L s scan → Inside (fetch_reading s state (reading_of s scan))
    go (sound n m count end) t =
        let r = run-most s state in
        let a = place_inside L s n m count end t (run_first s state) (omega arith) in
        let b = place_inside L s n m count end t (run_past s state) (omega arith) in
        either_less Inside state (length (model_at s).labels)
        (either_less Inside (place_of s (run_first s state)) (place_of s (run_past s state)) (omega arith) (omega arith))
        (omega arith)
    go (refused f place) t = omega (arith, t.inside)

-- what is read is the model in the bytes
pub read-model : (L : Limits) (s : List ℕ) {N : Model} {end : ℕ} → read_whole L s ≡ model N end → N ≡ model_at s
unfolding read_whole reading_of
read-model L s {N} {end} e = go (scan_whole L s) e
  where
    go : (scan : Scan) → reading_of s scan ≡ model N end → N ≡ model_at s
    go (sound n m count last) q = cc
    go (refused f place) q = let z : ◌≡◌ {A = ℕ} 0 1 = cc in absurd (omega arith)

-- the states of what is read are those of the head
pub read-states : (L : Limits) (s : List ℕ) {N : Model} {end : ℕ} → read_whole L s ≡ model N end → length N.labels ≡ states_of s
unfolding read_whole reading_of
read-states L s {N} {end} e = go (scan_whole L s) (whole_tells L s) e
  where
    go : (scan : Scan) → Tells L s scan → reading_of s scan ≡ model N end → length N.labels ≡ states_of s
    go (sound n m count last) t q =
        let same : model_at s ≡ N = cc in
        ap (λ (x : Model). length x.labels) (sym same) ∙ labels_length s (omega (arith, t.states, t.labels))
    go (refused f place) t q = let z : ◌≡◌ {A = ℕ} 0 1 = cc in absurd (omega arith)

-- the number, the state and the remainder of an answer
abbrev pub fault_in : Answer → Fault
fault_in a = fault_by a.number a.state a.remainder

-- nothing is written: the buffers are as they were
pub left-unwritten : (a : Answer) (before : List (List ℕ)) → left_in (unwritten a before) ≡ before
unfolding unwritten
left-unwritten a [] = refl
left-unwritten a (buffer ∷ before) = ap (λ (l : List (List ℕ)). buffer ∷ l) (left-unwritten a before)

-- files are written, or there is no room for one
module _ (short : ℕ) (files before : List (List ℕ)) where
  -- it answers 0 or that number, and writes on 0 alone
  pub files-number {κ} : (P : ℕ → Type κ) → P 0 → P short → P (files_outcome short files before).answer.number
  unfolding files_outcome unwritten filled answer_without_place
  files-number P z s = either_true (λ (o : Outcome). P o.answer.number) (room_for files before) z s

  pub files-zero : NoState (files_outcome short files before).answer
  unfolding files_outcome unwritten filled answer_without_place
  files-zero = either_true (λ (o : Outcome). NoState o.answer) (room_for files before) (refl, refl) (refl, refl)

  pub files-told : Otherwise short → Told (fault_in (files_outcome short files before).answer)
  unfolding files_outcome unwritten filled answer_without_place
  files-told o =
      either_true (λ (o : Outcome). Told (fault_in o.answer)) (room_for files before) (told-fault 0 (omega arith)) (told-fault short o)

  pub files-unwritten : ((files_outcome short files before).answer.number ≡ 0 → ⊥) → left_in (files_outcome short files before) ≡ before
  unfolding files_outcome filled answer_without_place
  files-unwritten =
      either_true (λ (o : Outcome). (o.answer.number ≡ 0 → ⊥) → left_in o ≡ before) (room_for files before) (λ n. absurd (n refl)) (λ n. left-unwritten _ before)

  -- it names no file
  pub files-without {κ} : (P : Answer → Type κ) → ((number : ℕ) → P (answer_without_place number)) → P (files_outcome short files before).answer
  unfolding files_outcome unwritten filled
  files-without P h = either_true (λ (o : Outcome). P o.answer) (room_for files before) (h 0) (h short)

-- one file
module _ (short : ℕ) (file buffer : List ℕ) where
  pub file-short : length buffer < length file → unwritten (answer_without_place short) (buffer ∷ []) ≡ files_outcome short (file ∷ []) (buffer ∷ [])
  unfolding files_outcome room_for
  file-short h = is_false _ (sym (less _ h refl)) refl

  pub file-whole : length file ≤ length buffer → filled (file ∷ []) (buffer ∷ []) ≡ files_outcome short (file ∷ []) (buffer ∷ [])
  unfolding files_outcome room_for
  file-whole h = is_true _ (sym (not_less _ h refl)) refl

  pub file-fits : (short ≡ 0 → ⊥) → (files_outcome short (file ∷ []) (buffer ∷ [])).answer.number ≡ 0 → length file ≤ length buffer
  unfolding unwritten answer_without_place
  file-fits some z = go (dec_lt (length buffer) (length file))
    where
      go : Dec (length buffer < length file) → length file ≤ length buffer
      go (yes h) = absurd (some (ap (λ (o : Outcome). o.answer.number) (file-short h) ∙ z))
      go (no h) = omega arith

  pub file-lacks : (short ≡ 0 → ⊥) → (files_outcome short (file ∷ []) (buffer ∷ [])).answer.number ≡ short → length buffer < length file
  unfolding filled answer_without_place
  file-lacks some z = go (dec_lt (length buffer) (length file))
    where
      go : Dec (length buffer < length file) → length buffer < length file
      go (yes h) = h
      go (no h) = absurd (some (sym (ap (λ (o : Outcome). o.answer.number) (file-whole (omega arith)) ∙ z)))

-- the length written into the second buffer, where nothing is
pub none-second : (a : Answer) (before : List (List ℕ)) → second_written (unwritten a before) ≡ 0
unfolding unwritten
none-second a [] = refl
none-second a (one ∷ []) = refl
none-second a (one ∷ two ∷ before) = refl

-- two files and two buffers
module _ (short : ℕ) (first second one two : List ℕ) where
  -- either buffer is too short
  pub first_short : length one < length first → unwritten (answer_without_place short) (one ∷ two ∷ []) ≡ files_outcome short (first ∷ second ∷ []) (one ∷ two ∷ [])
  unfolding files_outcome room_for
  first_short h = is_false _ (sym (less _ h refl)) refl

  pub second_short : length first ≤ length one → length two < length second → unwritten (answer_without_place short) (one ∷ two ∷ []) ≡ files_outcome short (first ∷ second ∷ []) (one ∷ two ∷ [])
  unfolding files_outcome room_for
  second_short g h = is_false _ (sym (not_less _ g (less _ h refl))) refl

  -- or neither is
  pub both-fit : length first ≤ length one → length second ≤ length two → filled (first ∷ second ∷ []) (one ∷ two ∷ []) ≡ files_outcome short (first ∷ second ∷ []) (one ∷ two ∷ [])
  unfolding files_outcome room_for
  both-fit g h = is_true _ (sym (not_less _ g (not_less _ h refl))) refl

  pub both-fits : (short ≡ 0 → ⊥) → (files_outcome short (first ∷ second ∷ []) (one ∷ two ∷ [])).answer.number ≡ 0 → (length first ≤ length one) × (length second ≤ length two)
  unfolding unwritten answer_without_place
  both-fits some z = go (dec_lt (length one) (length first)) (dec_lt (length two) (length second))
    where
      go : Dec (length one < length first) → Dec (length two < length second) → (length first ≤ length one) × (length second ≤ length two)
      go (yes h) d = absurd (some (ap (λ (o : Outcome). o.answer.number) (first_short h) ∙ z))
      go (no n) (yes h) = absurd (some (ap (λ (o : Outcome). o.answer.number) (second_short (omega arith) h) ∙ z))
      go (no n) (no m) = (omega arith, omega arith)
