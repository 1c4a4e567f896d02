-- Reading the bytes of a sound model gives the model back.
use Rattle.std.specs.Prelude.{ℕ, suc, ◌+◌, ◌*◌, ◌≤◌, ◌<◌, ◌≡◌, refl, List, [], ◌∷◌, ◌++◌, length, take, drop}
use Rattle.std.proofs.Common.{sym, ◌∙◌, ap, subst, append_assoc, append-nil, length-append, arith}
use Rattle.std.proofs.Math.Seq.{take-append_seam}
use Rattle.bisimulation.proofs.argument.ChoiceLaws.{less, not_less, same}
use Rattle.rules.specs.definitions.Limits.{Limits}
use Rattle.rules.specs.definitions.Bytes.{byte_at, two_at, two_bytes}
use Rattle.rules.proofs.argument.BytesLaws.{past, past_all, stands-inside, first_byte, first_two}
use Rattle.rules.specs.definitions.Model.{Entry, Transition, Model, entries_bytes, transition_bytes, transitions_bytes, head_bytes, labels_bytes, model_bytes}
use Rattle.rules.specs.definitions.Reading.{states_of, actions_of, count_of, range_fault, head_fault, label_fault, labels_fault, source_at, action_at, denominator_at, entry_count_at, after_transition, fixed_fault, fixed_fault_at, entries_fault, transition_fault, Scan, sound, refused, scan_transitions, scan_model, refuse_bytes_left, scan_whole, entries_at, transition_at, transitions_at, model_at, model, reading_of, read_model, read_whole}
use Rattle.rules.proofs.argument.ReadingLaws.{refuse-passes}
use Rattle.rules.proofs.argument.TermsLaws.{terms-exactly}
use Rattle.rules.specs.definitions.Faults.{fault, Passes, model_record}
use Rattle.rules.proofs.argument.FaultLaws.{first-none, opens, pass_on}
use Rattle.rules.specs.definitions.SoundModel.{Each, sum_over, TransitionRules, HasTerms, SoundModel, FitsWidths}
use Rattle.rules.proofs.argument.SoundModelLaws.{From, StatesFrom, SourcesFrom, from-lower, from-along}

-- how long the records are
pub entries_bytes-length : (es : List Entry) → length (entries_bytes es) ≡ 3 * length es
unfolding entries_bytes two_bytes
entries_bytes-length [] = refl
entries_bytes-length (e ∷ es) = omega (arith, entries_bytes-length es)

pub transition_bytes-length : (t : Transition) → length (transition_bytes t) ≡ 7 + 3 * length t.entries
unfolding transition_bytes two_bytes
transition_bytes-length t = omega (arith, entries_bytes-length t.entries)

-- the labels that stand at a place
labels-back : (L : Limits) (s labels : List ℕ) (at : ℕ) (rest : List ℕ) → drop at s ≡ labels ++ rest → Each (λ (b : ℕ). b ≤ L.label) labels → Passes (label_fault L s (length labels) at)
unfolding label_fault Each
labels-back L s [] at rest stands known = refl
labels-back L s (b ∷ labels) at rest stands known =
    let here = first_byte s at stands in
    pass_on (not_less _ (omega arith) refl) (labels-back L s labels (at + 1) rest (past s at 1 stands) known.1)

-- the entries that stand at a place: no fault, and they are read as they are
entries-back : (s : List ℕ) (n d : ℕ) → d ≤ 65535 → (es : List Entry) (at lowest total : ℕ) (rest : List ℕ) → drop at s ≡ entries_bytes es ++ rest → StatesFrom lowest es → Each (λ (e : Entry). e.state < n) es → Each (λ (e : Entry). 1 ≤ e.weight) es → total + sum_over (λ (e : Entry). e.weight) es ≡ d → Passes (entries_fault s n d (length es) at lowest total) × (entries_at s (length es) at ≡ es)
unfolding entries_fault entries_at entries_bytes two_bytes From Each sum_over
entries-back s n d fits [] at lowest total rest stands from known some whole = (pass_on (same (fault 7) (omega arith) refl) refl, refl)
entries-back s n d fits (e ∷ es) at lowest total rest stands from known some whole =
    let state : byte_at s at ≡ e.state = first_byte s at stands in
    let weight : two_at s (at + 1) ≡ e.weight = first_two s (at + 1) e.weight _ (past s at 1 stands) (omega arith) in
    let later =
    entries-back s n d fits es (at + 3) (byte_at s at + 1) (total + two_at s (at + 1)) rest (past s at 3 stands)
    (from-lower _ _ es (byte_at s at + 1) (suc e.state) (omega arith) from.1) known.1 some.1 (omega arith) in (
      pass_on (not_less _ (omega arith) (less _ (omega arith) (less _ (omega arith) refl))) later.0,
      λ i. record { state = state i; weight = weight i } ∷ later.1 i,
    )

-- the transition that stands at a place
record TransitionBack (L : Limits) (s : List ℕ) (n m last entries at : ℕ) (t : Transition) : Type 0 where
  fault : Passes (transition_fault L s n m last entries at)
  value : transition_at s at ≡ t
  source : source_at s at ≡ t.source
  count : entry_count_at s at ≡ length t.entries
  after : after_transition s at ≡ at + length (transition_bytes t)

transition-back : (L : Limits) (s : List ℕ) (n m last entries at : ℕ) (t : Transition) (rest : List ℕ) → drop at s ≡ transition_bytes t ++ rest → TransitionRules n m t → HasTerms L.terms t → last ≤ t.source → entries + length t.entries ≤ L.entries → TransitionBack L s n m last entries at t
unfolding transition_fault transition_at fixed_fault_at fixed_fault source_at action_at denominator_at entry_count_at after_transition transition_bytes two_bytes
transition-back L s n m last entries at t rest stands rules terms follows few =
    let source = first_byte s (at + 2) (past s at 2 stands) in
    let action = first_byte s (at + 3) (past s at 3 stands) in
    let denominator = first_two s (at + 4) t.denominator _ (past s at 4 stands) rules.fits in
    let count = first_byte s (at + 6) (past s at 6 stands) in
    let inside = stands-inside s at (transition_bytes t) rest stands (omega arith) in
    let size = transition_bytes-length t in
    let shares =
    entries-back s n t.denominator rules.fits t.entries (at + 7) 0 0 rest (past s at 7 stands)
    (from-along _ _ t.entries rules.ascend) rules.states rules.weights (omega (arith, rules.whole)) in
    let fixed : Passes (fixed_fault_at L s n m last entries at) =
    pass_on
    (not_less _ (omega arith)
    (less _ (omega arith)
    (less _ (omega arith)
    (less _ (omega arith)
    (less _ (omega arith)
    (not_less _ (omega arith)
    (not_less _ (omega arith)
    refl)))))))
    refl in
    let shared : Passes (entries_fault s n (denominator_at s at) (entry_count_at s at) (at + 7) 0 0) =
    pass_on (λ i. entries_fault s n (sym denominator i) (sym count i) (at + 7) 0 0) shares.0 in
    let value : transition_at s at ≡ t =
    λ i.
    record {
      source = source i;
      action = action i;
      denominator = denominator i;
      entries = (ap (λ (k : ℕ). entries_at s k (at + 7)) count ∙ shares.1) i;
    } in
    record {
      fault =
          pass_on
          (first-none _ _ (opens model_record 0x5452 7 s at (omega arith) (first_two s at 0x5452 _ stands (omega arith)) (omega arith))
          (first-none _ _ fixed
          (not_less _ (omega arith)
          (first-none _ _ shared refl))))
          ((terms-exactly L.terms _).1 (subst (HasTerms L.terms) (sym value) terms));
      value = value;
      source = source;
      count = count;
      after = omega arith;
    }

-- the transitions that stand at a place
transitions-back : (L : Limits) (s : List ℕ) (n m count : ℕ) (ts : List Transition) (last entries at end : ℕ) (rest : List ℕ) → drop at s ≡ transitions_bytes ts ++ rest → Each (TransitionRules n m) ts → Each (HasTerms L.terms) ts → SourcesFrom last ts → entries + sum_over (λ (t : Transition). length t.entries) ts ≤ L.entries → end ≡ at + length (transitions_bytes ts) → (sound n m count end ≡ scan_transitions L s n m count (length ts) last entries at) × (transitions_at s (length ts) at ≡ ts)
unfolding scan_transitions transitions_at transitions_bytes From Each sum_over
transitions-back L s n m count [] last entries at end rest stands rules terms from few is_end = (ap (sound n m count) (omega arith), refl)
transitions-back L s n m count (t ∷ ts) last entries at end rest stands rules terms from few is_end =
    let here = stands ∙ append_assoc (transition_bytes t) (transitions_bytes ts) rest in
    let back = transition-back L s n m last entries at t (transitions_bytes ts ++ rest) here rules.0 terms.0 from.0 (omega arith) in
    let later =
    transitions-back L s n m count ts (source_at s at) (entries + entry_count_at s at) (after_transition s at) end rest
    (ap (λ (k : ℕ). drop k s) back.after ∙ past_all s at (transition_bytes t) here) rules.1 terms.1
    (from-lower _ _ ts (source_at s at) t.source (omega arith) from.1) (omega arith)
    (omega (arith, length-append (transition_bytes t) (transitions_bytes ts))) in
    (refuse-passes at refl back.fault later.0, λ i. back.value i ∷ later.1 i)

-- what the scan of a file that begins with a sound model is, and what stands in the file
pub record ModelBack (L : Limits) (M : Model) (s : List ℕ) : Type 0 where
  pub scan : sound (length M.labels) M.actions (length M.transitions) (length (model_bytes M)) ≡ scan_model L s
  pub value : model_at s ≡ M

pub model-back : (L : Limits) (M : Model) → FitsWidths L → SoundModel L M → (s rest : List ℕ) → s ≡ model_bytes M ++ rest → ModelBack L M s
unfolding scan_model model_at head_fault range_fault labels_fault states_of actions_of count_of model_bytes head_bytes labels_bytes two_bytes
model-back L M fits ok s rest stands =
    let n = length M.labels in
    let is_n : byte_at s 2 ≡ n = first_byte s 2 (past s 0 2 stands) in
    let is_m : byte_at s 3 ≡ M.actions = first_byte s 3 (past s 0 3 stands) in
    let is_count : two_at s 4 ≡ length M.transitions = first_two s 4 (length M.transitions) _ (past s 0 4 stands) (omega arith) in
    let labels : drop 8 s ≡ M.labels ++ (transitions_bytes M.transitions ++ rest) =
    past s 0 8 stands ∙ append_assoc M.labels (transitions_bytes M.transitions) rest in
    let transitions : drop (8 + n) s ≡ transitions_bytes M.transitions ++ rest = past_all s 8 M.labels labels in
    let inside : 8 + n ≤ length s = stands-inside s 8 M.labels _ labels ok.some_state in
    let back =
    transitions-back L s n M.actions (length M.transitions) M.transitions 0 0 (8 + n) (length (model_bytes M)) rest transitions
    ok.transitions ok.terms (from-along _ _ M.transitions ok.sources) (omega (arith, ok.entries))
    (omega (arith, length-append M.labels (transitions_bytes M.transitions))) in
    record {
      scan =
          refuse-passes 0
          (first-none _ _ (opens model_record 0x5041 6 s 0 (omega arith) (first_two s 0 0x5041 _ stands (omega arith)) (omega arith))
          (less _ (omega arith)
          (not_less _ (omega arith)
          (less _ (omega arith)
          (not_less _ (omega arith)
          (not_less _ (omega arith)
          refl)))))) refl
          (refuse-passes 6
          (first-none _ _ (opens model_record 0x4C42 (2 + states_of s) s 6 (omega arith) (first_two s 6 0x4C42 _ (past s 0 6 stands) (omega arith)) (omega arith)) refl)
          (rw is_n (labels-back L s M.labels 8 _ labels ok.labels))
          (rw (is_n, is_m, is_count) back.0));
      value = λ i.
          record {
            actions = is_m i;
            labels = ((λ j. take (is_n j) (labels j)) ∙ take-append_seam M.labels _) i;
            transitions = ((λ j. transitions_at s (is_count j) (8 + is_n j)) ∙ back.1) i;
          };
    }

-- the records of a sound model, whatever follows them
pub read_back : (L : Limits) (M : Model) → FitsWidths L → SoundModel L M → (rest : List ℕ) → read_model L (model_bytes M ++ rest) ≡ model M (length (model_bytes M))
unfolding read_model reading_of
read_back L M fits ok rest =
    let s = model_bytes M ++ rest in
    let back = model-back L M fits ok s rest refl in
    ap (reading_of s) (sym back.scan) ∙ ap (λ (m : Model). model m (length (model_bytes M))) back.value

-- a file that holds a sound model and nothing else
pub read-back-whole : (L : Limits) (M : Model) → FitsWidths L → SoundModel L M → read_whole L (model_bytes M) ≡ model M (length (model_bytes M))
unfolding read_whole scan_whole refuse_bytes_left reading_of
read-back-whole L M fits ok =
    let s = model_bytes M in
    let back = model-back L M fits ok s [] (sym (append-nil s)) in
    ap (λ (k : Scan). reading_of s (refuse_bytes_left s k)) (sym back.scan) ∙ ap (reading_of s) (sym (not_less (refused (fault 9) (length s)) (omega arith) refl)) ∙ ap (λ (m : Model). model m (length s)) back.value
