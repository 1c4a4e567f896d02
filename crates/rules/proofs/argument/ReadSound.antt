-- A model that is read is sound, and the bytes read are the bytes of the model.
use Rattle.std.specs.Prelude.{ℕ, zero, suc, ◌+◌, ◌*◌, ◌≤◌, ◌<◌, ◌↔◌, ◌≡◌, refl, List, ◌∷◌, ◌++◌, length, take, drop}
use Rattle.std.proofs.Common.{sym, ◌∙◌, ap, subst, append_assoc, length-append, length-drop, take-append-drop, length-take-le, take_at, drop-drop, take_all, arith}
use Rattle.bisimulation.proofs.argument.ChoiceLaws.{past_less, kept_same}
use Rattle.rules.specs.definitions.Limits.{Limits}
use Rattle.rules.specs.definitions.Bytes.{byte_at, two_at, two_bytes}
use Rattle.rules.specs.definitions.Faults.{Fault, fault, Passes}
use Rattle.rules.proofs.argument.FaultLaws.{pass-if_less, pass-unless_less, pass-unless_same}
use Rattle.rules.proofs.argument.BytesLaws.{byte-then, two-small, two_then}
use Rattle.rules.specs.definitions.Model.{Entry, Transition, Model, entries_bytes, transition_bytes, transitions_bytes, head_bytes, labels_bytes, model_bytes}
use Rattle.rules.specs.definitions.Reading.{states_of, actions_of, count_of, label_fault, source_at, action_at, denominator_at, entry_count_at, after_transition, entries_fault, transition_fault, Scan, sound, refused, refuse_at, scan_transitions, scan_model, refuse_bytes_left, scan_whole, entries_at, transition_at, transitions_at, model_at, model, reading_of, read_model, read_whole}
use Rattle.rules.proofs.argument.ReadingLaws.{Tells, scan-tells, transition-passed, head_passed, labels-passed}
use Rattle.rules.specs.definitions.SoundModel.{Each, sum_over, Bytes, TransitionRules, HasTerms, SoundModel, FitsWidths}
use Rattle.rules.proofs.argument.SoundModelLaws.{From, StatesFrom, SourcesFrom, from-lower, along-from}
use Rattle.rules.proofs.argument.TermsLaws.{terms-exactly}
use Rattle.rules.proofs.argument.ReadBack.{read_back, read-back-whole}

-- the labels at a place
labels-sound : (L : Limits) (s : List ℕ) (n at : ℕ) → at + n ≤ length s → Passes (label_fault L s n at) → Each (λ (b : ℕ). b ≤ L.label) (take n (drop at s))
unfolding label_fault Each
labels-sound L s zero at inside e = tt
labels-sound L s (suc n) at inside e =
    let a = pass-if_less _ _ _ _ e (omega arith) in
    rw (byte-then s at (at + 1) refl (omega arith) refl) (a.0, labels-sound L s n (at + 1) (omega arith) a.1)

-- the entries at a place, up to the place `end`
record EntriesSound (s : List ℕ) (n d left at lowest total end : ℕ) : Type 0 where
  count : length (entries_at s left at) ≡ left
  ascend : StatesFrom lowest (entries_at s left at)
  states : Each (λ (e : Entry). e.state < n) (entries_at s left at)
  weights : Each (λ (e : Entry). 1 ≤ e.weight) (entries_at s left at)
  whole : total + sum_over (λ (e : Entry). e.weight) (entries_at s left at) ≡ d
  bytes : drop at s ≡ entries_bytes (entries_at s left at) ++ drop end s

entries-sound : (s : List ℕ) → Bytes s → (n d left at lowest total end : ℕ) → end ≡ at + 3 * left → end ≤ length s → Passes (entries_fault s n d left at lowest total) → EntriesSound s n d left at lowest total end
unfolding entries_fault entries_at entries_bytes two_bytes Each sum_over From
entries-sound s bytes n d zero at lowest total end is_end inside e =
    let place : at ≡ end = omega arith in
    let a = pass-unless_same _ _ _ _ e (omega arith) in
    record { count = refl; ascend = tt; states = tt; weights = tt; whole = omega arith; bytes = ap (λ (k : ℕ). drop k s) place }
entries-sound s bytes n d (suc left) at lowest total end is_end inside e =
    let a = pass-if_less _ _ _ _ e (omega arith) in
    let b = pass-unless_less _ _ _ _ a.1 (omega arith) in
    let c = pass-unless_less _ _ _ _ b.1 (omega arith) in
    let later = entries-sound s bytes n d left (at + 3) (byte_at s at + 1) (total + two_at s (at + 1)) end (omega arith) inside c.1 in
    record {
      count = ap suc later.count;
      ascend = (a.0, from-lower (λ (x : Entry). x.state) (λ (x : Entry). suc x.state) (entries_at s left (at + 3)) (suc (byte_at s at)) (byte_at s at + 1) (omega arith) later.ascend);
      states = (b.0, later.states);
      weights = (c.0, later.weights);
      whole = omega (arith, later.whole);
      bytes =
          byte-then s at (at + 1) refl (omega arith)
          (two_then s bytes (at + 1) (at + 3) (omega arith) (omega arith) later.bytes);
    }

-- the transition at a place
record TransitionSound (s : List ℕ) (n m at : ℕ) : Type 0 where
  rules : TransitionRules n m (transition_at s at)
  count : length (transition_at s at).entries ≡ entry_count_at s at
  bytes : drop at s ≡ transition_bytes (transition_at s at) ++ drop (after_transition s at) s

transition-sound : (L : Limits) (s : List ℕ) → Bytes s → (n m last entries at : ℕ) → Passes (transition_fault L s n m last entries at) → TransitionSound s n m at
unfolding transition_at transition_bytes source_at action_at denominator_at entry_count_at after_transition two_bytes
transition-sound L s bytes n m last entries at e =
    let p = transition-passed L s n m last entries at e in
    let fixed : at + 7 ≤ length s = p.fixed in
    let es = entries-sound s bytes n (denominator_at s at) (entry_count_at s at) (at + 7) 0 0 (after_transition s at) refl p.whole p.shares in
    let mark = p.mark in
    let count = sym es.count in
    record {
      rules =
          record {
            source = p.source;
            action = p.action;
            positive = p.denominator;
            fits = two-small s bytes (at + 4) (at + 6) (omega arith) (omega arith);
            some = omega (arith, es.count, p.some);
            most = omega (arith, es.count, p.most);
            states = es.states;
            ascend = along-from _ _ _ 0 es.ascend;
            weights = es.weights;
            whole = omega (arith, es.whole);
          };
      count = es.count;
      bytes =
          two_then s bytes at (at + 2) refl (omega arith)
          (byte-then s (at + 2) (at + 3) (omega arith) (omega arith)
          (byte-then s (at + 3) (at + 4) (omega arith) (omega arith)
          (two_then s bytes (at + 4) (at + 6) (omega arith) (omega arith)
          (byte-then s (at + 6) (at + 7) (omega arith) fixed
          es.bytes)))) ∙
          (λ i. two_bytes (mark i) ++ (source_at s at ∷ action_at s at ∷ (two_bytes (denominator_at s at) ++ (count i ∷ (entries_bytes (transition_at s at).entries ++ drop (after_transition s at) s)))));
    }

-- a sound scan is past every record's fault
sound-not : (n m count end : ℕ) (f : Fault) (place : ℕ) → sound n m count end ≡ refused f place → ⊥
sound-not n m count end f place e = let z : ◌≡◌ {A = ℕ} 0 1 = cc in omega arith

pub refuse-past : (n m count end : ℕ) (f : Fault) (place : ℕ) (next : Scan) → sound n m count end ≡ refuse_at f place next → Passes f × (sound n m count end ≡ next)
unfolding refuse_at
refuse-past n m count end f place next e =
    let a = kept_same next (refused f place) f.number 0 (sound-not n m count end f place) e in
    (a.0, a.1)

-- the transitions at a place, up to the place `end`
record TransitionsSound (L : Limits) (s : List ℕ) (n m left last entries at end : ℕ) : Type 0 where
  count : length (transitions_at s left at) ≡ left
  rules : Each (TransitionRules n m) (transitions_at s left at)
  terms : Each (HasTerms L.terms) (transitions_at s left at)
  sources : SourcesFrom last (transitions_at s left at)
  few : entries + sum_over (λ (t : Transition). length t.entries) (transitions_at s left at) ≤ L.entries
  inside : end ≤ length s
  bytes : drop at s ≡ transitions_bytes (transitions_at s left at) ++ drop end s

transitions-sound : (L : Limits) (s : List ℕ) → Bytes s → (n m count left last entries at n₁ m₁ count₁ end : ℕ) → entries ≤ L.entries → at ≤ length s → sound n₁ m₁ count₁ end ≡ scan_transitions L s n m count left last entries at → TransitionsSound L s n m left last entries at end
unfolding scan_transitions transitions_at transition_at transitions_bytes Each From sum_over
transitions-sound L s bytes n m count zero last entries at n₁ m₁ count₁ end few inside e =
    let place : at ≡ end = cc in
    record { count = refl; rules = tt; terms = tt; sources = tt; few = omega arith; inside = omega arith; bytes = ap (λ (k : ℕ). drop k s) place }
transitions-sound L s bytes n m count (suc left) last entries at n₁ m₁ count₁ end few inside e =
    let a = refuse-past n₁ m₁ count₁ end _ at _ e in
    let p = transition-passed L s n m last entries at a.0 in
    let t = transition-sound L s bytes n m last entries at a.0 in
    let later =
    transitions-sound L s bytes n m count left (source_at s at) (entries + entry_count_at s at) (after_transition s at) n₁ m₁ count₁ end
    p.few p.whole a.1 in
    record {
      count = ap suc later.count;
      rules = (t.rules, later.rules);
      terms = ((terms-exactly L.terms _).0 p.terms, later.terms);
      sources = (p.ascends, later.sources);
      few = omega (arith, later.few, t.count);
      inside = later.inside;
      bytes =
          t.bytes ∙ ap (λ (l : List ℕ). transition_bytes (transition_at s at) ++ l) later.bytes ∙
          sym (append_assoc (transition_bytes (transition_at s at)) (transitions_bytes (transitions_at s left (after_transition s at))) (drop end s));
    }

-- the model at the front of a file, up to the place `end`
record ModelSound (L : Limits) (s : List ℕ) (end : ℕ) : Type 0 where
  rules : SoundModel L (model_at s)
  inside : end ≤ length s
  bytes : s ≡ model_bytes (model_at s) ++ drop end s

model-sound : (L : Limits) (s : List ℕ) → Bytes s → (n m count end : ℕ) → sound n m count end ≡ scan_model L s → ModelSound L s end
unfolding scan_model model_at model_bytes head_bytes labels_bytes two_bytes states_of actions_of count_of
model-sound L s bytes n m count end e =
    let a = refuse-past n m count end _ 0 _ e in
    let b = refuse-past n m count end _ 6 _ a.1 in
    let head = head_passed L s a.0 in
    let labels = labels-passed L s (states_of s) b.0 in
    let inside = labels.whole in
    let ts = transitions-sound L s bytes (states_of s) (actions_of s) (count_of s) (count_of s) 0 0 (8 + states_of s) n m count end (omega arith) inside b.1 in
    let size : length (take (states_of s) (drop 8 s)) ≡ states_of s = length-take-le (states_of s) (drop 8 s) (omega (arith, length-drop 8 s)) in
    let M = model_at s in
    let records : drop 8 s ≡ (M.labels ++ transitions_bytes M.transitions) ++ drop end s =
    sym (take-append-drop (states_of s) (drop 8 s)) ∙
    ap (λ (l : List ℕ). M.labels ++ l) (drop-drop (states_of s) 8 s ∙ ts.bytes) ∙
    sym (append_assoc M.labels (transitions_bytes M.transitions) (drop end s)) in
    record {
      rules =
          record {
            some_state = omega (arith, head.some);
            states = omega (arith, head.states);
            some_action = head.some_action;
            actions = head.actions;
            count = omega (arith, ts.count, head.transitions);
            labels = labels-sound L s (states_of s) 8 inside labels.small;
            transitions = subst (λ (k : ℕ). Each (TransitionRules k (actions_of s)) M.transitions) (sym size) ts.rules;
            sources = along-from _ _ _ 0 ts.sources;
            entries = omega (arith, ts.few);
            terms = ts.terms;
          };
      inside = ts.inside;
      bytes =
          two_then s bytes 0 2 refl (omega arith)
          (byte-then s 2 3 refl (omega arith)
          (byte-then s 3 4 refl (omega arith)
          (two_then s bytes 4 6 refl (omega arith)
          (two_then s bytes 6 8 refl (omega arith)
          records)))) ∙
          (λ i. two_bytes (head.mark i) ++ (sym size i ∷ M.actions ∷ (two_bytes (sym ts.count i) ++ (two_bytes (labels.mark i) ++ ((M.labels ++ transitions_bytes M.transitions) ++ drop end s)))));
    }

-- the scan behind a reading that gives a model
pub record Read (s : List ℕ) (scan : Scan) (M : Model) (end : ℕ) : Type 0 where
  pub n : ℕ
  pub m : ℕ
  pub count : ℕ
  pub scanned : sound n m count end ≡ scan
  pub value : model_at s ≡ M

pub read-scan : (s : List ℕ) (scan : Scan) (M : Model) (end : ℕ) → reading_of s scan ≡ model M end → Read s scan M end
unfolding reading_of
read-scan s (sound n m count last) M end e =
    let place : end ≡ last = cc in
    record { n = n; m = m; count = count; scanned = ap (sound n m count) place; value = cc }
read-scan s (refused f place) M end e = let z : ◌≡◌ {A = ℕ} 0 1 = cc in absurd (omega arith)

-- what reading the records of a model tells of the model and of the bytes
pub record SoundRead (L : Limits) (s : List ℕ) (M : Model) (end : ℕ) : Type 0 where
  pub rules : SoundModel L M
  pub inside : end ≤ length s
  pub bytes : take end s ≡ model_bytes M

scan-sound : (L : Limits) (s : List ℕ) (M : Model) (end : ℕ) → Bytes s → Read s (scan_model L s) M end → SoundRead L s M end
scan-sound L s M end bytes r =
    let ok = model-sound L s bytes r.n r.m r.count end r.scanned in
    let file : s ≡ model_bytes M ++ drop end s = subst (λ (N : Model). s ≡ model_bytes N ++ drop end s) r.value ok.bytes in
    let inside : end ≤ length s = ok.inside in
    let size : length (model_bytes M) ≡ end = omega (arith, ap length file, length-append (model_bytes M) (drop end s), length-drop end s) in
    record {
      rules = subst (SoundModel L) r.value ok.rules;
      inside = inside;
      bytes = ap (take end) file ∙ take_at (model_bytes M) (drop end s) end size;
    }

pub read-sound : (L : Limits) (s : List ℕ) (M : Model) (end : ℕ) → Bytes s → read_model L s ≡ model M end → SoundRead L s M end
unfolding read_model
read-sound L s M end bytes e = scan-sound L s M end bytes (read-scan s (scan_model L s) M end e)

-- no bytes are left after a sound scan of the whole file
pub none_left : (s : List ℕ) (scan : Scan) (n m count end : ℕ) → sound n m count end ≡ refuse_bytes_left s scan → (sound n m count end ≡ scan) × (length s ≤ end)
unfolding refuse_bytes_left
none_left s (sound n₁ m₁ count₁ last) n m count end e =
    let a = past_less (refused (fault 9) last) (sound n₁ m₁ count₁ last) last (length s) (sound-not n m count end (fault 9) last) e in
    let place : last ≡ end = cc in
    (a.1, omega arith)
none_left s (refused f place) n m count end e = absurd (sound-not n m count end f place e)

pub read-whole-sound : (L : Limits) (s : List ℕ) (M : Model) (end : ℕ) → Bytes s → read_whole L s ≡ model M end → SoundModel L M × (s ≡ model_bytes M)
unfolding read_whole scan_whole
read-whole-sound L s M end bytes e =
    let r = read-scan s (scan_whole L s) M end e in
    let a = none_left s (scan_model L s) r.n r.m r.count end r.scanned in
    let ok = scan-sound L s M end bytes (record { n = r.n; m = r.m; count = r.count; scanned = a.0; value = r.value }) in
    (ok.rules, sym (take_all end s a.1) ∙ ok.bytes)

-- and its records end where the file does
pub read-whole-ends : (L : Limits) (s : List ℕ) (M : Model) (end : ℕ) → read_whole L s ≡ model M end → end ≡ length s
unfolding read_whole scan_whole
read-whole-ends L s M end e =
    let r = read-scan s (scan_whole L s) M end e in
    let a = none_left s (scan_model L s) r.n r.m r.count end r.scanned in
    let t = subst (Tells L s) (sym a.0) (scan-tells L s) in
    omega (arith, a.1, t.inside)

-- a file begins with the records of M, up to the place `end`, exactly when it is read so
pub read-exactly : (L : Limits) (s : List ℕ) (M : Model) (end : ℕ) → FitsWidths L → Bytes s → (read_model L s ≡ model M end) ↔ SoundRead L s M end
read-exactly L s M end fits bytes = (read-sound L s M end bytes, back)
  where
    back : SoundRead L s M end → read_model L s ≡ model M end
    back r =
        let size : length (model_bytes M) ≡ end = ap length (sym r.bytes) ∙ length-take-le end s r.inside in
        let file : model_bytes M ++ drop end s ≡ s = ap (λ (l : List ℕ). l ++ drop end s) (sym r.bytes) ∙ take-append-drop end s in
        (λ i. read_model L (sym file i)) ∙ read_back L M fits r.rules (drop end s) ∙ ap (model M) size

-- the files that are read as M are the one file of M, where M is sound, and else none
pub read-whole-exactly : (L : Limits) (s : List ℕ) (M : Model) → FitsWidths L → Bytes s → (read_whole L s ≡ model M (length s)) ↔ (SoundModel L M × (s ≡ model_bytes M))
read-whole-exactly L s M fits bytes = (
  read-whole-sound L s M (length s) bytes,
  λ ok. subst (λ (l : List ℕ). read_whole L l ≡ model M (length l)) (sym ok.1) (read-back-whole L M fits ok.0),
)
