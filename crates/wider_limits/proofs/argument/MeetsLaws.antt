-- Document 02, K7: 'An older part meets a larger sound model with 3 or 8', and which of the two, and where.
use Prim.Native.Nat.{ℕ, zero, suc, ◌+◌, ◌≤◌, ◌<◌}
use Rattle.std.proofs.Math.Path.{◌≡◌, refl, sym, ap, subst}
use Rattle.std.proofs.Common.{◌∙◌}
use Rattle.std.specs.Prelude.{◌↔◌, take}
use Rattle.std.proofs.Math.Logic.{inl, inr, ⊎_elim}
use mathlib.Core.List.{List, [], ◌∷◌, ◌++◌, append-nil}
use Rattle.std.proofs.Math.ListN.{length}
use Rattle.std.proofs.Math.Decide.{dec_lt}
use native.Mathlib.Omega.{arith}
use Rattle.bisimulation.proofs.argument.ChoiceLaws.{less, not_less}
use Rattle.rules.specs.definitions.Limits.{Terms, Limits}
use Rattle.rules.specs.definitions.Model.{Transition, Model, model_bytes}
use Rattle.rules.specs.definitions.SoundModel.{Each, sum_over, HasTerms, entry_count, SoundModel, FitsWidths}
use Rattle.rules.specs.definitions.Faults.{fault, model_record}
use Rattle.rules.proofs.argument.FaultLaws.{first-none, first_stops, opens}
use Rattle.rules.specs.definitions.Reading.{states_of, actions_of, count_of, range_fault, head_fault, source_at, entry_count_at, fixed_fault, fixed_fault_at, transition_fault, Scan, sound, refused, scan_transitions, scan_model, refuse_bytes_left, scan_whole, transition_at, transitions_at, model_at, Reading, model, reading_of, read_whole, place_of}
use Rattle.rules.specs.definitions.Certificate.{FileRule}
use Rattle.rules.specs.definitions.Judging.{Reader}
use Rattle.rules.specs.definitions.Accepted.{FileOf}
use Rattle.rules.specs.definitions.Answers.{Outcome, refusal_in, fetch_reading, fetch_answer, fetch_outcome, unwritten, Follows, pair_outcome}
use Rattle.rules.specs.definitions.Made.{OfTwo, two_outcome}
use Rattle.rules.proofs.argument.PairOutcome.{outcome-refused}
use Rattle.rules.proofs.argument.MadeLaws.{first-refused, second-refused}
use Rattle.rules.proofs.argument.ReadingLaws.{PassedTransition, transition-passed, head_passed, refuse-stops, refuse-passes, Sound, Tells, scan-tells}
use Rattle.rules.proofs.argument.ReadBack.{ModelBack, model-back, read-back-whole}
use Rattle.rules.proofs.argument.ReadSound.{refuse-past}
use Rattle.rules.proofs.argument.FetchedRun.{length-entries_at}
use Rattle.cost_files.specs.definitions.CostModel.{cost_model_bytes, CostFileOf, costs_bytes}
use Rattle.cost_files.specs.definitions.CostReading.{scan_cost_record, scan_cost_model, read_costs}
use Rattle.cost_files.proofs.argument.CostReadingLaws.{cost-read-back}
use Rattle.wider_limits.specs.definitions.Wider.{Within, OthersStay, entries_before, PassedAt, Meets, Larger, ThreeOrEight, RefusesLarger}
use Rattle.wider_limits.proofs.argument.ReadingWider.{head-passes, labels-pass, transition-passes}

abbrev entries_in : List Transition → ℕ
entries_in ts = sum_over (λ (t : Transition). length t.entries) ts

-- there is one such transition at most: entries before a transition never descend
entries-ascend : (ts : List Transition) (r q : ℕ) → r ≤ q → entries_in (take r ts) ≤ entries_in (take q ts)
unfolding sum_over
entries-ascend ts zero q h = omega arith
entries-ascend ts (suc r) zero h = absurd (omega arith)
entries-ascend [] (suc r) (suc q) h = omega arith
entries-ascend (t ∷ ts) (suc r) (suc q) h = omega (arith, entries-ascend ts r q (omega arith))

pub passed-once : (L : Limits) (M : Model) (r q : ℕ) → PassedAt L M r → PassedAt L M q → r ≡ q
unfolding entries_before
passed-once L M r q a b = go (dec_lt r q) (dec_lt q r)
  where
    go : Dec (r < q) → Dec (q < r) → r ≡ q
    go (yes h) e = absurd (omega (arith, a.with, b.before, entries-ascend M.transitions (suc r) q (omega arith)))
    go (no h) (yes e) = absurd (omega (arith, b.with, a.before, entries-ascend M.transitions (suc q) r (omega arith)))
    go (no h) (no e) = omega arith

-- a transition that passes within other limits, and with which the entries pass the limit: 8
transition-over : (L W : Limits) (s : List ℕ) (n m last entries at : ℕ) → PassedTransition W s n m last entries at → L.entries < entries + entry_count_at s at → fault 8 ≡ transition_fault L s n m last entries at
unfolding transition_fault fixed_fault_at fixed_fault
transition-over L W s n m last entries at p over =
    first-none _ _ (opens model_record 0x5452 7 s at (omega arith) p.mark p.fixed)
    (first_stops _ _
    (not_less _ p.ascends
    (less _ p.source
    (less _ p.action
    (less _ p.denominator
    (less _ p.some
    (not_less _ p.most
    (less _ over
    refl)))))))
    (omega arith))

module _ (L W : Limits) (terms : W.terms ≡ L.terms) (s : List ℕ) where
  -- a head that passes within other limits, with more states than the limit: 3
  states-over : (n m count end : ℕ) → sound n m count end ≡ scan_model W s → L.states < states_of s → scan_model L s ≡ refused (fault 3) 0
  unfolding scan_model head_fault range_fault
  states-over n m count end e over =
      let a = refuse-past n m count end _ 0 _ e in
      let h = head_passed W s a.0 in
      sym
      (refuse-stops _ 0 _
      (first-none _ _ (opens model_record 0x5041 6 s 0 (omega arith) h.mark h.whole) (less _ h.some (less _ over refl)))
      (omega arith))

  -- the transitions left, from the transition r on: the scan stops at the one with which the entries pass the limit
  record Stops (n m count left r last entries : ℕ) : Type 0 where
    k : ℕ
    transition : k < left
    before : entries + entries_in (take k (transitions_at s left (place_of s r))) ≤ L.entries
    with : L.entries < entries + entries_in (take (suc k) (transitions_at s left (place_of s r)))
    scan : refused (fault 8) (place_of s (r + k)) ≡ scan_transitions L s n m count left last entries (place_of s r)

  entries_over : (n m count left r last entries n₁ m₁ count₁ end : ℕ) → sound n₁ m₁ count₁ end ≡ scan_transitions W s n m count left last entries (place_of s r) → entries ≤ L.entries → L.entries < entries + entries_in (transitions_at s left (place_of s r)) → Stops n m count left r last entries
  unfolding scan_transitions transitions_at transition_at sum_over place_of
  entries_over n m count zero r last entries n₁ m₁ count₁ end e few over = absurd (omega arith)
  entries_over n m count (suc left) r last entries n₁ m₁ count₁ end e few over =
      let at = place_of s r in
      let a = refuse-past n₁ m₁ count₁ end _ at _ e in
      let p = transition-passed W s n m last entries at a.0 in
      go p (dec_lt L.entries (entries + entry_count_at s at))
      (λ h. entries_over n m count left (suc r) (source_at s at) (entries + entry_count_at s at) n₁ m₁ count₁ end a.1 h (omega (arith, over, length-entries_at s (entry_count_at s at) (at + 7))))
    where
      go : PassedTransition W s n m last entries (place_of s r) → Dec (L.entries < entries + entry_count_at s (place_of s r)) → (entries + entry_count_at s (place_of s r) ≤ L.entries → Stops n m count left (suc r) (source_at s (place_of s r)) (entries + entry_count_at s (place_of s r))) → Stops n m count (suc left) r last entries
      go p (yes h) later =
          let z : r + 0 ≡ r = omega arith in
          record {
            k = 0;
            transition = omega arith;
            before = omega arith;
            with = omega (arith, h, length-entries_at s (entry_count_at s (place_of s r)) (place_of s r + 7));
            scan = ap (λ (j : ℕ). refused (fault 8) (place_of s j)) z ∙ refuse-stops _ _ _ (transition-over L W s n m last entries (place_of s r) p h) (omega arith);
          }
      go p (no h) later =
          let x = later (omega arith) in
          let z : r + suc x.k ≡ suc r + x.k = omega arith in
          let size = length-entries_at s (entry_count_at s (place_of s r)) (place_of s r + 7) in
          record {
            k = suc x.k;
            transition = omega (arith, x.transition);
            before = omega (arith, x.before, size);
            with = omega (arith, x.with, size);
            scan =
                ap (λ (j : ℕ). refused (fault 8) (place_of s j)) z
                ∙ refuse-passes _ refl (transition-passes L W s n m last entries (place_of s r) terms p (omega arith)) x.scan;
          }

module _ (L W : Limits) (within : Within L W) (others : OthersStay L W) (widths : FitsWidths W) where
  narrower-fit : FitsWidths L
  narrower-fit =
      record {
        states = omega (arith, within.states, widths.states);
        actions = omega (arith, within.actions, widths.actions);
        transitions = omega (arith, within.transitions, widths.transitions);
        label = omega (arith, within.label, widths.label);
      }

  -- a model that is sound within the wider limits is sound within the others, where its states and entries are within them
  pub sound-narrower : (M : Model) → SoundModel W M → length M.labels ≤ L.states → entry_count M ≤ L.entries → SoundModel L M
  sound-narrower M ok states entries =
      record {
        some_state = ok.some_state;
        states = states;
        some_action = ok.some_action;
        actions = omega (arith, ok.actions, others.actions);
        count = omega (arith, ok.count, others.transitions);
        labels = subst (λ (k : ℕ). Each (λ (b : ℕ). b ≤ k) M.labels) (sym others.label) ok.labels;
        transitions = ok.transitions;
        sources = ok.sources;
        entries = entries;
        terms = subst (λ (t : Terms). Each (HasTerms t) M.transitions) (sym within.terms) ok.terms;
      }

  -- a file that begins with the records of such a model
  module _ (M : Model) (ok : SoundModel W M) (s rest : List ℕ) (stands : s ≡ model_bytes M ++ rest) where
    back : ModelBack W M s
    back = model-back W M widths ok s rest stands

    told : Sound W s (length M.labels) M.actions (length M.transitions) (length (model_bytes M))
    told = subst (Tells W s) (sym back.scan) (scan-tells W s)

    three : L.states < length M.labels → scan_model L s ≡ refused (fault 3) 0
    three over = states-over L W (sym within.terms) s _ _ _ _ back.scan (omega (arith, over, told.states))

    -- the transitions that stand in the file
    transitions-are : transitions_at s (count_of s) (place_of s 0) ≡ M.transitions
    unfolding place_of
    transitions-are = unfold model_at in ap (λ (N : Model). N.transitions) back.value

    eight : length M.labels ≤ L.states → L.entries < entry_count M → (r : ℕ) × PassedAt L M r × (scan_model L s ≡ refused (fault 8) (place_of s r))
    unfolding scan_model entries_before place_of
    eight states over =
        let n = length M.labels in
        let a = refuse-past n M.actions (length M.transitions) (length (model_bytes M)) _ 0 _ back.scan in
        let b = refuse-past n M.actions (length M.transitions) (length (model_bytes M)) _ 6 _ a.1 in
        let h = head_passed W s a.0 in
        let x : Stops L W (sym within.terms) s (states_of s) (actions_of s) (count_of s) (count_of s) 0 0 0 =
        entries_over L W (sym within.terms) s (states_of s) (actions_of s) (count_of s) (count_of s) 0 0 0 n M.actions (length M.transitions) (length (model_bytes M)) b.1
        (omega arith) (omega (arith, over, ap entries_in transitions-are)) in
        let z : 0 + x.k ≡ x.k = omega arith in (
          x.k,
          record {
            transition = omega (arith, x.transition, told.transitions);
            before = omega (arith, x.before, ap (λ (ts : List Transition). entries_in (take x.k ts)) transitions-are);
            with = omega (arith, x.with, ap (λ (ts : List Transition). entries_in (take (suc x.k) ts)) transitions-are);
          },
          sym
              (refuse-passes 0 refl
              (head-passes L W s h (omega (arith, states, told.states)) (omega (arith, h.actions, others.actions)) (omega (arith, h.transitions, others.transitions)))
              (refuse-passes 6 refl (labels-pass L W (omega (arith, others.label)) s (states_of s) b.0)
              (ap (λ (k : ℕ). refused (fault 8) (place_of s k)) (sym z) ∙ x.scan))),
        )

  -- a file of a model: 3, 8, or it is read
  pub whole_meets : (file : List ℕ) (M : Model) → FileOf W file M → Meets L (read_whole L) file M
  unfolding read_whole scan_whole refuse_bytes_left reading_of
  whole_meets file M f =
      let stands = f.encoded ∙ sym (append-nil (model_bytes M)) in
      let reading : Scan → Reading = λ scan. reading_of file (refuse_bytes_left file scan) in
      record {
        states = λ over. ap reading (three M f.sound file [] stands over);
        entries = λ states over. let x = eight M f.sound file [] stands states over in (x.0, x.1, ap reading x.2);
        reads = λ states entries. subst (λ (l : List ℕ). read_whole L l ≡ model M (length l)) (sym f.encoded) (read-back-whole L M narrower-fit (sound-narrower M f.sound states entries));
      }

  -- of a model with costs
  pub cost-meets : (file : List ℕ) (M : Model) → CostFileOf W file M → Meets L (read_costs L) file M
  unfolding read_costs scan_cost_model scan_cost_record refuse_bytes_left reading_of cost_model_bytes
  cost-meets file M f =
      let reading : Scan → Reading = λ scan. reading_of file (refuse_bytes_left file (scan_cost_record file scan)) in
      record {
        states = λ over. ap reading (three M f.sound file (costs_bytes f.costs) f.encoded over);
        entries = λ states over. let x = eight M f.sound file (costs_bytes f.costs) f.encoded states over in (x.0, x.1, ap reading x.2);
        reads = λ states entries.
            cost-read-back L narrower-fit file M
            (record { costs = f.costs; sound = sound-narrower M f.sound states entries; right = f.right; encoded = f.encoded });
      }

module _ (L : Limits) (read : Reader) (file : List ℕ) (M : Model) (meets : Meets L read file M) where
  -- a larger model is met with 3 or 8
  pub three-or-eight : Larger L M → ThreeOrEight read file
  unfolding Larger
  three-or-eight h = go (dec_lt L.states (length M.labels))
    where
      go : Dec (L.states < length M.labels) → ThreeOrEight read file
      go (yes over) = record { number = 3; place = 0; either = inl refl; refused = meets.states over }
      go (no few) =
          let over : L.entries < entry_count M = ⊎_elim (λ x. absurd (omega (arith, x, few))) (λ x. x) h in
          let x = meets.entries (omega arith) over in
          record { number = 8; place = place_of file x.0; either = inr refl; refused = x.2 }

  -- and a model is read exactly when it is not larger
  pub reads-exactly : (read file ≡ model M (length file)) ↔ ((length M.labels ≤ L.states) × (entry_count M ≤ L.entries))
  unfolding Larger
  reads-exactly = (λ e. (within e (dec_lt L.states (length M.labels)), few e (dec_lt L.entries (entry_count M))), λ h. meets.reads h.0 h.1)
    where
      not-larger : read file ≡ model M (length file) → Larger L M → ⊥
      not-larger e h = let x = three-or-eight h in let q = sym e ∙ x.refused in let z : ◌≡◌ {A = ℕ} 0 1 = cc in omega arith

      within : read file ≡ model M (length file) → Dec (L.states < length M.labels) → length M.labels ≤ L.states
      within e (yes h) = absurd (not-larger e (inl h))
      within e (no h) = omega arith

      few : read file ≡ model M (length file) → Dec (L.entries < entry_count M) → entry_count M ≤ L.entries
      few e (yes h) = absurd (not-larger e (inr h))
      few e (no h) = omega arith

-- every call that reads such a file refuses it so
module _ (read : Reader) (file : List ℕ) (x : ThreeOrEight read file) where
  refused-so : {which : ℕ} {before : List (List ℕ)} {o : Outcome} → unwritten (refusal_in (fault x.number) which x.place (length file)) before ≡ o → RefusesLarger which file before o
  refused-so e = record { number = x.number; place = x.place; either = x.either; refuses = sym e }

  -- one that judges
  pub call-refuses : (L : Limits) (rule : FileRule) (follows : Follows) (C : List ℕ) (before : List (List ℕ)) → RefusesLarger 1 file before (pair_outcome L read rule follows file C before)
  call-refuses L rule follows C before = refused-so (outcome-refused L read rule follows file C before _ _ x.refused)

  -- one that reads two models, as its first, whatever the second is
  pub first-refuses : (made : OfTwo) (second : List ℕ) (before : List (List ℕ)) → RefusesLarger 1 file before (two_outcome read made file second before)
  first-refuses made second before = refused-so (first-refused read made file second before _ _ x.refused)

  -- and as its second
  pub second-refuses : (made : OfTwo) (first : List ℕ) (before : List (List ℕ)) {N : Model} {end : ℕ} → read first ≡ model N end → RefusesLarger 3 file before (two_outcome read made first file before)
  second-refuses made first before e = refused-so (second-refused read made first file before _ _ e x.refused)

-- the fetch
pub fetch-refuses : (L : Limits) (file : List ℕ) → ThreeOrEight (read_whole L) file → (state : ℕ) → RefusesLarger 1 file [] (fetch_outcome L file state)
unfolding fetch_answer fetch_reading unwritten
fetch-refuses L file x state =
    refused-so (read_whole L) file x (ap (λ (r : Reading). record { answer = fetch_reading file state r; lent = [] }) (sym x.refused))
