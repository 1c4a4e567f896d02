-- Document 02, K7: 'Stored files are read as they are'. Reading is monotone in the limits.
use Prim.Native.Nat.{ℕ, zero, suc, ◌+◌, ◌≤◌}
use Rattle.std.specs.Prelude.{◌≡◌, List}
use Rattle.std.proofs.Math.Path.{refl, sym, ap}
use Rattle.std.proofs.Common.{◌∙◌, subst, arith}
use Rattle.bisimulation.proofs.argument.ChoiceLaws.{less, not_less}
use Rattle.rules.specs.definitions.Limits.{Terms, Limits}
use Rattle.rules.specs.definitions.Model.{Model}
use Rattle.rules.specs.definitions.Faults.{Passes, model_record}
use Rattle.rules.proofs.argument.FaultLaws.{none_first, first-none, pass_on, pass-if_less, opens}
use Rattle.rules.specs.definitions.Reading.{states_of, actions_of, count_of, range_fault, head_fault, label_fault, labels_fault, source_at, entry_count_at, after_transition, fixed_fault, fixed_fault_at, transition_at, terms_fault, transition_fault, Scan, sound, scan_transitions, scan_model, refuse_bytes_left, scan_whole, model, reading_of, read_whole}
use Rattle.rules.proofs.argument.ReadingLaws.{PassedTransition, transition-passed, PassedHead, head_passed, refuse-passes}
use Rattle.rules.proofs.argument.ReadSound.{refuse-past, read-scan, none_left}
use Rattle.cost_files.specs.definitions.CostReading.{scan_cost_record, scan_cost_model, read_costs}
use Rattle.cost_files.proofs.argument.CostReadingLaws.{cost-scan}
use Rattle.wider_limits.specs.definitions.Wider.{Within, ReadsOn}

-- a head that passes elsewhere passes here, where its numbers are within the limits
pub head-passes : (L W : Limits) (s : List ℕ) → PassedHead W s → states_of s ≤ L.states → actions_of s ≤ L.actions → count_of s ≤ L.transitions → Passes (head_fault L s)
unfolding head_fault range_fault
head-passes L W s p states actions count =
    pass_on
    (first-none _ _ (opens model_record 0x5041 6 s 0 (omega arith) p.mark p.whole)
    (less _ p.some
    (not_less _ states
    (less _ p.some_action
    (not_less _ actions
    (not_less _ count
    refl))))))
    refl

-- labels
label-passes : (L W : Limits) → W.label ≤ L.label → (s : List ℕ) (left at : ℕ) → Passes (label_fault W s left at) → Passes (label_fault L s left at)
unfolding label_fault
label-passes L W h s zero at p = refl
label-passes L W h s (suc left) at p =
    let a = pass-if_less _ _ _ _ p (omega arith) in
    pass_on (not_less _ (omega arith) refl) (label-passes L W h s left (at + 1) a.1)

pub labels-pass : (L W : Limits) → W.label ≤ L.label → (s : List ℕ) (n : ℕ) → Passes (labels_fault W s n) → Passes (labels_fault L s n)
unfolding labels_fault
labels-pass L W h s n p = let a = none_first _ _ p in pass_on (first-none _ _ a.0 refl) (label-passes L W h s n 8 a.1)

-- a transition that passes elsewhere passes here, where the entries so far are within the limit
pub transition-passes : (L W : Limits) (s : List ℕ) (n m last entries at : ℕ) → W.terms ≡ L.terms → PassedTransition W s n m last entries at → entries + entry_count_at s at ≤ L.entries → Passes (transition_fault L s n m last entries at)
unfolding transition_fault fixed_fault_at fixed_fault
transition-passes L W s n m last entries at terms p few =
    pass_on
    (first-none _ _ (opens model_record 0x5452 7 s at (omega arith) p.mark p.fixed)
    (first-none _ _
    (pass_on
    (not_less _ p.ascends
    (less _ p.source
    (less _ p.action
    (less _ p.denominator
    (less _ p.some
    (not_less _ p.most
    (not_less _ few
    refl)))))))
    refl)
    (not_less _ p.whole
    (first-none _ _ p.shares refl))))
    (subst (λ (t : Terms). Passes (terms_fault t (transition_at s at))) terms p.terms)

module _ (L W : Limits) (within : Within L W) (s : List ℕ) where
  transitions-wider : (n m count left last entries at n₁ m₁ count₁ end : ℕ) → sound n₁ m₁ count₁ end ≡ scan_transitions L s n m count left last entries at → sound n₁ m₁ count₁ end ≡ scan_transitions W s n m count left last entries at
  unfolding scan_transitions
  transitions-wider n m count zero last entries at n₁ m₁ count₁ end e = e
  transitions-wider n m count (suc left) last entries at n₁ m₁ count₁ end e =
      let a = refuse-past n₁ m₁ count₁ end _ at _ e in
      let p = transition-passed L s n m last entries at a.0 in
      refuse-passes at refl (transition-passes W L s n m last entries at within.terms p (omega (arith, p.few, within.entries)))
      (transitions-wider n m count left (source_at s at) (entries + entry_count_at s at) (after_transition s at) n₁ m₁ count₁ end a.1)

  -- a scan without a refusal is the same within wider limits
  pub scan-wider : (n m count end : ℕ) → sound n m count end ≡ scan_model L s → scan_model W s ≡ scan_model L s
  unfolding scan_model
  scan-wider n m count end e =
      let a = refuse-past n m count end _ 0 _ e in
      let b = refuse-past n m count end _ 6 _ a.1 in
      let h = head_passed L s a.0 in
      let head = head-passes W L s h (omega (arith, h.states, within.states)) (omega (arith, h.actions, within.actions)) (omega (arith, h.transitions, within.transitions)) in
      sym
      (refuse-passes 0 refl head
      (refuse-passes 6 refl (labels-pass W L within.label s (states_of s) b.0)
      (transitions-wider (states_of s) (actions_of s) (count_of s) (count_of s) 0 0 (8 + states_of s) n m count end b.1)))
      ∙ e

  pub read-wider : (M : Model) (end : ℕ) → read_whole L s ≡ model M end → read_whole W s ≡ model M end
  unfolding read_whole scan_whole
  read-wider M end e =
      let r = read-scan s (scan_whole L s) M end e in
      let a = none_left s (scan_model L s) r.n r.m r.count end r.scanned in
      ap (λ (scan : Scan). reading_of s (refuse_bytes_left s scan)) (scan-wider r.n r.m r.count end a.0) ∙ e

  pub cost-read-wider : (M : Model) (end : ℕ) → read_costs L s ≡ model M end → read_costs W s ≡ model M end
  unfolding read_costs scan_cost_model
  cost-read-wider M end e =
      let r = read-scan s (scan_cost_model L s) M end e in
      let c = cost-scan L s r.n r.m r.count end r.scanned in
      ap (λ (scan : Scan). reading_of s (refuse_bytes_left s (scan_cost_record s scan))) (scan-wider r.n r.m r.count c.end (sym c.scanned)) ∙ e

-- the two readers, within wider limits
pub whole-reads-on : (L W : Limits) → Within L W → ReadsOn (read_whole L) (read_whole W)
whole-reads-on L W within = record { reads = read-wider L W within }

pub costs-read-on : (L W : Limits) → Within L W → ReadsOn (read_costs L) (read_costs W)
costs-read-on L W within = record { reads = cost-read-wider L W within }
