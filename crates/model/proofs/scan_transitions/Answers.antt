-- `scan_transitions` meets its contract. The invariant is `Walked`.
use Prim.Native.Nat.{ℕ, ◌+◌, ◌-◌, ◌<◌}
use mathlib.Core.List.{List}
use mathlib.Core.Path.{◌≡◌, refl, sym, ◌∙◌, ap, subst}
use lib.ListN.{length, set, length-set}
use native.Mathlib.Omega.{arith}
use Rattle.std.proofs.lemmas.Result.{err_from_is_err_and}
use Rattle.bisimulation.proofs.argument.ChoiceLaws.{via}
use Rattle.rules.specs.definitions.Faults as rules
use Rattle.rules.specs.definitions.Reading.{Scan, refused, scan_transitions, place_of, after_transition}
use Rattle.rules.proofs.argument.ReadingLaws.{scan_transitions-turn, scan_transitions-end, refuse-stops, refuse-passes, transition-passed, place_of-next}
use Rattle.limits.specs.TermsBy.{limits_by}
use Rattle.limits.specs.declared.Terms.{Terms}
use Rattle.fault.specs.Faults.{fault_of, Placed}
use Rattle.fault.specs.FaultsLaws.{refuses}
use Rattle.model.specs.Places.{none-held, one-more-held}
use Rattle.model.specs.Scanned.{PlacesHeld, scans}
use Rattle.model.proofs.scan_transitions.Goals as goal

-- the scan of as many from the same source, entries and place
scan-same : (terms : Terms) (s : List ℕ) (n m count left last entries at left' last' entries' at' : ℕ) → left ≡ left' → last ≡ last' → entries ≡ entries' → at ≡ at' → scan_transitions (limits_by terms) s n m count left last entries at ≡ scan_transitions (limits_by terms) s n m count left' last' entries' at'
scan-same terms s n m count left last entries at left' last' entries' at' d e f g = rw (d, e, f, g)

pub overflow_add-n : goal.overflow_add-n
overflow_add-n c = omega arith

pub loop-r-init : goal.loop-r-init
unfolding place_of
loop-r-init c =
    record {
      inside = omega arith;
      few = omega arith;
      size = c.requires.3;
      place = c.new-place.ensures ∙ ap (λ (k : ℕ). 8 + k) c.requires.0;
      held = none-held _ _;
      scan = scan-same _ _ _ _ _ _ _ _ _ _ _ _ _ (omega arith) refl refl c.new-place.ensures;
    }

pub transition_at-requires : goal.transition_at-requires
transition_at-requires c = omega arith

pub returns-in_err-t : goal.returns-in_err-t
returns-in_err-t c =
    let p = err_from_is_err_and c.from_residual.result c.from_residual.ensures.1 in
    let l = c.loop-r in
    let wrong = c.in_err-t.ensures in
    rw (p.1, p.2) (
    scans _
    (ap (refused (fault_of c.in_err-t.field-0.0)) wrong.fault.at
    ∙ via (scan_transitions-turn _ _ _ _ _ (c.args.count - l.r) l.last l.entries l.place.at (omega arith)) (refuse-stops _ _ _ wrong.fault.is (refuses _))
    ∙ l.invariant.scan)
    tt l.invariant.size
    )

pub overflow_add-entries : goal.overflow_add-entries
overflow_add-entries c =
    let read = c.in_ok-t.ensures in
    omega (arith, read.taken.count, (transition-passed _ _ _ _ _ _ _ (ap (λ (f : rules.Fault). f.number) (sym read.fault.is))).few)

pub loop-r-preserved : goal.loop-r-preserved
loop-r-preserved c =
    let l = c.loop-r in
    let a = c.args in
    let s = a.s.now in
    let read = c.in_ok-t.ensures in
    let p = transition-passed (limits_by a.terms) s a.n a.m l.last l.entries l.place.at (ap (λ (f : rules.Fault). f.number) (sym read.fault.is)) in
    record {
      inside = omega (arith, read.taken.next, p.whole);
      few = omega (arith, read.taken.count, p.few);
      size = length-set l.places l.r _ ∙ l.invariant.size;
      place = read.taken.next ∙ ap (after_transition s) l.invariant.place ∙ sym (place_of-next s l.r);
      held = one-more-held s l.places l.r l.place.at l.invariant.held (omega (arith, l.invariant.size)) l.invariant.place;
      scan =
          via (scan_transitions-turn _ _ _ _ _ (a.count - l.r) l.last l.entries l.place.at (omega arith))
          (refuse-passes _ read.fault.is refl (scan-same a.terms _ _ _ _ _ _ _ _ _ _ _ _ (omega arith) read.taken.source (omega (arith, read.taken.count)) read.taken.next))
          ∙ l.invariant.scan;
    }

pub offset_bounds-places-count : goal.offset_bounds-places-count
offset_bounds-places-count c = omega arith

pub bounds-places-count : goal.bounds-places-count
bounds-places-count c = omega arith

pub returns : goal.returns
returns c =
    let l = c.loop-r in
    let a = c.args in
    let z : l.r ≡ a.count = omega arith in
    scans _ (via (scan_transitions-end _ _ _ _ _ (a.count - l.r) l.last l.entries l.place.at (omega arith)) refl ∙ l.invariant.scan)
    (one-more-held a.s.now _ _ _ (subst (λ (k : ℕ). PlacesHeld a.s.now k l.places) z l.invariant.held) (omega arith)
    (l.invariant.place ∙ ap (place_of a.s.now) z))
    (length-set l.places a.count l.place.at ∙ l.invariant.size)
