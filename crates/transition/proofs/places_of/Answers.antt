-- `places_of` meets its contract: each record begins where the one before it ends.
-- the places of the first r transitions stand in the table, and the next one begins here
use Prim.Native.Nat.{ℕ, ◌+◌}
use mathlib.Core.Path.{◌≡◌, sym, ◌∙◌, ap, subst}
use lib.ListN.{length-set}
use native.Mathlib.Omega.{arith}
use Rattle.rules.specs.definitions.Reading.{place_of, after_transition}
use Rattle.rules.proofs.argument.ReadingLaws.{place_of-next}
use Rattle.model.specs.Scanned.{PlacesHeld}
use Rattle.model.specs.Places.{none-held, one-more-held}
use Rattle.transition.specs.KnownLaws.{few-transitions, few-states, with-table}
use Rattle.transition.proofs.places_of.Goals as goal

pub overflow_add-place : goal.overflow_add-place
overflow_add-place c = omega (arith, few-states c.requires.known)

pub loop-r-init : goal.loop-r-init
unfolding place_of
loop-r-init c =
    record {
      here = ap (λ (k : ℕ). 8 + k) c.requires.known.states;
      held = none-held _ _;
      size = sym c.no_places-places.ensures;
    }

pub offset_bounds-places-r : goal.offset_bounds-places-r
offset_bounds-places-r c = omega (arith, few-transitions c.requires.known)

pub bounds-places-r : goal.bounds-places-r
bounds-places-r c = omega (arith, few-transitions c.requires.known)

pub after_transition-place-requires : goal.after_transition-place-requires
after_transition-place-requires c = let s = c.args.s.now in let l = c.loop-r in omega (arith, ap (after_transition s) l.invariant.here, c.requires.known.records l.r (omega arith))

pub loop-r-preserved : goal.loop-r-preserved
loop-r-preserved c =
    let s = c.args.s.now in
    let l = c.loop-r in
    let few = few-transitions c.requires.known in
    record {
      here = c.after_transition-place.ensures ∙ ap (after_transition s) l.invariant.here ∙ sym (place_of-next s l.r);
      held = one-more-held s l.places l.r l.place l.invariant.held (omega (arith, l.invariant.size, few)) l.invariant.here;
      size = length-set l.places l.r l.place ∙ l.invariant.size;
    }

pub offset_bounds-places-count : goal.offset_bounds-places-count
offset_bounds-places-count c = omega (arith, few-transitions c.requires.known)

pub bounds-places-count : goal.bounds-places-count
bounds-places-count c = omega (arith, few-transitions c.requires.known)

pub returns : goal.returns
returns c =
    let s = c.args.s.now in
    let l = c.loop-r in
    let end : l.r ≡ c.args.count = omega arith in
    let few = few-transitions c.requires.known in
    with-table c.requires.known
    (one-more-held s l.places c.args.count l.place (subst (λ (k : ℕ). PlacesHeld s k l.places) end l.invariant.held) (omega (arith, l.invariant.size, few)) (l.invariant.here ∙ ap (place_of s) end))
    (length-set l.places c.args.count l.place ∙ l.invariant.size)
