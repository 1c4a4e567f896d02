-- `entries_at` meets its contract. The invariant: the entries left have the fault of all, where the states so far are in range.
use native.Mathlib.Omega.{arith}
use Prim.Native.Nat.{ℕ, ◌+◌, ◌-◌}
use mathlib.Core.List.{List}
use mathlib.Core.Path.{◌≡◌, refl, ◌∙◌}
use Rattle.bisimulation.proofs.argument.ChoiceLaws.{same, not_same}
use Rattle.rules.specs.definitions.Faults.{Fault}
use Rattle.rules.proofs.argument.ReadingLaws.{EntriesSoFar, entry-descends, entry-empty, entry_follows, entries-start, entries-end}
use Rattle.field.specs.Taken.{taken_at}
use Rattle.transition_entries.proofs.entries_at.Goals as goal

-- how many are left, and the lowest state that may follow
from_lowest : {s : List ℕ} {n d left at low total : ℕ} {whole : Fault} → EntriesSoFar s n d left at low total whole → (rest lowest : ℕ) → rest ≡ left → lowest ≡ low → EntriesSoFar s n d rest at lowest total whole
from_lowest h rest lowest r e = rw (r, e) h

pub loop-init : goal.loop-init
loop-init c = (omega arith, omega arith, from_lowest (entries-start _ _ _ _ _ _ refl) _ 0 (omega arith) refl)

pub byte-state-requires : goal.byte-state-requires
byte-state-requires c = omega arith

pub pair-weight-requires : goal.pair-weight-requires
pair-weight-requires c = omega arith

pub returns-then-v-lowest : goal.returns-then-v-lowest
returns-then-v-lowest c = record { fault = c.fault.ensures ∙ entry-descends _ _ _ _ _ _ _ _ c.loop.invariant.2 (omega arith) (omega arith); next = tt }

pub returns-then-p-eq0 : goal.returns-then-p-eq0
returns-then-p-eq0 c =
    record { fault = c.fault-then-p-eq0.ensures ∙ entry-empty _ _ _ _ _ _ _ _ c.loop.invariant.2 (omega arith) (omega arith) (omega (arith, taken_at c.pair-weight.ensures (c.loop.place.at + 1) (omega arith))); next = tt }

pub overflow_add-lowest : goal.overflow_add-lowest
overflow_add-lowest c = omega arith

pub overflow_add-total : goal.overflow_add-total
overflow_add-total c = omega arith

pub loop-preserved : goal.loop-preserved
loop-preserved c =
    let l = c.loop in (
      omega arith,
      omega arith,
      from_lowest
          (entry_follows _ _ _ _ _ _ _ _ l.invariant.2 (omega arith) _ _ _ c.byte-state.ensures.value
          (taken_at c.pair-weight.ensures (l.place.at + 1) (omega arith)) (omega arith) (omega arith) (omega arith))
          _ _ (omega arith) (omega arith),
    )

pub returns-then-n-lowest : goal.returns-then-n-lowest
returns-then-n-lowest c = record { fault = c.fault-then-n-lowest.ensures ∙ c.loop.invariant.2.out_of_range (omega arith); next = tt }

pub returns-then-total-denominator : goal.returns-then-total-denominator
returns-then-total-denominator c =
    record { fault = c.fault-then-total-denominator.ensures ∙ not_same _ (omega arith) refl ∙ entries-end _ _ _ _ _ _ _ _ c.loop.invariant.2 (omega arith) (omega arith); next = tt }

pub returns : goal.returns
returns c = record { fault = same _ (omega arith) refl ∙ entries-end _ _ _ _ _ _ _ _ c.loop.invariant.2 (omega arith) (omega arith); next = omega arith }
