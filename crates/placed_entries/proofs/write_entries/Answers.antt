-- `write_entries` meets its contract. The invariant is `ChangingEntries`.
use mathlib.Core.Path.{refl, ap, ◌∙◌}
use native.Mathlib.Omega.{arith}
use Rattle.transition.specs.EntriesLeft.{entries_left}
use Rattle.writer.specs.ChangedRecords.{entries-start, entries_fit, entries-turn, entries-end}
use Rattle.placed_entries.specs.Placed.{placed_entry}
use Rattle.placed_entries.proofs.write_entries.Goals as goal

pub loop-entry-init : goal.loop-entry-init
loop-entry-init c =
    entries-start _ (ap entries_left c.into_iter-entry-iterator.ensures.into_iter_gives ∙ c.entries-entry-items.ensures) c.requires

pub overflow_mul-stride : goal.overflow_mul-stride
unfolding placed_entry
overflow_mul-stride c = omega (arith, (entries_fit _ c.loop-entry.invariant c.in-Some.ensures.steps).0)

pub overflow_add-stride : goal.overflow_add-stride
unfolding placed_entry
overflow_add-stride c = omega (arith, (entries_fit _ c.loop-entry.invariant c.in-Some.ensures.steps).0)

pub overflow_mul-factor : goal.overflow_mul-factor
unfolding placed_entry
overflow_mul-factor c = omega (arith, (entries_fit _ c.loop-entry.invariant c.in-Some.ensures.steps).0)

pub entry-next-requires : goal.entry-next-requires
unfolding placed_entry
entry-next-requires c = omega (arith, entries_fit _ c.loop-entry.invariant c.in-Some.ensures.steps)

pub loop-entry-preserved : goal.loop-entry-preserved
unfolding placed_entry
loop-entry-preserved c =
    entries-turn _ c.loop-entry.invariant c.in-Some.ensures.steps refl refl c.entry-next.ensures

pub returns : goal.returns
returns c = entries-end _ c.loop-entry.invariant c.in-None.ensures.steps.0
