-- `arrive` meets its contract. The invariant is `Arriving`.
use mathlib.Core.Path.{ap, ◌∙◌}
use mir.Facts.{to_z-of_z}
use native.Mathlib.Omega.{arith}
use Rattle.transition.specs.EntriesLeft.{entries_left}
use Rattle.remainders.specs.MovingLaws.{entries-inside, arriving-start, arriving-asks, arriving-turn, arriving-end}
use Rattle.remainders.proofs.arrive.Goals as goal

pub entries-entry-items-requires : goal.entries-entry-items-requires
entries-entry-items-requires c = omega (arith, entries-inside c.requires c.fields_of-t.ensures)

pub loop-entry-init : goal.loop-entry-init
loop-entry-init c =
    rw (to_z-of_z c.ranges.factor)
    (arriving-start c.requires c.fields_of-t.ensures (ap entries_left c.into_iter-entry-iterator.ensures.into_iter_gives ∙ c.entries-entry-items.ensures))

pub overflow_add-first : goal.overflow_add-first
overflow_add-first c =
    let asks = arriving-asks c.loop-entry.invariant c.in-Some.ensures.steps in
    record { fits = omega (arith, asks.inside) }

pub add-now_nonzero-requires : goal.add-now_nonzero-requires
add-now_nonzero-requires c = arriving-asks c.loop-entry.invariant c.in-Some.ensures.steps

pub loop-entry-preserved : goal.loop-entry-preserved
loop-entry-preserved c =
    arriving-turn c.loop-entry.invariant c.in-Some.ensures.steps c.add-now_nonzero.ensures

pub returns : goal.returns
returns c =
    rw (to_z-of_z c.ranges.factor) at (arriving-end c.loop-entry.invariant c.in-None.ensures.steps.0)
