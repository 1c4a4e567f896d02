-- `write_pairs` meets its contract. The invariant is `Pairing`.
use mathlib.Core.Path.{refl, ap, ◌∙◌}
use native.Mathlib.Omega.{arith}
use Rattle.transition.specs.EntriesLeft.{entries_left}
use Rattle.composed_moves.specs.MoveRecordsLaws.{pairing-start, row-state, row-asks, pairing-turn, pairing-end}
use Rattle.composed_moves.proofs.write_pairs.Goals as goal

pub loop-entry-init : goal.loop-entry-init
loop-entry-init c =
    pairing-start (ap entries_left c.into_iter-entry-iterator.ensures.into_iter_gives ∙ c.entries-entry-items.ensures) c.requires

pub overflow_mul-entry : goal.overflow_mul-entry
overflow_mul-entry c = omega (arith, row-state c.loop-entry.invariant c.in-Some.ensures.steps)

pub write_entries-next-requires : goal.write_entries-next-requires
write_entries-next-requires c =
    row-asks c.loop-entry.invariant c.in-Some.ensures.steps refl c.requires.right_inside

pub loop-entry-preserved : goal.loop-entry-preserved
loop-entry-preserved c =
    pairing-turn c.loop-entry.invariant c.in-Some.ensures.steps c.write_entries-next.ensures

pub returns : goal.returns
returns c = pairing-end c.loop-entry.invariant c.in-None.ensures.steps.0
