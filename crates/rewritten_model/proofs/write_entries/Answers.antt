-- `write_entries` meets its contract. The invariant is `ChangingEntries`.
use mathlib.Core.Path.{refl, ap, ◌∙◌}
use native.Mathlib.Omega.{arith}
use Rattle.rules.specs.definitions.LowestTerms.{divided_entry}
use Rattle.transition.specs.EntriesLeft.{entries_left}
use Rattle.writer.specs.ChangedRecords.{entries-start, entries_fit, entries-turn, entries-end}
use Rattle.rewritten_model.proofs.write_entries.Goals as goal

pub entries-entry-items-requires : goal.entries-entry-items-requires
entries-entry-items-requires c = c.requires.entries.inside

pub loop-entry-init : goal.loop-entry-init
loop-entry-init c =
    entries-start _ (ap entries_left c.into_iter-entry-iterator.ensures.into_iter_gives ∙ c.entries-entry-items.ensures) c.requires.entries

pub nonzero_div-entry : goal.nonzero_div-entry
nonzero_div-entry c = omega (arith, c.requires.divisor)

pub entry-next-requires : goal.entry-next-requires
unfolding divided_entry
entry-next-requires c = omega (arith, entries_fit _ c.loop-entry.invariant c.in-Some.ensures.steps)

pub loop-entry-preserved : goal.loop-entry-preserved
unfolding divided_entry
loop-entry-preserved c =
    entries-turn _ c.loop-entry.invariant c.in-Some.ensures.steps refl refl c.entry-next.ensures

pub returns : goal.returns
returns c = entries-end _ c.loop-entry.invariant c.in-None.ensures.steps.0
