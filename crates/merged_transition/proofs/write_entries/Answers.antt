-- `write_entries` meets its contract. The invariant is `Writing`.
use mathlib.Core.Path.{refl}
use Rattle.merged_transition.specs.WeightsLaws.{writing_start, writing-asks, writing-turn, writing-end, writing-full}
use Rattle.merged_transition.proofs.write_entries.Goals as goal

pub loop-b-init : goal.loop-b-init
loop-b-init c = writing_start c.requires

pub returns-then-next-end : goal.returns-then-next-end
returns-then-next-end c = writing-full c.loop-b.invariant refl c.if-next-end.true

pub write_entry-next-requires : goal.write_entry-next-requires
write_entry-next-requires c = writing-asks c.loop-b.invariant c.loop-b-test.true

pub loop-b-preserved : goal.loop-b-preserved
loop-b-preserved c = writing-turn c.loop-b.invariant c.loop-b-test.true c.write_entry-next.ensures

pub returns : goal.returns
returns c = writing-end c.loop-b.invariant c.loop-b-test.false
