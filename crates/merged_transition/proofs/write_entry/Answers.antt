-- `write_entry` meets its contract: a block without a weight has no entry.
use native.Mathlib.Omega.{arith}
use Rattle.merged_transition.specs.WeightsLaws.{entry-room, divided-light, wrote_none, wrote-some}
use Rattle.merged_transition.proofs.write_entry.Goals as goal

pub returns-then-weight-eq0 : goal.returns-then-weight-eq0
returns-then-weight-eq0 c = wrote_none c.requires (omega arith)

pub entry-requires : goal.entry-requires
entry-requires c =
    let h = c.requires in
    (entry-room h (λ e. absurd (omega arith)), omega arith, omega (arith, divided-light h))

pub returns : goal.returns
returns c =
    wrote-some c.requires (λ e. absurd (omega arith)) c.divided.ensures c.entry.ensures
