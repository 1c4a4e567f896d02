-- `write_partners` meets its contract. The invariant is `RunLoop`.
use native.Mathlib.Omega.{arith}
use Rattle.composed_states.specs.RunLoops.{run-start, run-turn, run_end}
use Rattle.composed_states.specs.RecordsLaws.{partners-of-run}
use Rattle.composed_states.specs.MovesLaws.{partners-ask}
use Rattle.composed_states.proofs.write_partners.Goals as goal

pub loop-partner-init : goal.loop-partner-init
loop-partner-init c = let p = c.requires in run-start (partners-of-run _ _ _ p.leaving) p.room

pub write_partner-next-requires : goal.write_partner-next-requires
write_partner-next-requires c = partners-ask c.requires c.loop-partner.invariant (omega arith)

pub loop-partner-preserved : goal.loop-partner-preserved
loop-partner-preserved c =
    run-turn (partners-of-run _ _ _ c.requires.leaving) c.loop-partner.invariant (omega arith) c.write_partner-next.ensures

pub returns : goal.returns
returns c =
    run_end (partners-of-run _ _ _ c.requires.leaving) c.loop-partner.invariant (omega arith)
